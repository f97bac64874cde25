use Rattle.std.proofs.Common.{◌∙◌, ◌<◌, ◌≤◌, [], length, slice_index_or, arith, refl, sym}
use Rattle.std.proofs.lemmas.Bool.{false≢true}
use Rattle.std.proofs.lemmas.List.Elements.{Contains-get_or}
use Rattle.std.proofs.lemmas.Option.{slice_get-get_or}
use Rattle.reverse_flood.specs.declared.graphs.Node.{Node}
use Rattle.evidence_check.proofs.EndFacts.{ListedAt, listed_all, listed_at, unlisted}
use Rattle.evidence_check.proofs.NodeFacts.{held_more}
use Rattle.evidence_check.proofs.ends.are_listed.Goals as goal

abbrev blank : Node
blank = record { router = record { number = 0 }; sig = record { bytes = [] } }

pub is_listed-requires-clause-few : goal.is_listed-requires-clause-few
is_listed-requires-clause-few c =
    let lt : c.loop-next.next < length c.args.steps.now = omega (arith, c.loop-next-test.true) in
    c.requires.few _ (Contains-get_or c.args.steps.now c.loop-next.next blank lt)

pub returns-then-not-is_listed : goal.returns-then-not-is_listed
returns-then-not-is_listed c =
    let lt : c.loop-next.next < length c.args.steps.now = omega (arith, c.loop-next-test.true) in
    let x : Node = slice_index_or c.args.steps.now c.loop-next.next blank in
    let at = slice_get-get_or c.args.steps.now c.loop-next.next blank lt in
    ((λ t. absurd (false≢true t)), (λ all. absurd (unlisted c.args.pairs.now c.args.steps.now c.loop-next.next x at (sym c.is_listed.ensures ∙ c.if-not-is_listed.true) all)))

pub loop-next-preserved : goal.loop-next-preserved
loop-next-preserved c =
    let lt : c.loop-next.next < length c.args.steps.now = omega (arith, c.loop-next-test.true) in
    let x : Node = slice_index_or c.args.steps.now c.loop-next.next blank in
    let at = slice_get-get_or c.args.steps.now c.loop-next.next blank lt in
    record {
      within = omega (arith, lt);
      listed = held_more (ListedAt c.args.pairs.now c.args.steps.now) c.loop-next.next c.loop-next.invariant.listed
          (listed_at c.args.pairs.now c.args.steps.now c.loop-next.next x at (sym c.is_listed.ensures ∙ c.if-not-is_listed.false));
    }

pub returns : goal.returns
returns c =
    let whole : length c.args.steps.now ≤ c.loop-next.next = omega (arith, c.loop-next-test.false) in
    ((λ t. listed_all c.args.pairs.now c.args.steps.now c.loop-next.next whole c.loop-next.invariant.listed), (λ all. refl))
