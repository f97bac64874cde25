use Rattle.std.proofs.Common.{◌<◌, ◌≤◌, [], length, slice_index_or, arith, refl}
use Rattle.std.proofs.lemmas.Bool.{false≢true}
use Rattle.std.proofs.lemmas.List.Elements.{Contains-get_or}
use Rattle.std.proofs.lemmas.Option.{slice_get-get_or}
use Rattle.reverse_flood.specs.declared.graphs.Node.{Node}
use Rattle.evidence_check.proofs.NodeFacts.{held_more}
use Rattle.evidence_check.proofs.WayFacts.{WayAt, way_at, way_missing, ways_all}
use Rattle.evidence_check.proofs.ways.have_ways.Goals as goal

abbrev blank : Node
blank = record { router = record { number = 0 }; sig = record { bytes = [] } }

pub has_way-requires-clause-few : goal.has_way-requires-clause-few
has_way-requires-clause-few c =
    let lt : c.loop-next.next < length c.args.steps.now = omega (arith, c.loop-next-test.true) in
    c.requires.few _ (Contains-get_or c.args.steps.now c.loop-next.next blank lt)

pub returns-then-not-has_way : goal.returns-then-not-has_way
returns-then-not-has_way c =
    let lt : c.loop-next.next < length c.args.steps.now = omega (arith, c.loop-next-test.true) in
    let x : Node = slice_index_or c.args.steps.now c.loop-next.next blank in
    let at = slice_get-get_or c.args.steps.now c.loop-next.next blank lt in
    ((λ t. absurd (false≢true t)), (λ all. absurd (way_missing c.args.pairs.now c.args.edges.now c.args.down.now c.args.steps.now c.loop-next.next x c.has_way.result at c.has_way.ensures c.if-not-has_way.true all)))

pub loop-next-preserved : goal.loop-next-preserved
loop-next-preserved c =
    let lt : c.loop-next.next < length c.args.steps.now = omega (arith, c.loop-next-test.true) in
    let x : Node = slice_index_or c.args.steps.now c.loop-next.next blank in
    let at = slice_get-get_or c.args.steps.now c.loop-next.next blank lt in
    record {
      within = omega (arith, lt);
      held = held_more (WayAt c.args.pairs.now c.args.edges.now c.args.down.now c.args.steps.now) c.loop-next.next c.loop-next.invariant.held
          (way_at c.args.pairs.now c.args.edges.now c.args.down.now c.args.steps.now c.loop-next.next x at (c.has_way.ensures.0 c.if-not-has_way.false));
    }

pub returns : goal.returns
returns c =
    let whole : length c.args.steps.now ≤ c.loop-next.next = omega (arith, c.loop-next-test.false) in
    ((λ t. ways_all c.args.pairs.now c.args.edges.now c.args.down.now c.args.steps.now c.loop-next.next whole c.loop-next.invariant.held), (λ all. refl))
