use Rattle.std.proofs.Common.{◌≡◌, ◌∙◌, ◌<◌, ◌↔◌, inl, true, [], List, length, slice_index_or, None, arith, refl, sym, subst}
use Rattle.std.proofs.lemmas.Bool.{false≢true}
use Rattle.std.proofs.lemmas.List.Elements.{Contains-get_or}
use Rattle.std.proofs.lemmas.Option.{slice_get-get_or}
use Rattle.reverse_flood.specs.declared.graphs.Node.{Node}
use Rattle.reverse_flood.specs.Flood.{net_of, IsStep}
use Rattle.evidence_text.specs.declared.certificates.Named.{Named}
use Rattle.evidence_check.specs.Evidence.{stated_links}
use Rattle.evidence_check.specs.Judging.{IsAskedBy, named_node}
use Rattle.evidence_check.specs.Pairs.{AreListed, is_listed}
use Rattle.evidence_check.proofs.EndFacts.{listed_more, steps_listed}
use Rattle.evidence_check.proofs.NodeFacts.{taken_all}
use Rattle.evidence_check.proofs.WalkFacts.{asked_start}
use Rattle.evidence_check.proofs.ends.all_listed.Goals as goal

abbrev blank : Named
blank = record { node = record { router = record { number = 0 }; sig = record { bytes = [] } }; from = None }

pub returns-then-not-is_listed : goal.returns-then-not-is_listed
returns-then-not-is_listed g c = ((λ t. absurd (false≢true t)), (λ all. absurd (false≢true (sym (sym c.is_listed.ensures ∙ c.if-not-is_listed.true) ∙ all c.args.start.now (inl refl)))))

pub loop-place-init : goal.loop-place-init
loop-place-init g c =
    let net = net_of g.S.Sighting.shown c.args.sights.now (stated_links c.args.links.now) in
    record {
      within = omega arith;
      listed = λ n asked.
          let P : Node → Type 0 = λ m. is_listed c.args.pairs.now m ≡ true in
          let s = asked_start net c.args.start.now c.args.nodes.now n in
          subst P (s.1 asked) (sym c.is_listed.ensures ∙ c.if-not-is_listed.false);
    }

pub steps_listed-requires-clause-exists : goal.steps_listed-requires-clause-exists
steps_listed-requires-clause-exists g c =
    let lt : c.loop-place.place < length c.args.nodes.now = omega (arith, c.loop-place-test.true) in
    c.requires.exist _ (Contains-get_or c.args.nodes.now c.loop-place.place blank lt)

pub returns-then-not-listed : goal.returns-then-not-listed
returns-then-not-listed g c =
    let net = net_of g.S.Sighting.shown c.args.sights.now (stated_links c.args.links.now) in
    let lt : c.loop-place.place < length c.args.nodes.now = omega (arith, c.loop-place-test.true) in
    let x : Named = slice_index_or c.args.nodes.now c.loop-place.place blank in
    let at = slice_get-get_or c.args.nodes.now c.loop-place.place blank lt in
    let same : (n : Node) → IsStep net x.node n ↔ IsStep net x.node n = λ n. ((λ h. h), (λ h. h)) in
    ((λ t. absurd (false≢true t)), (λ all. absurd (false≢true (sym c.if-not-listed.true ∙ c.in_ok-listed.ensures.1 (steps_listed net c.args.pairs.now c.args.start.now c.args.nodes.now c.loop-place.place x (IsStep net x.node) at same all)))))

pub loop-place-preserved : goal.loop-place-preserved
loop-place-preserved g c =
    let net = net_of g.S.Sighting.shown c.args.sights.now (stated_links c.args.links.now) in
    let lt : c.loop-place.place < length c.args.nodes.now = omega (arith, c.loop-place-test.true) in
    let x : Named = slice_index_or c.args.nodes.now c.loop-place.place blank in
    let at = slice_get-get_or c.args.nodes.now c.loop-place.place blank lt in
    let same : (n : Node) → IsStep net x.node n ↔ IsStep net x.node n = λ n. ((λ h. h), (λ h. h)) in
    record {
      within = omega (arith, lt);
      listed = listed_more net c.args.pairs.now c.args.start.now c.args.nodes.now c.loop-place.place x (IsStep net x.node) at same (c.in_ok-listed.ensures.0 c.if-not-listed.false) c.loop-place.invariant.listed;
    }

pub returns : goal.returns
returns g c =
    let net = net_of g.S.Sighting.shown c.args.sights.now (stated_links c.args.links.now) in
    let whole : c.loop-place.place ≡ length c.args.nodes.now = omega (arith, c.loop-place.invariant.within, c.loop-place-test.false) in
    let P : List Node → Type 0 = λ l. AreListed c.args.pairs.now (IsAskedBy net c.args.start.now l) in
    ((λ t. subst P (taken_all named_node c.args.nodes.now c.loop-place.place whole) c.loop-place.invariant.listed), (λ all. refl))
