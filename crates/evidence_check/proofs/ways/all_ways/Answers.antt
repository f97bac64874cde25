use Rattle.std.proofs.Common.{◌<◌, ◌↔◌, [], length, slice_index_or, None, arith, refl}
use Rattle.std.proofs.lemmas.Bool.{false≢true}
use Rattle.std.proofs.lemmas.List.Elements.{Contains-get_or}
use Rattle.std.proofs.lemmas.Option.{slice_get-get_or, slice_get_within}
use Rattle.reverse_flood.specs.declared.graphs.Node.{Node}
use Rattle.reverse_flood.specs.Flood.{net_of, IsStep}
use Rattle.evidence_text.specs.declared.certificates.Named.{Named}
use Rattle.evidence_check.specs.Evidence.{stated_links}
use Rattle.evidence_check.specs.Pairs.{WaysAt}
use Rattle.evidence_check.proofs.NodeFacts.{held_more}
use Rattle.evidence_check.proofs.WayFacts.{ways_fail, ways_more}
use Rattle.evidence_check.proofs.ways.all_ways.Goals as goal

abbrev blank : Named
blank = record { node = record { router = record { number = 0 }; sig = record { bytes = [] } }; from = None }

pub steps_have_ways-requires-clause-exists : goal.steps_have_ways-requires-clause-exists
steps_have_ways-requires-clause-exists g c =
    let lt : c.loop-place.place < length c.args.nodes.now = omega (arith, c.loop-place-test.true) in
    c.requires.exist _ (Contains-get_or c.args.nodes.now c.loop-place.place blank lt)

pub returns-then-not-told : goal.returns-then-not-told
returns-then-not-told g c =
    let net = net_of g.S.Sighting.shown c.args.sights.now (stated_links c.args.links.now) in
    let lt : c.loop-place.place < length c.args.nodes.now = omega (arith, c.loop-place-test.true) in
    let x : Named = slice_index_or c.args.nodes.now c.loop-place.place blank in
    let at = slice_get-get_or c.args.nodes.now c.loop-place.place blank lt in
    let same : (n : Node) → IsStep net x.node n ↔ IsStep net x.node n = λ n. ((λ h. h), (λ h. h)) in
    ((λ t. absurd (false≢true t)), (λ all. absurd (ways_fail net c.args.pairs.now c.args.edges.now c.args.nodes.now c.loop-place.place x (IsStep net x.node) at same c.in_ok-told.told c.in_ok-told.ensures c.if-not-told.true (all c.loop-place.place))))

pub loop-place-preserved : goal.loop-place-preserved
loop-place-preserved g c =
    let net = net_of g.S.Sighting.shown c.args.sights.now (stated_links c.args.links.now) in
    let lt : c.loop-place.place < length c.args.nodes.now = omega (arith, c.loop-place-test.true) in
    let x : Named = slice_index_or c.args.nodes.now c.loop-place.place blank in
    let at = slice_get-get_or c.args.nodes.now c.loop-place.place blank lt in
    let same : (n : Node) → IsStep net x.node n ↔ IsStep net x.node n = λ n. ((λ h. h), (λ h. h)) in
    record {
      within = omega (arith, lt);
      held = held_more (WaysAt net c.args.pairs.now c.args.edges.now c.args.nodes.now) c.loop-place.place c.loop-place.invariant.held
          (ways_more net c.args.pairs.now c.args.edges.now c.args.nodes.now c.loop-place.place x (IsStep net x.node) at same (c.in_ok-told.ensures.0 c.if-not-told.false));
    }

pub returns : goal.returns
returns g c = (
  (λ t place x e.
      let l = slice_get_within c.args.nodes.now place x e in
      c.loop-place.invariant.held place (omega (arith, l, c.loop-place-test.false)) x e),
  (λ all. refl),
)
