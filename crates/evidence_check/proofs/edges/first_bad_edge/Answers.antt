use Rattle.std.proofs.Common.{ℕ, ◌<◌, ◌≤◌, [], List, length, slice_index_or, arith}
use Rattle.std.proofs.lemmas.List.Elements.{Contains-get_or}
use Rattle.std.proofs.lemmas.Option.{slice_get-get_or, slice_get_within}
use Rattle.topology.specs.declared.limits.TheConstants.{ROUTERS_MOST}
use Rattle.reverse_flood.specs.declared.graphs.Edge.{Edge}
use Rattle.reverse_flood.specs.Flood.{net_of}
use Rattle.evidence_check.specs.Evidence.{stated_links}
use Rattle.evidence_check.specs.Judging.{EdgeAt}
use Rattle.evidence_check.specs.Lines.{ExistEnds}
use Rattle.evidence_check.proofs.EdgeFacts.{edge_low, edge_more, edge_unfit}
use Rattle.evidence_check.proofs.NodeFacts.{held_more}
use Rattle.evidence_check.proofs.edges.first_bad_edge.Goals as goal

abbrev blank : Edge
blank = record { down = record { router = record { number = 0 }; sig = record { bytes = [] } }; up = record { router = record { number = 0 }; sig = record { bytes = [] } } }

pub is_way-requires-clause-down : goal.is_way-requires-clause-down
is_way-requires-clause-down g c =
    let lt : c.loop-place.place < length c.args.edges.now = omega (arith, c.loop-place-test.true) in
    c.requires.exist.down _ (Contains-get_or c.args.edges.now c.loop-place.place blank lt)

pub is_way-requires-clause-up : goal.is_way-requires-clause-up
is_way-requires-clause-up g c =
    let lt : c.loop-place.place < length c.args.edges.now = omega (arith, c.loop-place-test.true) in
    c.requires.exist.up _ (Contains-get_or c.args.edges.now c.loop-place.place blank lt)

pub loop-place-init : goal.loop-place-init
loop-place-init g c = record {
  within = omega arith;
  knows = c.none-last.ensures (net_of g.S.Sighting.shown c.args.sights.now (stated_links c.args.links.now));
  holds = λ nodes noted i l. let none : ⊥ = omega (arith, l) in absurd none;
}

few_down : (edges : List Edge) (routers place : ℕ) → ExistEnds routers edges → routers ≤ ROUTERS_MOST → place < length edges → (slice_index_or edges place blank).down.router.number < ROUTERS_MOST
few_down edges routers place exist few lt = let l = exist.down _ (Contains-get_or edges place blank lt) in omega (arith, l, few)

few_up : (edges : List Edge) (routers place : ℕ) → ExistEnds routers edges → routers ≤ ROUTERS_MOST → place < length edges → (slice_index_or edges place blank).up.router.number < ROUTERS_MOST
few_up edges routers place exist few lt = let l = exist.up _ (Contains-get_or edges place blank lt) in omega (arith, l, few)

pub returns-then-not-is_above : goal.returns-then-not-is_above
returns-then-not-is_above g c = λ nodes noted.
    let net = net_of g.S.Sighting.shown c.args.sights.now (stated_links c.args.links.now) in
    let lt : c.loop-place.place < length c.args.edges.now = omega (arith, c.loop-place-test.true) in
    let e : Edge = slice_index_or c.args.edges.now c.loop-place.place blank in
    let at = slice_get-get_or c.args.edges.now c.loop-place.place blank lt in
    (lt, c.loop-place.invariant.holds nodes noted, edge_low net c.args.pairs.now nodes c.args.edges.now c.loop-place.place e at c.is_above.result (c.is_above.ensures e at) c.if-not-is_above.true)

pub returns-then-not-way : goal.returns-then-not-way
returns-then-not-way g c = λ nodes noted.
    let net = net_of g.S.Sighting.shown c.args.sights.now (stated_links c.args.links.now) in
    let lt : c.loop-place.place < length c.args.edges.now = omega (arith, c.loop-place-test.true) in
    let e : Edge = slice_index_or c.args.edges.now c.loop-place.place blank in
    let at = slice_get-get_or c.args.edges.now c.loop-place.place blank lt in
    let down = few_down c.args.edges.now (length c.args.sights.now) c.loop-place.place c.requires.exist c.requires.few lt in
    let up = few_up c.args.edges.now (length c.args.sights.now) c.loop-place.place c.requires.exist c.requires.few lt in
    (lt, c.loop-place.invariant.holds nodes noted, edge_unfit net c.args.pairs.now nodes c.args.edges.now c.loop-place.place e at c.in_ok-way.way down up noted c.in_ok-way.ensures.way c.if-not-way.true)

pub loop-place-preserved : goal.loop-place-preserved
loop-place-preserved g c =
    let net = net_of g.S.Sighting.shown c.args.sights.now (stated_links c.args.links.now) in
    let lt : c.loop-place.place < length c.args.edges.now = omega (arith, c.loop-place-test.true) in
    let e : Edge = slice_index_or c.args.edges.now c.loop-place.place blank in
    let at = slice_get-get_or c.args.edges.now c.loop-place.place blank lt in
    let down = few_down c.args.edges.now (length c.args.sights.now) c.loop-place.place c.requires.exist c.requires.few lt in
    let up = few_up c.args.edges.now (length c.args.sights.now) c.loop-place.place c.requires.exist c.requires.few lt in
    let above = c.is_above.ensures e at in
    record {
      within = omega (arith, lt);
      knows = c.in_ok-way.ensures.knows;
      holds = λ nodes noted. held_more (EdgeAt net nodes c.args.edges.now) c.loop-place.place (c.loop-place.invariant.holds nodes noted)
          (edge_more net c.args.pairs.now nodes c.args.edges.now c.loop-place.place e at down up noted (above.0 c.if-not-is_above.false) (c.in_ok-way.ensures.way.0 c.if-not-way.false));
    }

pub returns : goal.returns
returns g c = λ nodes noted place e at.
    let l : place < length c.args.edges.now = slice_get_within c.args.edges.now place e at in
    c.loop-place.invariant.holds nodes noted place (omega (arith, l, c.loop-place-test.false)) e at
