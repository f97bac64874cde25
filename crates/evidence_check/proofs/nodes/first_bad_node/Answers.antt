use Rattle.std.proofs.Common.{◌≡◌, ◌<◌, [], List, length, slice_index_or, None, arith, subst}
use Rattle.std.proofs.lemmas.List.Elements.{Contains-get_or}
use Rattle.std.proofs.lemmas.Option.{slice_get-get_or, slice_get_within}
use Rattle.reverse_flood.specs.declared.graphs.Node.{Node}
use Rattle.reverse_flood.specs.Flood.{net_of}
use Rattle.evidence_text.specs.declared.certificates.Named.{Named}
use Rattle.evidence_check.specs.Evidence.{stated_links}
use Rattle.evidence_check.specs.Judging.{NodeAt, named_node}
use Rattle.evidence_check.specs.Pairs.{AreNoted}
use Rattle.evidence_check.proofs.PairFacts.{fresh_more}
use Rattle.evidence_check.proofs.NodeFacts.{held_more, node_at_more, node_fails, noted_more, taken_all}
use Rattle.evidence_check.proofs.nodes.first_bad_node.Goals as goal

abbrev blank : Named
blank = record { node = record { router = record { number = 0 }; sig = record { bytes = [] } }; from = None }

pub loop-place-init : goal.loop-place-init
loop-place-init g c = record {
  within = omega arith;
  knows = c.none-last.ensures (net_of g.S.Sighting.shown c.args.sights.now (stated_links c.args.links.now));
  holds = λ i l. let none : ⊥ = omega (arith, l) in absurd none;
  fine = c.requires.fine;
  fresh = c.requires.fresh;
  noted = c.requires.none;
}

pub node_holds-requires-clause-exists : goal.node_holds-requires-clause-exists
node_holds-requires-clause-exists g c =
    let lt : c.loop-place.place < length c.args.nodes.now = omega (arith, c.loop-place-test.true) in
    c.requires.exist _ (Contains-get_or c.args.nodes.now c.loop-place.place blank lt)

pub note-requires-clause-few : goal.note-requires-clause-few
note-requires-clause-few g c =
    let lt : c.loop-place.place < length c.args.nodes.now = omega (arith, c.loop-place-test.true) in
    let exists = c.requires.exist _ (Contains-get_or c.args.nodes.now c.loop-place.place blank lt) in
    omega (arith, exists, c.requires.few)

pub returns-then-not-right-clause-first : goal.returns-then-not-right-clause-first
returns-then-not-right-clause-first g c =
    let net = net_of g.S.Sighting.shown c.args.sights.now (stated_links c.args.links.now) in
    let lt : c.loop-place.place < length c.args.nodes.now = omega (arith, c.loop-place-test.true) in
    let x : Named = slice_index_or c.args.nodes.now c.loop-place.place blank in (
      lt,
      c.loop-place.invariant.holds,
      node_fails net c.args.start.now c.args.nodes.now c.loop-place.place x c.in_ok-right.right (slice_get-get_or c.args.nodes.now c.loop-place.place blank lt) c.in_ok-right.ensures.holds c.if-not-right.true,
    )

pub loop-place-preserved : goal.loop-place-preserved
loop-place-preserved g c =
    let net = net_of g.S.Sighting.shown c.args.sights.now (stated_links c.args.links.now) in
    let lt : c.loop-place.place < length c.args.nodes.now = omega (arith, c.loop-place-test.true) in
    let x : Named = slice_index_or c.args.nodes.now c.loop-place.place blank in
    let at = slice_get-get_or c.args.nodes.now c.loop-place.place blank lt in
    record {
      within = omega (arith, lt);
      knows = c.in_ok-right.ensures.knows;
      holds = held_more (NodeAt net c.args.start.now c.args.nodes.now) c.loop-place.place c.loop-place.invariant.holds
          (node_at_more net c.args.start.now c.args.nodes.now c.loop-place.place x at (c.in_ok-right.ensures.holds.0 c.if-not-right.false));
      fine = c.in_ok-note.ensures.fine;
      fresh = fresh_more c.loop-place.pairs c.note.new.self x.node c.in_ok-note.ensures.cells c.loop-place.invariant.fresh;
      noted = noted_more c.loop-place.pairs c.note.new.self c.args.nodes.now c.loop-place.place x at c.in_ok-note.ensures.cells c.loop-place.invariant.noted;
    }

pub returns-clause-first : goal.returns-clause-first
returns-clause-first g c = λ place x e.
    let l : place < length c.args.nodes.now = slice_get_within c.args.nodes.now place x e in
    c.loop-place.invariant.holds place (omega (arith, l, c.loop-place-test.false)) x e

pub returns-clause-noted : goal.returns-clause-noted
returns-clause-noted g c = λ _.
    let whole : c.loop-place.place ≡ length c.args.nodes.now = omega (arith, c.loop-place.invariant.within, c.loop-place-test.false) in
    let P : List Node → Type 0 = λ l. AreNoted c.loop-place.pairs l in
    subst P (taken_all named_node c.args.nodes.now c.loop-place.place whole) c.loop-place.invariant.noted
