use Rattle.std.proofs.Common.{◌≡◌, ℕ, ◌<◌, ◌≤◌, [], List, length, take, slice_index_or, arith, subst, sym}
use Rattle.std.proofs.lemmas.List.Elements.{Contains-get_or}
use Rattle.std.proofs.lemmas.Option.{slice_get-get_or, slice_get_within}
use Rattle.topology.specs.declared.limits.TheConstants.{ROUTERS_MOST}
use Rattle.reverse_flood.specs.declared.graphs.Node.{Node}
use Rattle.reverse_flood.specs.Flood.{net_of}
use Rattle.reverse_flood.proofs.WayFacts.{take_done}
use Rattle.evidence_check.specs.Evidence.{stated_links}
use Rattle.evidence_check.specs.Lines.{Exist}
use Rattle.evidence_check.specs.Pairs.{LeftAtIn, Tells}
use Rattle.evidence_check.proofs.LeftFacts.{left_low, left_more, left_unfit, taken_more, tells_more, tells_none}
use Rattle.evidence_check.proofs.NodeFacts.{held_more}
use Rattle.evidence_check.proofs.left.first_bad_left.Goals as goal

abbrev blank : Node
blank = record { router = record { number = 0 }; sig = record { bytes = [] } }

exists_at : (left : List Node) (routers place : ℕ) → Exist routers left → place < length left → (slice_index_or left place blank).router.number < routers
exists_at left routers place exist lt = exist _ (Contains-get_or left place blank lt)

few_at : (left : List Node) (routers place : ℕ) → Exist routers left → routers ≤ ROUTERS_MOST → place < length left → (slice_index_or left place blank).router.number < ROUTERS_MOST
few_at left routers place exist few lt = let l = exists_at left routers place exist lt in omega (arith, l, few)

pub loop-place-init : goal.loop-place-init
loop-place-init g c = record {
  within = omega arith;
  holds = λ i l. let none : ⊥ = omega (arith, l) in absurd none;
  fine = c.requires.fine;
  told = tells_none c.args.pairs.now;
}

pub is_left-requires-clause-exists : goal.is_left-requires-clause-exists
is_left-requires-clause-exists g c =
    exists_at c.args.left.now (length c.args.sights.now) c.loop-place.place c.requires.exist (omega (arith, c.loop-place-test.true))

pub note-requires-clause-few : goal.note-requires-clause-few
note-requires-clause-few g c =
    few_at c.args.left.now (length c.args.sights.now) c.loop-place.place c.requires.exist c.requires.few (omega (arith, c.loop-place-test.true))

pub returns-then-not-is_above-clause-first : goal.returns-then-not-is_above-clause-first
returns-then-not-is_above-clause-first g c =
    let net = net_of g.S.Sighting.shown c.args.sights.now (stated_links c.args.links.now) in
    let lt : c.loop-place.place < length c.args.left.now = omega (arith, c.loop-place-test.true) in
    let x : Node = slice_index_or c.args.left.now c.loop-place.place blank in
    let at = slice_get-get_or c.args.left.now c.loop-place.place blank lt in
    (lt, c.loop-place.invariant.holds, left_low net c.args.pairs.now c.args.misses c.args.left.now c.loop-place.place x at c.is_above.result (c.is_above.ensures x at) c.if-not-is_above.true)

pub returns-then-not-is_left-clause-first : goal.returns-then-not-is_left-clause-first
returns-then-not-is_left-clause-first g c =
    let net = net_of g.S.Sighting.shown c.args.sights.now (stated_links c.args.links.now) in
    let lt : c.loop-place.place < length c.args.left.now = omega (arith, c.loop-place-test.true) in
    let x : Node = slice_index_or c.args.left.now c.loop-place.place blank in
    let at = slice_get-get_or c.args.left.now c.loop-place.place blank lt in
    let few = few_at c.args.left.now (length c.args.sights.now) c.loop-place.place c.requires.exist c.requires.few lt in
    (lt, c.loop-place.invariant.holds, left_unfit net c.args.pairs.now c.args.misses c.args.left.now c.loop-place.place x at c.loop-place.pairs c.is_left.result (c.loop-place.invariant.told.asked x few) c.is_left.ensures c.if-not-is_left.true)

pub loop-place-preserved : goal.loop-place-preserved
loop-place-preserved g c =
    let net = net_of g.S.Sighting.shown c.args.sights.now (stated_links c.args.links.now) in
    let lt : c.loop-place.place < length c.args.left.now = omega (arith, c.loop-place-test.true) in
    let x : Node = slice_index_or c.args.left.now c.loop-place.place blank in
    let at = slice_get-get_or c.args.left.now c.loop-place.place blank lt in
    let few = few_at c.args.left.now (length c.args.sights.now) c.loop-place.place c.requires.exist c.requires.few lt in
    let above = c.is_above.ensures x at in
    let is = c.is_left.ensures.0 c.if-not-is_left.false in
    let P : List Node → Type 0 = λ l. Tells l c.args.pairs.now c.note.new.self in
    record {
      within = omega (arith, lt);
      holds = held_more (LeftAtIn net c.args.pairs.now c.args.misses c.args.left.now) c.loop-place.place c.loop-place.invariant.holds
          (left_more net c.args.pairs.now c.args.misses c.args.left.now c.loop-place.place x at c.loop-place.pairs (c.loop-place.invariant.told.asked x few) (above.0 c.if-not-is_above.false) is);
      fine = c.in_ok-note.ensures.fine;
      told = subst P (sym (taken_more c.args.left.now c.loop-place.place x at))
          (tells_more c.args.pairs.now c.loop-place.pairs c.note.new.self (take c.loop-place.place c.args.left.now) x c.loop-place.invariant.told is.asked c.in_ok-note.ensures.cells);
    }

pub returns-clause-first : goal.returns-clause-first
returns-clause-first g c = λ place x e.
    let l : place < length c.args.left.now = slice_get_within c.args.left.now place x e in
    c.loop-place.invariant.holds place (omega (arith, l, c.loop-place-test.false)) x e

pub returns-clause-told : goal.returns-clause-told
returns-clause-told g c = λ _.
    let whole : c.loop-place.place ≡ length c.args.left.now = omega (arith, c.loop-place.invariant.within, c.loop-place-test.false) in
    let P : List Node → Type 0 = λ l. Tells l c.args.pairs.now c.loop-place.pairs in
    subst P (take_done c.args.left.now c.loop-place.place whole) c.loop-place.invariant.told
