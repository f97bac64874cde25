-- `enter`: into the page of an open slot, or as a visitor of a sealed one.
use Rattle.std.proofs.Common.{◌≡◌, ℕ, ◌+◌, ◌%◌, ◌^◌, ◌<◌, ◌≤◌, ◌⊎◌, true, cond, List, [], ◌∷◌, ◌++◌, length, get_or, set, sym, refl, ap, ◌∙◌, subst, inl, ⊎_elim, arith, le_refl, ◌==◌}
use Rattle.std.proofs.lemmas.List.{append-nil}
use mathlib.Core.Option.{some}
use lib.ListN.{get_elem?}
use Rattle.spie_base.specs.declared.Sig.{Sig}
use Rattle.spie_base.specs.declared.PageShape.{PageShape}
use Rattle.gate_core.specs.declared.steps.Act.TheVariants.{Enter}
use Rattle.spie_base.specs.declared.types.Entry.{Entry}
use Rattle.gate_core.specs.declared.states.PassState.{PassState}
use Rattle.gate_core.specs.declared.states.PassState.TheVariants.{Idle, Looked, Inside, Visiting}
use Rattle.gate_core.specs.declared.states.SlotPhase.TheVariants.{Open}
use Rattle.hash_family.specs.Positions.{family_of, placed_by}
use Rattle.hash_family.specs.Entries.{IsAmong, IsMarked}
use Rattle.gate_core.specs.Views.{Spent, Duties, View, slot_at}
use Rattle.gate_core.specs.Acts.{seal_of, page_of, gate_place, numbered, slot_of, moved_to, after_enter, HasLooked}
use Rattle.gate_core.specs.Invariant.{counts_in, in_slot, seal_bit, HasPage, IsLive, HasSet, StateFits, VisitFits, PlaneInvariant}
use Rattle.gate_core.specs.declared.steps.StepAnswer.TheVariants as answer
use Rattle.gate_core.specs.declared.core_data.CoreData.{CoreData}
use Rattle.gate_core.specs.Core.{answer_of}
use Rattle.gate_core.specs.Kept.{notes_of, view_of, Holds, DoesAct}
use Rattle.gate_core.specs.Writes.{seat_at, Grows, Writes}
use Rattle.gate_core.proofs.Lists.{at_snoc, total-set}
use Rattle.gate_core.proofs.Gates.{one_more, unsealed_open, tested}
use Rattle.gate_core.proofs.Inside.{hit, hit_one, hit_none, gate_parts, gate_small}
use Rattle.gate_core.proofs.Frame.{Turns, gate_act, restaged}
use Rattle.gate_core.proofs.MachineSteps.{KeepsPlane}
use Rattle.gate_core.proofs.RecordSteps.{grown, stays, record_does, bare}

-- ---- the act keeps the plane invariant

looked_is : (st : PassState) → HasLooked st → st ≡ Looked (slot_of st)
looked_is Idle h = absurd h
looked_is (Looked s) h = refl
looked_is (Inside s page sig m) h = absurd h
looked_is (Visiting s gate) h = absurd h

module _ (shape : PageShape) (words : List ℕ) (views : List View) (r : PlaneInvariant shape words views) (id : ℕ) (v : View) (there : get_elem? views id ≡ some v) (alive : ¬ (v.role ≡ Spent)) where
  abbrev d : Duties
  d = r.head.duties

  abbrev gate_of : ℕ → ℕ
  gate_of s = get_or words (gate_place s) 0

  module _ (s : ℕ) (is : v.state ≡ Looked s) (near : s < 4) (used : (slot_at d s).used ≡ true) (above : v.floor ≤ (slot_at d s).page) where
    none_set : (o p : ℕ) → HasSet shape v.state o p → ⊥
    none_set o p h = subst (λ (st : PassState). HasSet shape st o p) is h

    -- the state after counts in s, and nowhere else
    joined : (w : View) → ((o : ℕ) → in_slot o w ≡ hit s o) → Turns shape d v w → ((o p : ℕ) → o < 4 → HasPage (slot_at d o).phase → IsMarked shape w.entries (slot_at d o).page p ⊎ HasSet shape w.state o p → IsMarked shape v.entries (slot_at d o).page p ⊎ HasSet shape v.state o p)
        → PlaneInvariant shape (set words (gate_place s) ((gate_of s + 1) % 2 ^ 64)) (set views id w)
    joined w counts t takes = let more = one_more (gate_of s) (gate_small shape words views d r.head.entries r.fits s near) in let g = r.fits.gates s near in let was : (o : ℕ) → in_slot o v ≡ 0 = λ o. ap (counts_in o) is in
        gate_act shape words views r id v w there t takes s ((gate_of s + 1) % 2 ^ 64) near
        (let a = total-set (in_slot s) views id v w there in let b = was s in let c = counts s in let e = hit_one s s refl in more ∙ (omega arith))
        (λ o ne. let a = total-set (in_slot o) views id v w there in let b = was o in let c = counts o in let e = hit_none s o ne in omega arith)

    enters_open : (sig : Sig) → seal_of (gate_of s) ≡ 0 → PlaneInvariant shape (set words (gate_place s) ((gate_of s + 1) % 2 ^ 64)) (set views id (moved_to v (Inside s (numbered (page_of (gate_of s))) sig 0)))
    enters_open sig unsealed = let k = r.fits.actors id v there in let parts = gate_parts shape words views d r.head.entries r.fits s near in let page : ℕ = page_of (gate_of s) in let st : PassState = Inside s (numbered page) sig 0 in
        let ph : (slot_at d s).phase ≡ Open = unsealed_open (slot_at d s).phase (sym parts.1 ∙ unsealed) in let end = r.fits.slots.open_last s near ph in
        joined (moved_to v st) (λ o. refl)
        (restaged shape d v st k (near, used, above, parts.2, subst IsLive (sym ph) tt, omega arith)
        (λ _ i e at. let a = (k.entries i e at).0 in let b = parts.2 in omega arith) alive (λ o p h. absurd (none_set o p h)))
        (λ o p small stands x. ⊎_elim inl (λ (h : (s ≡ o) × IsAmong shape page sig 0 p). let i = h.1.1 in absurd (omega arith)) x)

    abbrev visiting : View
    visiting = record v { state = Visiting s (gate_of s); visits = v.visits ++ record { slot = s; gate = gate_of s } ∷ [] }

    enters_sealed : seal_of (gate_of s) ≡ 1 → PlaneInvariant shape (set words (gate_place s) ((gate_of s + 1) % 2 ^ 64)) (set views id visiting)
    enters_sealed shut = let k = r.fits.actors id v there in let parts = gate_parts shape words views d r.head.entries r.fits s near in let page : ℕ = page_of (gate_of s) in
        let fit : VisitFits d v.floor (record { slot = s; gate = gate_of s }) = record {
          sealed_gate = shut;
          below = let a = r.fits.slots.used_below s near used in let b = parts.2 in omega arith;
          from_floor = let b = parts.2 in omega arith;
          not_open = λ o small is_open e. let same = r.fits.slots.used_apart o s small near (r.fits.slots.stands_used o small (subst HasPage (sym is_open) tt)) used (e ∙ parts.2) in
              let ph : (slot_at d s).phase ≡ Open = ap (λ (x : ℕ). (slot_at d x).phase) (sym same) ∙ is_open in let z : seal_bit (slot_at d s).phase ≡ 0 = ap seal_bit ph in let b = parts.1 in omega arith;
        } in
        joined visiting (λ o. refl)
        record {
          role = refl;
          number = refl;
          duties = refl;
          actor = record {
            state = (near, used, above);
            entries = k.entries;
            ordered = k.ordered;
            last = λ _. tt;
            visits = λ i x at. ⊎_elim (λ old. k.visits i x old) (λ new. subst (VisitFits d v.floor) new.1 fit) (at_snoc v.visits (record { slot = s; gate = gate_of s }) x i at);
            floor = k.floor;
            number = k.number;
            base = k.base;
            gone = λ e. absurd (alive e);
          };
          kept = λ i e at. at;
          first = λ i e lt at. at;
          longer = le_refl (length v.entries);
          fresh = λ i e at. inl at;
          gives = λ o p small stands x. ⊎_elim inl (λ h. absurd (none_set o p h)) x;
        }
        (λ o p small stands x. ⊎_elim inl (λ h. absurd h) x)

    enters_at : (sig : Sig) → PlaneInvariant shape (set words (gate_place s) ((gate_of s + 1) % 2 ^ 64)) (set views id (after_enter v s sig (gate_of s)))
    enters_at sig = tested (λ w. PlaneInvariant shape (set words (gate_place s) ((gate_of s + 1) % 2 ^ 64)) (set views id w)) (seal_of (gate_of s)) 0 (moved_to v (Inside s (numbered (page_of (gate_of s))) sig 0)) visiting
        (enters_open sig) (λ ne. enters_sealed (omega arith))

  pub enters : (sig : Sig) → HasLooked v.state → PlaneInvariant shape (set words (gate_place (slot_of v.state)) ((gate_of (slot_of v.state) + 1) % 2 ^ 64)) (set views id (after_enter v (slot_of v.state) sig (gate_of (slot_of v.state))))
  enters sig h = let s : ℕ = slot_of v.state in let is : v.state ≡ Looked s = looked_is v.state h in let k = r.fits.actors id v there in let fit : StateFits shape d v.floor (Looked s) = subst (StateFits shape d v.floor) is k.state in
      enters_at s is fit.0 fit.1 fit.2 sig

-- the same, whoever does it
pub enter_keeps : (sig : Sig) → KeepsPlane (Enter sig)
enter_keeps sig shape words views r id v there alive can = enters shape words views r id v there alive sig can

-- ---- the act of the machine, from what it wrote

pub has_not_looked : (st : PassState) → ((s : ℕ) → ¬ (st ≡ Looked s)) → ¬ HasLooked st
has_not_looked Idle b = λ h. h
has_not_looked (Looked s) b = λ _. b s refl
has_not_looked (Inside s page sig k) b = λ h. h
has_not_looked (Visiting s gate) b = λ h. h

visited : (v : View) (s n : ℕ) (sig : Sig) → seal_of n ≡ 1 → grown v (Visiting s n) [] (record { slot = s; gate = n } ∷ []) ≡ after_enter v s sig n
visited v s n sig e =
    ap (λ (es : List Entry). let w : View = record v { state = Visiting s n; entries = es; visits = v.visits ++ record { slot = s; gate = n } ∷ [] } in w) (append-nil v.entries)
    ∙ sym (ap (λ (b : ℕ). cond (b == 0) (moved_to v (Inside s (numbered (page_of n)) sig 0)) (record v { state = Visiting s n; visits = v.visits ++ record { slot = s; gate = n } ∷ [] })) e)

went_in : (v : View) (s n : ℕ) (sig : Sig) → seal_of n ≡ 0 → grown v (Inside s (numbered (page_of n)) sig 0) [] [] ≡ after_enter v s sig n
went_in v s n sig e = bare v (Inside s (numbered (page_of n)) sig 0)
    ∙ sym (ap (λ (b : ℕ). cond (b == 0) (moved_to v (Inside s (numbered (page_of n)) sig 0)) (record v { state = Visiting s n; visits = v.visits ++ record { slot = s; gate = n } ∷ [] })) e)

module _ (m m' : CoreData) (place : ℕ) (holds : Holds m) (within : place < length m.seats.items) (spare : 1 ≤ m.room) where
  module _ (slot : ℕ) (is : Looked slot ≡ (seat_at m place).state) (gate : ℕ) (read : gate ≡ get_or m.words.items (gate_place slot) 0) (sig : Sig) where
    abbrev v : View
    v = view_of (notes_of m) place (Looked slot)

    pub entered_visit : seal_of gate ≡ 1 → Writes m m' (gate_place slot) ((gate + 1) % 2 ^ 64) place (record (seat_at m place) { state = Visiting slot gate }) → m'.entries ≡ m.entries
        → Grows m.visits m'.visits place (record { slot = slot; gate = gate } ∷ []) → DoesAct m m' place (Enter sig) (answer.Visiting gate)
    entered_visit sealed writes entries visits =
        record_does m m' (gate_place slot) ((gate + 1) % 2 ^ 64) place (Looked slot) (record (seat_at m place) { state = Visiting slot gate }) [] (record { slot = slot; gate = gate } ∷ [])
        holds within (sym is) writes (stays m.entries m'.entries place entries) visits (Enter sig) (enter_keeps sig) (answer.Visiting gate) spare tt refl refl
        (ap (λ (n : ℕ). (n + 1) % 2 ^ 64) read) (visited v slot gate sig sealed ∙ ap (λ (n : ℕ). after_enter v slot sig n) read) tt (omega arith) (omega arith)
        (sym (ap (λ (b : ℕ). cond (b == 0) (answer.Entered (numbered (page_of gate))) (answer.Visiting gate)) sealed) ∙ ap (λ (n : ℕ). answer_of m.shape (Enter sig) v n) read)

    pub entered_inside : seal_of gate ≡ 0
        → Writes m m' (gate_place slot) ((gate + 1) % 2 ^ 64) place (record { state = Inside slot (numbered (page_of gate)) sig 0; marks = placed_by (family_of m.shape (page_of gate)) sig })
        → m'.entries ≡ m.entries → m'.visits ≡ m.visits → DoesAct m m' place (Enter sig) (answer.Entered (numbered (page_of gate)))
    entered_inside unsealed writes entries visits =
        record_does m m' (gate_place slot) ((gate + 1) % 2 ^ 64) place (Looked slot) (record { state = Inside slot (numbered (page_of gate)) sig 0; marks = placed_by (family_of m.shape (page_of gate)) sig }) [] []
        holds within (sym is) writes (stays m.entries m'.entries place entries) (stays m.visits m'.visits place visits) (Enter sig) (enter_keeps sig) (answer.Entered (numbered (page_of gate))) spare tt refl refl
        (ap (λ (n : ℕ). (n + 1) % 2 ^ 64) read) (went_in v slot gate sig unsealed ∙ ap (λ (n : ℕ). after_enter v slot sig n) read) refl (omega arith) (omega arith)
        (sym (ap (λ (b : ℕ). cond (b == 0) (answer.Entered (numbered (page_of gate))) (answer.Visiting gate)) unsealed) ∙ ap (λ (n : ℕ). answer_of m.shape (Enter sig) v n) read)
