-- `leave`: a record is finished, or a visit is over.
use Rattle.std.proofs.Common.{◌≡◌, ℕ, ◌+◌, ◌-◌, ◌%◌, ◌^◌, ◌<◌, ◌≤◌, ◌⊎◌, List, [], ◌∷◌, ◌++◌, length, get_or, set, sym, refl, ap, ◌∙◌, subst, inl, inr, ⊎_elim, arith, length-append}
use Rattle.std.proofs.lemmas.List.{append-nil}
use mathlib.Core.Option.{some}
use lib.ListN.{get_elem?}
use Rattle.spie_base.specs.declared.Sig.{Sig}
use Rattle.spie_base.specs.declared.PageNo.{PageNo}
use Rattle.spie_base.specs.declared.PageShape.{PageShape}
use Rattle.gate_core.specs.declared.steps.Act.TheVariants.{Leave}
use Rattle.spie_base.specs.declared.types.Entry.{Entry}
use Rattle.gate_core.specs.declared.states.PassState.{PassState}
use Rattle.gate_core.specs.declared.states.PassState.TheVariants.{Idle, Looked, Inside, Visiting}
use Rattle.gate_core.specs.declared.states.SlotPhase.{SlotPhase}
use Rattle.gate_core.specs.declared.states.SlotPhase.TheVariants.{Free, Open, Sealed, Quiet}
use Rattle.hash_family.specs.Entries.{IsAmong, IsMarked}
use Rattle.gate_core.specs.Views.{Spent, Pass, Duties, View, slot_at, Visit}
use Rattle.gate_core.specs.Acts.{gate_place, slot_of, moved_to, after_leave, CanLeave}
use Rattle.gate_core.specs.Invariant.{counts_in, in_slot, HasPage, IsLive, HasSet, StateFits, IsLast, PlaneInvariant}
use Rattle.gate_core.specs.declared.steps.StepAnswer.{StepAnswer}
use Rattle.gate_core.specs.declared.steps.StepAnswer.TheVariants as answer
use Rattle.gate_core.specs.declared.core_data.CoreData.{CoreData}
use Rattle.gate_core.specs.Kept.{notes_of, view_of, Holds, DoesAct}
use Rattle.gate_core.specs.Writes.{seat_at, Grows, Writes}
use Rattle.gate_core.proofs.Lists.{at_within, at_longer, at_last, at_snoc, total-set, term_le}
use Rattle.gate_core.proofs.Gates.{one_less}
use Rattle.gate_core.proofs.Inside.{hit, hit_one, hit_none, gate_small}
use Rattle.gate_core.proofs.Frame.{Turns, mark_kept, gate_act, restaged}
use Rattle.gate_core.proofs.MachineSteps.{KeepsPlane}
use Rattle.gate_core.proofs.RecordSteps.{grown, stays, record_does, bare}

-- ---- the act keeps the plane invariant

module _ (shape : PageShape) (words : List ℕ) (views : List View) (r : PlaneInvariant shape words views) (id : ℕ) (v : View) (there : get_elem? views id ≡ some v) (alive : ¬ (v.role ≡ Spent)) where
  abbrev d : Duties
  d = r.head.duties

  abbrev gate_of : ℕ → ℕ
  gate_of s = get_or words (gate_place s) 0

  -- the state before counts in s and nowhere else, the state after nowhere
  parted : (s : ℕ) (w : View) → s < 4 → ((o : ℕ) → in_slot o v ≡ hit s o) → ((o : ℕ) → in_slot o w ≡ 0) → Turns shape d v w
      → ((o p : ℕ) → o < 4 → HasPage (slot_at d o).phase → IsMarked shape w.entries (slot_at d o).page p ⊎ HasSet shape w.state o p → IsMarked shape v.entries (slot_at d o).page p ⊎ HasSet shape v.state o p)
      → PlaneInvariant shape (set words (gate_place s) ((gate_of s + (2 ^ 64 - 1)) % 2 ^ 64)) (set views id w)
  parted s w near was now t takes = let g = r.fits.gates s near in let one = term_le (in_slot s) views id v there in let b = was s in let e = hit_one s s refl in let small = gate_small shape words views d r.head.entries r.fits s near in
      let less = one_less (gate_of s) (omega arith) (omega arith) in
      gate_act shape words views r id v w there t takes s ((gate_of s + (2 ^ 64 - 1)) % 2 ^ 64) near
      (let a = total-set (in_slot s) views id v w there in let c = now s in less ∙ (omega arith))
      (λ o ne. let a = total-set (in_slot o) views id v w there in let x = was o in let c = now o in let y = hit_none s o ne in omega arith)

  leaves_visit : (s gate : ℕ) → v.state ≡ Visiting s gate → PlaneInvariant shape (set words (gate_place s) ((gate_of s + (2 ^ 64 - 1)) % 2 ^ 64)) (set views id (moved_to v Idle))
  leaves_visit s gate is = let k = r.fits.actors id v there in let fit : StateFits shape d v.floor (Visiting s gate) = subst (StateFits shape d v.floor) is k.state in
      parted s (moved_to v Idle) fit.0 (λ o. ap (counts_in o) is) (λ o. refl)
      (restaged shape d v Idle k tt (λ _. tt) alive (λ o p h. subst (λ (st : PassState). HasSet shape st o p) is h))
      (λ o p small stands x. ⊎_elim inl (λ h. absurd h) x)

  module _ (s : ℕ) (page : PageNo) (sig : Sig) (m : ℕ) (is : v.state ≡ Inside s page sig m) (full : m ≡ shape.k) where
    abbrev new : Entry
    new = record { page = page; sig = sig }

    abbrev after : View
    after = record v { state = Idle; entries = v.entries ++ new ∷ [] }

    in_fit : StateFits shape d v.floor (Inside s page sig m)
    in_fit = let k = r.fits.actors id v there in subst (StateFits shape d v.floor) is k.state

    live_stands : (ph : SlotPhase) → IsLive ph → HasPage ph
    live_stands Free live = live
    live_stands Open live = tt
    live_stands Sealed live = tt
    live_stands (Quiet next) live = tt

    -- of two entries, the earlier has no greater page
    in_order : v.role ≡ Pass → (i j : ℕ) (e f : Entry) → i ≤ j → get_elem? after.entries i ≡ some e → get_elem? after.entries j ≡ some f → e.page.number ≤ f.page.number
    in_order role i j e f le x y = let k = r.fits.actors id v there in let least : IsLast v.entries (Inside s page sig m) = subst (IsLast v.entries) is (k.last role) in
        ⊎_elim
        (λ old. ⊎_elim (λ old'. k.ordered role i j e f le old old') (λ new'. let a = least i e old in let b : page.number ≡ f.page.number = ap (λ (z : Entry). z.page.number) new'.1 in omega arith) (at_snoc v.entries new f j y))
        (λ newest. let z : page.number ≡ e.page.number = ap (λ (q : Entry). q.page.number) newest.1 in let c : i ≡ length v.entries = newest.0 in
        ⊎_elim (λ old'. let b = at_within v.entries j f old' in absurd (omega arith)) (λ new'. let b : page.number ≡ f.page.number = ap (λ (q : Entry). q.page.number) new'.1 in omega arith) (at_snoc v.entries new f j y))
        (at_snoc v.entries new e i x)

    gives_mark : (o p : ℕ) → o < 4 → HasPage (slot_at d o).phase → IsMarked shape v.entries (slot_at d o).page p ⊎ HasSet shape v.state o p → IsMarked shape after.entries (slot_at d o).page p ⊎ HasSet shape after.state o p
    gives_mark o p small stands x = ⊎_elim (λ old. inl (mark_kept shape v after (slot_at d o).page p (λ i e at. at_longer v.entries (new ∷ []) i e at) old))
        (λ h. let h' : HasSet shape (Inside s page sig m) o p = subst (λ (st : PassState). HasSet shape st o p) is h in let same : page.number ≡ (slot_at d o).page = in_fit.3 ∙ ap (λ (z : ℕ). (slot_at d z).page) h'.0 in
        inl (length v.entries, new, at_last v.entries new, same, subst (λ (g : ℕ). IsAmong shape g sig shape.k p) same (subst (λ (c : ℕ). IsAmong shape page.number sig c p) full h'.1))) x

    takes_mark : (o p : ℕ) → o < 4 → HasPage (slot_at d o).phase → IsMarked shape after.entries (slot_at d o).page p ⊎ HasSet shape after.state o p → IsMarked shape v.entries (slot_at d o).page p ⊎ HasSet shape v.state o p
    takes_mark o p small stands x = ⊎_elim (λ (i, e, at, of, among). ⊎_elim (λ old. inl (i, e, old, of, among))
        (λ newest. let pg : page.number ≡ (slot_at d o).page = ap (λ (q : Entry). q.page.number) newest.1 ∙ of in
        let same : s ≡ o = r.fits.slots.used_apart s o in_fit.0 small in_fit.1 (r.fits.slots.stands_used o small stands) (sym in_fit.3 ∙ pg) in
        let among' : IsAmong shape (slot_at d o).page sig shape.k p = subst (λ (q : Entry). IsAmong shape (slot_at d o).page q.sig shape.k p) (sym newest.1) among in
        inr (subst (λ (st : PassState). HasSet shape st o p) (sym is) (same, subst (λ (c : ℕ). IsAmong shape page.number sig c p) (sym full) (subst (λ (g : ℕ). IsAmong shape g sig shape.k p) (sym pg) among'))))
        (at_snoc v.entries new e i at)) (λ h. absurd h) x

    leaves_inside : PlaneInvariant shape (set words (gate_place s) ((gate_of s + (2 ^ 64 - 1)) % 2 ^ 64)) (set views id after)
    leaves_inside = let k = r.fits.actors id v there in let fit = in_fit in let below = r.fits.slots.used_below s fit.0 fit.1 in
        parted s after fit.0 (λ o. ap (counts_in o) is) (λ o. refl)
        record {
          role = refl;
          number = refl;
          duties = refl;
          actor = record {
            state = tt;
            entries = λ i e at. ⊎_elim (λ old. k.entries i e old) (λ newest. let a : page.number ≡ e.page.number = ap (λ (q : Entry). q.page.number) newest.1 in let b = fit.3 in let c = fit.2 in ((omega arith), (omega arith))) (at_snoc v.entries new e i at);
            ordered = in_order;
            last = λ _. tt;
            visits = k.visits;
            floor = k.floor;
            number = k.number;
            base = k.base;
            gone = λ e. absurd (alive e);
          };
          kept = λ i e at. at_longer v.entries (new ∷ []) i e at;
          first = λ i e lt at. ⊎_elim (λ old. old) (λ newest. let a = newest.0 in absurd (omega arith)) (at_snoc v.entries new e i at);
          longer = omega (arith, length-append v.entries (new ∷ []));
          fresh = λ i e at. ⊎_elim inl (λ newest. inr (s, fit.0, live_stands (slot_at d s).phase fit.4, sym fit.3 ∙ ap (λ (q : Entry). q.page.number) newest.1)) (at_snoc v.entries new e i at);
          gives = gives_mark;
        }
        takes_mark

  leaves_from : (st : PassState) → v.state ≡ st → CanLeave shape st → PlaneInvariant shape (set words (gate_place (slot_of st)) ((gate_of (slot_of st) + (2 ^ 64 - 1)) % 2 ^ 64)) (set views id (after_leave v st))
  leaves_from Idle is can = absurd can
  leaves_from (Looked s) is can = absurd can
  leaves_from (Inside s page sig m) is can = leaves_inside s page sig m is can
  leaves_from (Visiting s gate) is can = leaves_visit s gate is

  pub leaves : CanLeave shape v.state → PlaneInvariant shape (set words (gate_place (slot_of v.state)) ((gate_of (slot_of v.state) + (2 ^ 64 - 1)) % 2 ^ 64)) (set views id (after_leave v v.state))
  leaves can = leaves_from v.state refl can

-- the same, whoever does it
pub leave_keeps : KeepsPlane Leave
leave_keeps shape words views r id v there alive can = leaves shape words views r id v there alive can

-- ---- the act of the machine, from what it wrote

pub cannot_leave : (shape : PageShape) (st : PassState) → ((s : ℕ) (page : PageNo) (sig : Sig) (k : ℕ) → ¬ (st ≡ Inside s page sig k)) → ((s gate : ℕ) → ¬ (st ≡ Visiting s gate)) → ¬ CanLeave shape st
cannot_leave shape Idle a b = λ h. h
cannot_leave shape (Looked s) a b = λ h. h
cannot_leave shape (Inside s page sig k) a b = λ _. a s page sig k refl
cannot_leave shape (Visiting s gate) a b = λ _. b s gate refl

finished_view : (v : View) (e : Entry) → grown v Idle (e ∷ []) [] ≡ record v { state = Idle; entries = v.entries ++ e ∷ [] }
finished_view v e = ap (λ (vs : List Visit). let w : View = record v { state = Idle; entries = v.entries ++ e ∷ []; visits = vs } in w) (append-nil v.visits)

module _ (m m' : CoreData) (place : ℕ) (holds : Holds m) (within : place < length m.seats.items) (spare : 1 ≤ m.room) where
  module _ (slot : ℕ) (page : PageNo) (sig : Sig) (k : ℕ) (is : Inside slot page sig k ≡ (seat_at m place).state) where
    abbrev u : View
    u = view_of (notes_of m) place (Inside slot page sig k)

    pub finished_left : k ≡ m.shape.k → Writes m m' (gate_place slot) ((get_or m.words.items (gate_place slot) 0 + (2 ^ 64 - 1)) % 2 ^ 64) place (record (seat_at m place) { state = Idle })
        → Grows m.entries m'.entries place (record { page = page; sig = sig } ∷ []) → m'.visits ≡ m.visits → (reply : StepAnswer) → reply ≡ answer.Left → DoesAct m m' place Leave reply
    finished_left whole writes entries visits reply left =
        record_does m m' (gate_place slot) ((get_or m.words.items (gate_place slot) 0 + (2 ^ 64 - 1)) % 2 ^ 64) place (Inside slot page sig k) (record (seat_at m place) { state = Idle }) (record { page = page; sig = sig } ∷ []) []
        holds within (sym is) writes entries (stays m.visits m'.visits place visits) Leave leave_keeps reply spare whole refl refl refl
        (finished_view u (record { page = page; sig = sig })) tt (omega arith) (omega arith) left

  pub visit_left : (slot gate : ℕ) → Visiting slot gate ≡ (seat_at m place).state
      → Writes m m' (gate_place slot) ((get_or m.words.items (gate_place slot) 0 + (2 ^ 64 - 1)) % 2 ^ 64) place (record (seat_at m place) { state = Idle })
      → m'.entries ≡ m.entries → m'.visits ≡ m.visits → (reply : StepAnswer) → reply ≡ answer.Left → DoesAct m m' place Leave reply
  visit_left slot gate is writes entries visits reply left =
      record_does m m' (gate_place slot) ((get_or m.words.items (gate_place slot) 0 + (2 ^ 64 - 1)) % 2 ^ 64) place (Visiting slot gate) (record (seat_at m place) { state = Idle }) [] []
      holds within (sym is) writes (stays m.entries m'.entries place entries) (stays m.visits m'.visits place visits) Leave leave_keeps reply spare tt refl refl refl
      (bare (view_of (notes_of m) place (Visiting slot gate)) Idle) tt (omega arith) (omega arith) left
