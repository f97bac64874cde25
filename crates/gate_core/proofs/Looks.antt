-- `look`: which slot is the current one.
use Rattle.std.proofs.Common.{◌≡◌, ℕ, ◌<◌, ◌≤◌, ◌⊎◌, true, List, [], length, get_or, set, sym, refl, ap, ◌∙◌, subst, inl, ⊎_elim, arith, length-set}
use Rattle.std.proofs.lemmas.List.{set-get_or}
use mathlib.Core.Option.{some}
use lib.ListN.{get_elem?}
use Rattle.spie_base.specs.declared.PageShape.{PageShape}
use Rattle.gate_core.specs.declared.steps.Act.TheVariants.{Look}
use Rattle.gate_core.specs.declared.states.PassState.{PassState}
use Rattle.gate_core.specs.declared.states.PassState.TheVariants.{Idle, Looked, Inside, Visiting}
use Rattle.gate_core.specs.Views.{Spent, Duties, View, slot_at}
use Rattle.gate_core.specs.Acts.{gate_place, moved_to, CanLook}
use Rattle.gate_core.specs.Invariant.{counts_in, in_slot, HasSet, PlaneInvariant}
use Rattle.gate_core.specs.declared.steps.StepAnswer.TheVariants as answer
use Rattle.gate_core.specs.declared.core_data.CoreData.{CoreData}
use Rattle.gate_core.specs.Kept.{notes_of, view_of, Holds, DoesAct}
use Rattle.gate_core.specs.Writes.{seat_at, Writes}
use Rattle.gate_core.proofs.Lists.{total-set}
use Rattle.gate_core.proofs.Frame.{quiet_act, restaged}
use Rattle.gate_core.proofs.MachineSteps.{KeepsPlane}
use Rattle.gate_core.proofs.RecordSteps.{stays, record_does, bare}

-- ---- the act keeps the plane invariant

module _ (shape : PageShape) (words : List ℕ) (views : List View) (r : PlaneInvariant shape words views) (id : ℕ) (v : View) (there : get_elem? views id ≡ some v) (alive : ¬ (v.role ≡ Spent)) where
  abbrev d : Duties
  d = r.head.duties

  no_set : (st : PassState) → CanLook st → (s p : ℕ) → HasSet shape st s p → ⊥
  no_set Idle can s p h = h
  no_set (Looked t) can s p h = h
  no_set (Inside t page sig m) can s p h = can
  no_set (Visiting t gate) can s p h = can

  no_count : (st : PassState) → CanLook st → (s : ℕ) → counts_in s st ≡ 0
  no_count Idle can s = refl
  no_count (Looked t) can s = refl
  no_count (Inside t page sig m) can s = absurd can
  no_count (Visiting t gate) can s = absurd can

  pub looks : CanLook v.state → PlaneInvariant shape (set words 0 (get_or words 0 0)) (set views id (moved_to v (Looked (get_or words 0 0))))
  looks can = let k = r.fits.actors id v there in let n : ℕ = get_or words 0 0 in let at = r.fits.current_slot in let w : View = moved_to v (Looked n) in let same = set-get_or words 0 0 in
      quiet_act shape words views r id v w there
      (restaged shape d v (Looked n) k
      (subst (λ (s : ℕ). (s < 4) × ((slot_at d s).used ≡ true) × (v.floor ≤ (slot_at d s).page)) (sym at) (r.fits.slots.pointed_slot, r.fits.slots.pointed_used, k.floor))
      (λ _. tt) alive (λ s p h. absurd (no_set v.state can s p h)))
      (λ s p near stands x. ⊎_elim inl (λ h. absurd h) x)
      (set words 0 n) (length-set words 0 n) (ap (λ (ws : List ℕ). get_or ws 0 0) same) (λ i big. ap (λ (ws : List ℕ). get_or ws i 0) same)
      (λ s near. let a = total-set (in_slot s) views id v w there in let b : in_slot s v ≡ 0 = no_count v.state can s in
      ap (λ (ws : List ℕ). get_or ws (gate_place s) 0) same ∙ (r.fits.gates s near ∙ (omega arith)))

-- the same, whoever does it
pub look_keeps : KeepsPlane Look
look_keeps shape words views r id v there alive can = looks shape words views r id v there alive can

-- ---- the act of the machine, from what it wrote

pub can_look : (st : PassState) → (st ≡ Idle) ⊎ ((s : ℕ) × (st ≡ Looked s)) → CanLook st
can_look st is = ⊎_elim (λ e. subst CanLook (sym e) tt) (λ t. subst CanLook (sym t.1) tt) is

pub cannot_look : (st : PassState) → ¬ (st ≡ Idle) → ((s : ℕ) → ¬ (st ≡ Looked s)) → ¬ CanLook st
cannot_look Idle a b = λ _. a refl
cannot_look (Looked s) a b = λ _. b s refl
cannot_look (Inside s page sig k) a b = λ h. h
cannot_look (Visiting s gate) a b = λ h. h

module _ (m m' : CoreData) (place : ℕ) (holds : Holds m) (within : place < length m.seats.items) (spare : 1 ≤ m.room) where
  pub looked : (st : PassState) → st ≡ (seat_at m place).state → CanLook st → (slot : ℕ) → slot ≡ get_or m.words.items 0 0
      → Writes m m' 0 (get_or m.words.items 0 0) place (record (seat_at m place) { state = Looked slot }) → m'.entries ≡ m.entries → m'.visits ≡ m.visits → DoesAct m m' place Look (answer.Slot slot)
  looked st is can slot read writes entries visits = let n : ℕ = get_or m.words.items 0 0 in let v : View = view_of (notes_of m) place st in
      record_does m m' 0 n place st (record (seat_at m place) { state = Looked slot }) [] [] holds within (sym is) writes (stays m.entries m'.entries place entries) (stays m.visits m'.visits place visits)
      Look look_keeps (answer.Slot slot) spare can refl refl refl (bare v (Looked slot) ∙ ap (λ (k : ℕ). moved_to v (Looked k)) read) tt (omega arith) (omega arith) (ap answer.Slot read)
