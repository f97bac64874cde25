-- The open page is closed, and the next one opened.
use Rattle.std.proofs.Common.{◌≡◌, ℕ, ◌+◌, ◌<◌, ◌≤◌, Bool, true, cond, not, List, [], ◌∷◌, length, get_or, set, count_by, refl, sym, ap, ◌∙◌, subst, ⊎_elim, arith, length-set, get_or-set_same}
use Rattle.std.specs.List.{position_or_len}
use Rattle.std.proofs.lemmas.Bool.{cases_Bool}
use Rattle.std.proofs.lemmas.List.Sums.{passes_at_first, sum_by-cons}
use Rattle.spie_base.specs.declared.PageShape.{PageShape}
use Rattle.gate_core.specs.declared.states.SlotPhase.{SlotPhase}
use Rattle.gate_core.specs.declared.states.SlotPhase.TheVariants.{Free, Open, Sealed, Quiet}
use Rattle.gate_core.specs.declared.steps.Act.TheVariants.{Seal, Point}
use Rattle.gate_core.specs.declared.steps.Act.TheVariants as act
use Rattle.gate_core.specs.declared.view.Slot.{Slot}
use Rattle.gate_core.specs.declared.view.Duties.{Duties}
use Rattle.gate_core.specs.declared.view.View.{View}
use Rattle.gate_core.specs.declared.view.Role.TheVariants.{Spent, Keeper}
use Rattle.gate_core.specs.Views.{no_slot, slot_at}
use Rattle.gate_core.specs.Acts.{open_among, open_slot, in_phase, view_after}
use Rattle.gate_core.specs.Invariant.{taken}
use Rattle.gate_core.proofs.OpenSlot.{sealed_none, sealed_else}
use Rattle.gate_core.proofs.Slots.{open_is}
use Rattle.gate_core.proofs.Readings.{met_fits}
use Rattle.page_gate.specs.Pages.{AreKept}
use Rattle.page_gate.specs.Rotated.{is_free_slot, free_slot, rotated_to}
use Rattle.page_gate.specs.Slots.{is_free, free_count}
use Rattle.page_gate.specs.Steps.{IsMet}
use Rattle.page_gate.proofs.KeptSlots.{alive, kept_met, open_found, whole_phased, whole_slotted}

-- ---- a free slot

counted_found : (p : Slot → Bool) (xs : List Slot) → 1 ≤ count_by p xs → position_or_len p xs < length xs
counted_found p [] h = absurd (omega arith)
counted_found p (x ∷ xs) h = ⊎_elim
    (λ e. let f : position_or_len p (x ∷ xs) ≡ 0 = ap (λ (b : Bool). cond (not b) (1 + position_or_len p xs) 0) e in omega arith)
    (λ e. let f : position_or_len p (x ∷ xs) ≡ 1 + position_or_len p xs = ap (λ (b : Bool). cond (not b) (1 + position_or_len p xs) 0) e in
    let c : count_by p (x ∷ xs) ≡ 0 + count_by p xs = sum_by-cons (λ (y : Slot). cond (p y) 1 0) x xs ∙ ap (λ (b : Bool). cond b 1 0 + count_by p xs) e in
    let g = counted_found p xs (omega arith) in omega arith)
    (cases_Bool (p x))

free_is : (ph : SlotPhase) → is_free ph ≡ true → ph ≡ Free
free_is Free e = refl
free_is Open e = cc
free_is Sealed e = cc
free_is (Quiet next) e = cc

-- where one is free, the first is found
pub free_found : (d : Duties) → length d.slots ≡ 4 → 1 ≤ free_count d → (free_slot d < 4) × ((slot_at d (free_slot d)).phase ≡ Free)
free_found d four some = let lt = counted_found is_free_slot d.slots some in
    ((let g : free_slot d < 4 = omega arith in g), free_is (slot_at d (free_slot d)).phase (passes_at_first is_free_slot d.slots no_slot lt))

-- ---- step by step

module _ (shape : PageShape) where
  pub after_seal : (v v1 : View) (to : ℕ) → IsMet shape v → v.role ≡ Keeper → open_slot v.duties < 4 → to < 4 → (slot_at v.duties to).phase ≡ Free → v.duties.next < 4294967295 → v1 ≡ view_after shape Seal v 0
      → ((v1.role ≡ Keeper) × (to < 4) × ((slot_at v1.duties to).phase ≡ Free) × (open_slot v1.duties ≡ 4) × (v1.duties.next < 4294967295)) × ¬ (v1.role ≡ Spent)
  after_seal v v1 to (at, word, m) role low near free small is = let f = met_fits shape v role at word m in
      subst (λ (u : View). ((u.role ≡ Keeper) × (to < 4) × ((slot_at u.duties to).phase ≡ Free) × (open_slot u.duties ≡ 4) × (u.duties.next < 4294967295)) × ¬ (u.role ≡ Spent)) (sym is)
      ((role, near, ap (λ (x : Slot). x.phase) (sealed_else shape m.words m.views v.duties v.entries f to low free) ∙ free, sealed_none shape m.words m.views v.duties v.entries f low, small), alive v.role role)

  pub sealed_pages : (v v1 : View) (to old next : ℕ) → IsMet shape v → v.role ≡ Keeper → open_slot v.duties < 4 → (slot_at v.duties to).phase ≡ Free → v1 ≡ view_after shape Seal v 0 → old ≡ (slot_at v.duties to).page → next ≡ v.duties.next
      → (old ≡ (slot_at v1.duties to).page) × (next ≡ v1.duties.next)
  sealed_pages v v1 to old next (at, word, m) role low free is a b = let f = met_fits shape v role at word m in
      subst (λ (u : View). (old ≡ (slot_at u.duties to).page) × (next ≡ u.duties.next)) (sym is) (a ∙ ap (λ (x : Slot). x.page) (sym (sealed_else shape m.words m.views v.duties v.entries f to low free)), b)

  -- the slot that was opened last is the open one
  pub opened_here : (w : View) (xs : List Slot) (to page : ℕ) → IsMet shape w → w.role ≡ Keeper → w.duties.slots ≡ set xs to (record { phase = Open; page = page; used = true }) → to < 4 → (open_slot w.duties ≡ to) × (slot_at w.duties to ≡ record { phase = Open; page = page; used = true })
  opened_here w xs to page (at, word, m) role is near = let x : Slot = record { phase = Open; page = page; used = true } in let fit = (met_fits shape w role at word m).slots in let four = fit.four in
      let long : length xs ≡ 4 = sym (length-set xs to x) ∙ (ap length (sym is) ∙ four) in
      let here : slot_at w.duties to ≡ x = ap (λ (ys : List Slot). get_or ys to no_slot) is ∙ get_or-set_same xs to x no_slot (let g : to < length xs = omega arith in g) in
      (open_found shape w.duties to fit near (ap (λ (y : Slot). y.phase) here), here)

  pub after_open : (v1 v2 : View) (to : ℕ) → IsMet shape v2 → v1.role ≡ Keeper → to < 4 → v2 ≡ view_after shape (act.Open to) v1 0 → (open_slot v2.duties ≡ to) × (v2.role ≡ Keeper) × ¬ (v2.role ≡ Spent)
  after_open v1 v2 to met role near is = let role' : v2.role ≡ Keeper = ap (λ (u : View). u.role) is ∙ role in
      ((opened_here v2 v1.duties.slots to v1.duties.next met role' (ap (λ (u : View). u.duties.slots) is) near).0, role', alive v2.role role')

  -- all three together
  pub rotates : (v v1 v2 v3 : View) (to : ℕ) → v1 ≡ view_after shape Seal v 0 → v2 ≡ view_after shape (act.Open to) v1 0 → v3 ≡ view_after shape Point v2 0 → open_slot v2.duties ≡ to → v3 ≡ rotated_to v to
  rotates v v1 v2 v3 to a b c here = let e = b ∙ ap (λ (u : View). view_after shape (act.Open to) u 0) a in
      c ∙ ap (λ (n : ℕ). record v2 { duties = record v2.duties { pointed = n } }) here ∙ ap (λ (u : View). record u { duties = record u.duties { pointed = to } }) e

  -- and afterwards
  pub rotated_here : (v w : View) (to : ℕ) → IsMet shape w → v.role ≡ Keeper → to < 4 → w ≡ rotated_to v to → (open_slot w.duties ≡ to) × (slot_at w.duties to ≡ record { phase = Open; page = v.duties.next; used = true })
  rotated_here v w to met role near is = opened_here w (in_phase v.duties (open_slot v.duties) Sealed).slots to v.duties.next met (ap (λ (u : View). u.role) is ∙ role) (ap (λ (u : View). u.duties.slots) is) near

  pub rotated_kept : (v w : View) (to : ℕ) → IsMet shape w → v.role ≡ Keeper → open_slot v.duties < 4 → to < 4 → AreKept v.duties → w ≡ rotated_to v to → AreKept w.duties
  rotated_kept v w to met role low near k is =
      let d = v.duties in
      let o : ℕ = open_slot d in
      let four = k.fit.four in
      let within : o < length d.slots = omega arith in
      let sealed = in_phase d o Sealed in
      let long : length sealed.slots ≡ 4 = length-set d.slots o (record { phase = Sealed; page = (slot_at d o).page; used = (slot_at d o).used }) ∙ four in
      let within' : to < length sealed.slots = omega arith in
      let whole = whole_slotted sealed to (record { phase = Open; page = d.next; used = true }) within' refl (whole_phased d o Sealed within refl k.whole) in
      kept_met shape w met (ap (λ (u : View). u.role) is ∙ role) (λ t small. ap (λ (u : View). taken (slot_at u.duties t).phase) is ∙ whole t small)

-- the page of the open slot is the last one
pub open_page_last : (d : Duties) → AreKept d → open_slot d < 4 → (slot_at d (open_slot d)).page + 1 ≡ d.next
open_page_last d k low = k.fit.open_last (open_slot d) low (open_is d k.fit.four low)

-- the keeper's own slots after it
pub rotated_slots : (d : Duties) (xs : List Slot) (from to to' next : ℕ) → xs ≡ d.slots → from ≡ open_slot d → to ≡ to' → next ≡ d.next
    → set (set xs from (record { phase = Sealed; page = (get_or xs from no_slot).page; used = (get_or xs from no_slot).used })) to (record { phase = Open; page = next; used = true })
    ≡ set (in_phase d (open_slot d) Sealed).slots to' (record { phase = Open; page = d.next; used = true })
rotated_slots d xs from to to' next e f t n = λ k. set (set (e k) (f k) (record { phase = Sealed; page = (get_or (e k) (f k) no_slot).page; used = (get_or (e k) (f k) no_slot).used })) (t k) (record { phase = Open; page = n k; used = true })

-- ---- as the keeper knows it

-- the slot that is found, where the keeper's own slots are those of its duties
module _ (d : Duties) (xs : List Slot) (k : AreKept d) (same : xs ≡ d.slots) where
  pub free_there : (to : ℕ) → to ≡ position_or_len is_free_slot xs → 1 ≤ free_count d → (to ≡ free_slot d) × (to < 4) × ((slot_at d to).phase ≡ Free)
  free_there to at some =
      let is : to ≡ free_slot d = at ∙ ap (position_or_len is_free_slot) same in
      let found = free_found d k.fit.four some in
      (is, subst (λ (n : ℕ). n < 4) (sym is) found.0, subst (λ (n : ℕ). (slot_at d n).phase ≡ Free) (sym is) found.1)

  pub next_there : (from : ℕ) → from ≡ open_among xs 0 → open_slot d < 4 → (from ≡ open_slot d) × ((get_or xs from no_slot).page + 1 ≡ d.next)
  next_there from at low =
      let is : from ≡ open_slot d = at ∙ ap (λ (ys : List Slot). open_among ys 0) same in
      (is, ap (λ (ys : List Slot). (get_or ys from no_slot).page + 1) same ∙ ap (λ (n : ℕ). (slot_at d n).page + 1) is ∙ open_page_last d k low)
