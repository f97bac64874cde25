-- The slot in which a page stands.
use Rattle.std.proofs.Common.{◌≡◌, ℕ, ◌<◌, ◌≤◌, ◌&&◌, eqb, Bool, true, false, cond, List, length, Some, None, sym, refl, ap, ◌∙◌, subst, ⊎_elim, arith, lt-ltb, le-ltb, eq-eqb}
use Rattle.std.specs.Prelude.{position, not}
use Rattle.std.specs.List.{position_or_len}
use Rattle.std.proofs.lemmas.Bool.{cases_lt}
use Rattle.std.proofs.lemmas.Bool.Decides.{eqb_tells}
use Rattle.std.proofs.lemmas.List.{get_or_past}
use Rattle.std.proofs.lemmas.List.Folds.{position_or_len-set}
use Rattle.std.proofs.lemmas.List.Sums.{fails_before_first, passes_at_first, prefix_len-le-length}
use Rattle.spie_base.specs.declared.PageShape.{PageShape}
use Rattle.gate_core.specs.declared.states.SlotPhase.{SlotPhase}
use Rattle.gate_core.specs.declared.states.SlotPhase.TheVariants.{Free, Open, Sealed, Quiet}
use Rattle.gate_core.specs.declared.view.Slot.{Slot}
use Rattle.gate_core.specs.declared.view.Duties.{Duties}
use Rattle.gate_core.specs.Views.{no_slot, slot_at}
use Rattle.gate_core.specs.Invariant.{has_page, HasPage, SlotsFit}
use Rattle.gate_core.specs.PageWords.{stands_with}
use Rattle.gate_core.specs.Acts.{phased_slot, in_phase}
use Rattle.gate_core.proofs.Slots.{slot_here}
use Rattle.page_gate.specs.Slots.{is_waiting, IsWaiting}
use Rattle.page_gate.specs.Pages.{slot_with, phase_with}

-- ---- the first item that passes

pub first_some : {X : Type 0} (p : X → Bool) (xs : List X) (n : ℕ) → Some n ≡ position p xs → n ≡ position_or_len p xs
first_some p xs n e = let m : ℕ = position_or_len p xs in ⊎_elim
    (λ lt. let f : Some n ≡ Some m = e ∙ ap (λ (b : Bool). cond b (Some m) None) (lt-ltb m (length xs) lt) in cc)
    (λ le. let f : Some n ≡ None = e ∙ ap (λ (b : Bool). cond b (Some m) None) (le-ltb m (length xs) le) in cc)
    (cases_lt m (length xs))

pub first_none : {X : Type 0} (p : X → Bool) (xs : List X) → None ≡ position p xs → length xs ≤ position_or_len p xs
first_none p xs e = let m : ℕ = position_or_len p xs in ⊎_elim
    (λ lt. let f : None ≡ Some m = e ∙ ap (λ (b : Bool). cond b (Some m) None) (lt-ltb m (length xs) lt) in cc)
    (λ le. le)
    (cases_lt m (length xs))

pub first_most : (p : Slot → Bool) (xs : List Slot) → position_or_len p xs ≤ length xs
first_most p xs = prefix_len-le-length (λ x. not (p x)) xs

-- ---- a slot in which the page stands

standing : (ph : SlotPhase) (b : Bool) → (has_page ph && b) ≡ true → HasPage ph × (b ≡ true)
standing Free b e = cc
standing Open b e = (tt, e)
standing Sealed b e = (tt, e)
standing (Quiet next) b e = (tt, e)

both_true : (ph : SlotPhase) (b : Bool) → HasPage ph → b ≡ true → (has_page ph && b) ≡ true
both_true Free b stands e = absurd stands
both_true Open b stands e = e
both_true Sealed b stands e = e
both_true (Quiet next) b stands e = e

stands_yes : (page : ℕ) (x : Slot) → stands_with page x ≡ true → HasPage x.phase × (x.page ≡ page)
stands_yes page x e = let k = standing x.phase (eqb x.page page) e in (k.0, ⊎_elim (λ t. t.1) (λ t. let a = t.0 in let b = k.1 in cc) (eqb_tells x.page page))

stands_no : (page : ℕ) (x : Slot) → stands_with page x ≡ false → HasPage x.phase → x.page ≡ page → ⊥
stands_no page x e stands is = ⊎_elim (λ t. let y = both_true x.phase (eqb x.page page) stands t.0 in cc) (λ t. t.1 is) (eqb_tells x.page page)

-- the found slot has the page
pub page_with : (d : Duties) (page : ℕ) → HasPage (phase_with d page) → (slot_with d page < length d.slots) × ((slot_at d (slot_with d page)).page ≡ page)
page_with d page stands = let s : ℕ = slot_with d page in ⊎_elim
    (λ lt. (lt, (stands_yes page (slot_at d s) (passes_at_first (stands_with page) d.slots no_slot lt)).1))
    (λ le. let none : slot_at d s ≡ no_slot = get_or_past d.slots s no_slot le in absurd (subst (λ (x : Slot). HasPage x.phase) none stands))
    (cases_lt s (length d.slots))

-- a page stands in one slot at most, so it is found where it stands
pub found_there : (shape : PageShape) (d : Duties) (page s : ℕ) → SlotsFit shape d → s < 4 → HasPage (slot_at d s).phase → (slot_at d s).page ≡ page → slot_with d page ≡ s
found_there shape d page s fit near stands is = let n : ℕ = slot_with d page in let four = fit.four in ⊎_elim
    (λ lt. let k = stands_yes page (slot_at d n) (passes_at_first (stands_with page) d.slots no_slot lt) in let low : n < 4 = omega arith in
    fit.used_apart n s low near (fit.stands_used n low k.0) (fit.stands_used s near stands) (k.1 ∙ sym is))
    (λ le. absurd (stands_no page (slot_at d s) (fails_before_first (stands_with page) d.slots s no_slot (omega arith)) stands is))
    (cases_lt n (length d.slots))

pub waiting_stands : (ph : SlotPhase) → is_waiting ph ≡ true → HasPage ph
waiting_stands Free w = cc
waiting_stands Open w = cc
waiting_stands Sealed w = tt
waiting_stands (Quiet next) w = tt

-- a waiting page is found
pub waiting_found : (shape : PageShape) (d : Duties) (page : ℕ) → SlotsFit shape d → IsWaiting d page → (slot_with d page < 4) × (is_waiting (phase_with d page) ≡ true)
waiting_found shape d page fit (s, near, w, is) =
    let e = found_there shape d page s fit near (waiting_stands (slot_at d s).phase w) is in
    (subst (λ (n : ℕ). n < 4) (sym e) near, ap (λ (n : ℕ). is_waiting (slot_at d n).phase) e ∙ w)

-- a page whose slot goes into another phase still stands there
pub phased_with : (d : Duties) (page : ℕ) (ph : SlotPhase) → length d.slots ≡ 4 → HasPage (phase_with d page) → HasPage ph → phase_with (in_phase d (slot_with d page) ph) page ≡ ph
phased_with d page ph four stood stands =
    let s : ℕ = slot_with d page in
    let x : Slot = phased_slot d s ph in
    let found = page_with d page stood in
    let old : stands_with page (slot_at d s) ≡ true = passes_at_first (stands_with page) d.slots no_slot found.0 in
    let new : stands_with page x ≡ true = both_true ph (eqb (slot_at d s).page page) stands (eq-eqb (slot_at d s).page page found.1) in
    let same : slot_with (in_phase d s ph) page ≡ s = position_or_len-set (stands_with page) d.slots s x no_slot (new ∙ sym old) in
    ap (λ (k : ℕ). (slot_at (in_phase d s ph) k).phase) same ∙ ap (λ (y : Slot). y.phase) (slot_here d s x found.0)

-- ---- the phase that is told

pub not_free_stands : (ph : SlotPhase) → ¬ (ph ≡ Free) → HasPage ph
not_free_stands Free n = absurd (n refl)
not_free_stands Open n = tt
not_free_stands Sealed n = tt
not_free_stands (Quiet next) n = tt

pub told_waiting : (d : Duties) (page : ℕ) → length d.slots ≡ 4 → is_waiting (phase_with d page) ≡ true → IsWaiting d page
told_waiting d page four w = let found = page_with d page (waiting_stands (phase_with d page) w) in let lt = found.0 in (slot_with d page, (omega arith), w, found.1)

-- no slot has it
pub none_with : (d : Duties) (page s : ℕ) → s ≡ slot_with d page → length d.slots ≤ s → phase_with d page ≡ Free
none_with d page s at le = ap (λ (x : Slot). x.phase) (get_or_past d.slots (slot_with d page) no_slot (subst (λ (n : ℕ). length d.slots ≤ n) at le))
