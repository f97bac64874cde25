-- How many slots are in a phase, and what a phase is not.
use Rattle.std.proofs.Common.{ℕ, zero, suc, count_by, cond, ◌≡◌, ◌≢◌, ◌≤◌, ◌<◌, ◌+◌, ◌⊎◌, ◌∙◌, ◌∷◌, [], List, length, get_or, Bool, true, false, sym, ap, subst, refl, inl, inr, ⊎_elim, arith}
use Rattle.std.proofs.lemmas.Bool.{cases_Bool}
use Rattle.std.proofs.lemmas.List.Sums.{sum_by-cons}
use Rattle.gate_core.specs.declared.states.SlotPhase.{SlotPhase}
use Rattle.gate_core.specs.declared.states.SlotPhase.TheVariants.{Free, Open, Sealed, Quiet}
use Rattle.gate_core.specs.declared.view.Slot.{Slot}
use Rattle.gate_core.specs.Acts.{IsQuiet}
use Rattle.page_gate.specs.Slots.{is_free, is_waiting}

pub count_none : (p : Slot → Bool) (xs : List Slot) (i : ℕ) (x : Slot) → count_by p xs ≡ 0 → i < length xs → p (get_or xs i x) ≡ false
count_none p [] i x none lt = absurd (omega arith)
count_none p (y ∷ xs) zero x none lt = ⊎_elim
    (λ e. let c : count_by p (y ∷ xs) ≡ 1 + count_by p xs = sum_by-cons (λ (z : Slot). cond (p z) 1 0) y xs ∙ ap (λ (b : Bool). cond b 1 0 + count_by p xs) e in absurd (omega arith))
    (λ e. e)
    (cases_Bool (p y))
count_none p (y ∷ xs) (suc i) x none lt =
    let c : count_by p (y ∷ xs) ≡ cond (p y) 1 0 + count_by p xs = sum_by-cons (λ (z : Slot). cond (p z) 1 0) y xs in
    count_none p xs i x (omega arith) (omega arith)

pub count_some : (p : Slot → Bool) (xs : List Slot) (i : ℕ) (x : Slot) → i < length xs → p (get_or xs i x) ≡ true → 1 ≤ count_by p xs
count_some p [] i x lt is = absurd (omega arith)
count_some p (y ∷ xs) zero x lt is =
    let c : count_by p (y ∷ xs) ≡ 1 + count_by p xs = sum_by-cons (λ (z : Slot). cond (p z) 1 0) y xs ∙ ap (λ (b : Bool). cond b 1 0 + count_by p xs) is in omega arith
count_some p (y ∷ xs) (suc i) x lt is =
    let c : count_by p (y ∷ xs) ≡ cond (p y) 1 0 + count_by p xs = sum_by-cons (λ (z : Slot). cond (p z) 1 0) y xs in
    let more : 1 ≤ count_by p xs = count_some p xs i x (omega arith) is in
    omega arith

pub closed_waits : (ph : SlotPhase) → is_free ph ≡ false → ¬ (ph ≡ Open) → is_waiting ph ≡ true
closed_waits Free e n = cc
closed_waits Open e n = absurd (n refl)
closed_waits Sealed e n = refl
closed_waits (Quiet next) e n = refl

pub quiet_or_sealed : (ph : SlotPhase) → is_waiting ph ≡ true → (ph ≡ Sealed) ⊎ IsQuiet ph
quiet_or_sealed Free w = cc
quiet_or_sealed Open w = cc
quiet_or_sealed Sealed w = inl refl
quiet_or_sealed (Quiet next) w = inr tt

pub quiet_waits : (ph : SlotPhase) → IsQuiet ph → is_waiting ph ≡ true
quiet_waits Free q = absurd q
quiet_waits Open q = absurd q
quiet_waits Sealed q = absurd q
quiet_waits (Quiet next) q = refl

pub free_waits_not : (ph : SlotPhase) → ph ≡ Free → is_waiting ph ≡ true → ⊥
free_waits_not ph e w = let f : is_waiting Free ≡ true = subst (λ (x : SlotPhase). is_waiting x ≡ true) e w in cc

pub open_waits_not : (ph : SlotPhase) → ph ≡ Open → is_waiting ph ≡ true → ⊥
open_waits_not ph e w = let f : is_waiting Open ≡ true = subst (λ (x : SlotPhase). is_waiting x ≡ true) e w in cc

pub open_not_free : (ph : SlotPhase) → ph ≡ Open → ph ≡ Free → ⊥
open_not_free ph e f = let g : Open ≡ Free = sym e ∙ f in cc

-- a slot that is not this one
pub other_slot : (o : ℕ) → (t : ℕ) × (t < 4) × (t ≢ o)
other_slot zero = (1, (let g : 1 < 4 = omega arith in g), λ e. omega arith)
other_slot (suc n) = (0, (let g : 0 < 4 = omega arith in g), λ e. omega arith)
