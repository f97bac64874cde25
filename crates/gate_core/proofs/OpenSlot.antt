-- The slot that is open: how it is found, and as the keeper's slots change.
use Rattle.std.proofs.Common.{◌≡◌, ℕ, zero, suc, ◌+◌, ◌<◌, ◌≤◌, ◌≢◌, ◌⊎◌, List, [], ◌∷◌, length, get_or, sym, refl, ap, ◌∙◌, subst, inl, inr, ⊎_elim, arith, length-set, drop}
use Rattle.std.proofs.lemmas.Bool.{cases_lt}
use Rattle.spie_base.specs.declared.PageShape.{PageShape}
use Rattle.spie_base.specs.declared.types.Entry.{Entry}
use Rattle.gate_core.specs.declared.states.SlotPhase.{SlotPhase}
use Rattle.gate_core.specs.declared.states.SlotPhase.TheVariants.{Free, Open, Sealed, Quiet}
use Rattle.gate_core.specs.Views.{Slot, no_slot, Duties, View, slot_at}
use Rattle.gate_core.specs.Acts.{if_open, open_among, open_slot, phased_slot, in_phase}
use Rattle.gate_core.specs.Invariant.{PlaneFits}
use Rattle.std.proofs.lemmas.List.{at_drop_more, at_drop_all}
use Rattle.gate_core.proofs.Drawn.{one_open}
use Rattle.gate_core.proofs.Slots.{open_is, phase_case, slot_else}

-- ---- the look for the open slot

if_shut : (ph : SlotPhase) (a b : ℕ) → ¬ (ph ≡ Open) → if_open ph a b ≡ b
if_shut Free a b shut = refl
if_shut Open a b shut = absurd (shut refl)
if_shut Sealed a b shut = refl
if_shut (Quiet next) a b shut = refl

pub open_found : (xs : List Slot) (i : ℕ) (d : Slot) → i < length xs → (get_or xs i d).phase ≡ Open → open_among (drop i xs) i ≡ i
open_found xs i d lt e = at_drop_more (λ (l : List Slot). open_among l i) xs i d lt ∙ ap (λ (ph : SlotPhase). if_open ph i (open_among (drop (i + 1) xs) (i + 1))) e

pub open_later : (xs : List Slot) (i : ℕ) (d : Slot) → i < length xs → ¬ ((get_or xs i d).phase ≡ Open) → open_among (drop i xs) i ≡ open_among (drop (i + 1) xs) (i + 1)
open_later xs i d lt shut = at_drop_more (λ (l : List Slot). open_among l i) xs i d lt ∙ if_shut (get_or xs i d).phase i (open_among (drop (i + 1) xs) (i + 1)) shut

pub open_none : (xs : List Slot) (i : ℕ) → length xs ≤ i → open_among (drop i xs) i ≡ i
open_none xs i le = at_drop_all (λ (l : List Slot). open_among l i) xs i le

-- ---- as slots change

either : (ph : SlotPhase) (a b : ℕ) → (if_open ph a b ≡ a) ⊎ (if_open ph a b ≡ b)
either Free a b = inr refl
either Open a b = inl refl
either Sealed a b = inr refl
either (Quiet next) a b = inr refl

pub open_most : (xs : List Slot) (s : ℕ) → open_among xs s ≤ s + length xs
open_most [] s = omega arith
open_most (x ∷ xs) s = let h = open_most xs (s + 1) in ⊎_elim (λ e. omega arith) (λ e. omega arith) (either x.phase s (open_among xs (s + 1)))

pub open_some : (xs : List Slot) (s k : ℕ) → k < length xs → (get_or xs k no_slot).phase ≡ Open → open_among xs s < s + length xs
open_some [] s k lt e = absurd (omega arith)
open_some (x ∷ xs) s zero lt e = let h : open_among (x ∷ xs) s ≡ s = ap (λ (ph : SlotPhase). if_open ph s (open_among xs (s + 1))) e in omega arith
open_some (x ∷ xs) s (suc k) lt e = let h = open_some xs (s + 1) k (omega arith) e in ⊎_elim (λ t. omega arith) (λ t. omega arith) (either x.phase s (open_among xs (s + 1)))

not_free : (ph : SlotPhase) → ph ≡ Open → ¬ (ph ≡ Free)
not_free ph e f = let g : Open ≡ Free = sym e ∙ f in cc

-- a slot that is not open goes into a phase: the open one stays open
pub still_open : (d : Duties) (s : ℕ) (ph : SlotPhase) → length d.slots ≡ 4 → s < 4 → open_slot d < 4 → ¬ ((slot_at d s).phase ≡ Open) → open_slot (in_phase d s ph) < 4
still_open d s ph four near low shut = let o : ℕ = open_slot d in let is = open_is d four low in let x : Slot = phased_slot d s ph in
    let else : slot_at (in_phase d s ph) o ≡ slot_at d o = slot_else d s x (let g : s < length d.slots = omega arith in g) o (λ e. shut (subst (λ (j : ℕ). (slot_at d j).phase ≡ Open) e is)) in
    let long : length (in_phase d s ph).slots ≡ 4 = length-set d.slots s x ∙ four in
    let h = open_some (in_phase d s ph).slots 0 o (let g : o < length (in_phase d s ph).slots = omega arith in g) (ap (λ (y : Slot). y.phase) else ∙ is) in omega arith

-- the invariant holds, of the keeper's duties d and its entries
module _ (shape : PageShape) (words : List ℕ) (views : List View) (d : Duties) (mine : List Entry) (fits : PlaneFits shape words views d mine) where
  only_open : (s t : ℕ) → s < 4 → t < 4 → (slot_at d s).phase ≡ Open → (slot_at d t).phase ≡ Open → s ≡ t
  only_open = one_open shape words views d mine fits

  -- the slot that is open is the one that is found
  pub open_here : (s : ℕ) → s < 4 → (slot_at d s).phase ≡ Open → open_slot d ≡ s
  open_here s near is = let four = fits.slots.four in let h = open_some d.slots 0 s (let g : s < length d.slots = omega arith in g) is in let low : open_slot d < 4 = omega arith in
      only_open (open_slot d) s low near (open_is d four low) is

  -- with the open slot sealed, none is open
  pub sealed_none : open_slot d < 4 → open_slot (in_phase d (open_slot d) Sealed) ≡ 4
  sealed_none low = let s : ℕ = open_slot d in let four = fits.slots.four in let within : s < length d.slots = omega arith in let d' = in_phase d s Sealed in
      let four' : length d'.slots ≡ 4 = length-set d.slots s (phased_slot d s Sealed) ∙ four in
      let most = open_most d'.slots 0 in
      elim (cases_lt (open_slot d') 4) [
        | inl is_low ↦ let t : ℕ = open_slot d' in
            let k = phase_case d s Sealed within (λ j ph. ph ≡ Open → (j ≢ s) × ((slot_at d j).phase ≡ Open)) (λ e. cc) (λ j ne e. (ne, e)) t (open_is d' four' is_low) in
            absurd (k.0 (only_open t s is_low low k.1 (open_is d four low)))
        | inr high ↦ let g : open_slot d' ≡ 4 = omega arith in g
      ]

  -- and a free slot is as it was
  pub sealed_else : (t : ℕ) → open_slot d < 4 → (slot_at d t).phase ≡ Free → slot_at (in_phase d (open_slot d) Sealed) t ≡ slot_at d t
  sealed_else t low free = let s : ℕ = open_slot d in let four = fits.slots.four in let within : s < length d.slots = omega arith in
      slot_else d s (phased_slot d s Sealed) within t (λ e. not_free (slot_at d s).phase (open_is d four low) (subst (λ (j : ℕ). (slot_at d j).phase ≡ Free) e free))
