-- What is so of the keeper's slots between any two calls, and what its acts leave of it.
use Rattle.std.proofs.Common.{◌≡◌, ◌≢◌, ℕ, zero, suc, ◌<◌, List, length, get_or, sym, refl, ap, ◌∙◌, subst, arith, length-set}
use Rattle.spie_base.specs.declared.PageShape.{PageShape}
use Rattle.gate_core.specs.declared.states.SlotPhase.{SlotPhase}
use Rattle.gate_core.specs.declared.states.SlotPhase.TheVariants.{Open}
use Rattle.gate_core.specs.declared.view.Slot.{Slot}
use Rattle.gate_core.specs.declared.view.Duties.{Duties}
use Rattle.gate_core.specs.declared.view.View.{View}
use Rattle.gate_core.specs.declared.view.Role.{Role}
use Rattle.gate_core.specs.declared.view.Role.TheVariants.{Spent, Keeper}
use Rattle.gate_core.specs.Views.{no_slot, slot_at, first_keeper}
use Rattle.gate_core.specs.Acts.{open_among, open_slot, in_phase, with_slot}
use Rattle.gate_core.specs.Invariant.{HasPage, taken, SlotsFit}
use Rattle.gate_core.proofs.Deals.{same_slots}
use Rattle.gate_core.proofs.OpenSlot.{open_some}
use Rattle.gate_core.proofs.Readings.{met_fits}
use Rattle.gate_core.proofs.Starts as starts
use Rattle.gate_core.proofs.Slots.{slot_case, phase_case, slot_else, open_is}
use Rattle.page_gate.specs.Pages.{AreKept}
use Rattle.page_gate.specs.Slots.{HasOpen, StaysOpen}
use Rattle.page_gate.specs.Steps.{IsMet, no_shape}

pub alive : (r : Role) → r ≡ Keeper → ¬ (r ≡ Spent)
alive r e f = let g : Keeper ≡ Spent = sym e ∙ f in cc

first_whole : (s : ℕ) → s < 4 → taken (slot_at first_keeper.duties s).phase ≡ 0
first_whole zero h = refl
first_whole (suc zero) h = refl
first_whole (suc (suc zero)) h = refl
first_whole (suc (suc (suc zero))) h = refl
first_whole (suc (suc (suc (suc n)))) h = absurd (omega arith)

-- at the start
pub first_kept : AreKept first_keeper.duties
first_kept = record { shape = no_shape; fit = starts.slots no_shape; whole = first_whole }

-- passes are dealt or gathered
pub kept_counts : (d : Duties) (dealt out : ℕ) → AreKept d → AreKept (record d { dealt = dealt; out = out })
kept_counts d dealt out k = record { shape = k.shape; fit = same_slots k.shape d dealt out k.fit; whole = k.whole }

-- after an act the slots fit; so it remains that none is half drained
pub kept_met : (shape : PageShape) (v : View) → IsMet shape v → v.role ≡ Keeper → ((s : ℕ) → s < 4 → taken (slot_at v.duties s).phase ≡ 0) → AreKept v.duties
kept_met shape v (at, word, m) role whole = record { shape = shape; fit = (met_fits shape v role at word m).slots; whole = whole }

-- a slot goes into a phase with no word taken
pub whole_phased : (d : Duties) (s : ℕ) (ph : SlotPhase) → s < length d.slots → taken ph ≡ 0 → ((t : ℕ) → t < 4 → taken (slot_at d t).phase ≡ 0) → (t : ℕ) → t < 4 → taken (slot_at (in_phase d s ph) t).phase ≡ 0
whole_phased d s ph within none whole t near = phase_case d s ph within (λ k y. k < 4 → taken y ≡ 0) (λ _. none) (λ k ne. whole k) t near

-- or becomes another
pub whole_slotted : (d : Duties) (s : ℕ) (x : Slot) → s < length d.slots → taken x.phase ≡ 0 → ((t : ℕ) → t < 4 → taken (slot_at d t).phase ≡ 0) → (t : ℕ) → t < 4 → taken (slot_at (with_slot d s x) t).phase ≡ 0
whole_slotted d s x within none whole t near = slot_case d s x within (λ k y. k < 4 → taken y.phase ≡ 0) (λ _. none) (λ k ne. whole k) t near

-- the slot that is open is the one that is found
pub open_found : (shape : PageShape) (d : Duties) (s : ℕ) → SlotsFit shape d → s < 4 → (slot_at d s).phase ≡ Open → open_slot d ≡ s
open_found shape d s fit near is =
    let four = fit.four in
    let h = open_some d.slots 0 s (let g : s < length d.slots = omega arith in g) is in
    let t : ℕ = open_slot d in
    let low : t < 4 = omega arith in
    let is' = open_is d four low in
    let a = fit.open_last s near is in
    let b = fit.open_last t low is' in
    fit.used_apart t s low near (fit.stands_used t low (subst HasPage (sym is') tt)) (fit.stands_used s near (subst HasPage (sym is) tt)) (omega arith)

-- the open slot is the one at which the keeper pointed, though another slot goes on
pub pointed_still : (d : Duties) → AreKept d → (s : ℕ) (ph : SlotPhase) → s < 4 → ¬ (ph ≡ Open) → (HasOpen d → d.pointed ≡ open_slot d) → HasOpen (in_phase d s ph) → d.pointed ≡ open_slot (in_phase d s ph)
pointed_still d k s ph near shut pointed has =
    let four = k.fit.four in
    let within : s < length d.slots = omega arith in
    let d' = in_phase d s ph in
    let o : ℕ = open_slot d' in
    let four' : length d'.slots ≡ 4 = length-set d.slots s (record { phase = ph; page = (slot_at d s).page; used = (slot_at d s).used }) ∙ four in
    let was : (slot_at d o).phase ≡ Open = phase_case d s ph within (λ j y. y ≡ Open → (slot_at d j).phase ≡ Open) (λ e. absurd (shut e)) (λ j ne e. e) o (open_is d' four' has) in
    let here : open_slot d ≡ o = open_found k.shape d o k.fit has was in
    pointed (subst (λ (n : ℕ). n < 4) (sym here) has) ∙ here

-- ---- after an act that takes one slot into another phase

module _ (shape : PageShape) (v w : View) (s : ℕ) (ph : SlotPhase) (k : AreKept v.duties) (met : IsMet shape w) (role' : w.role ≡ Keeper) (near : s < 4) (none : taken ph ≡ 0) (slots : w.duties.slots ≡ (in_phase v.duties s ph).slots) where
  -- the open slot is still the one at which the keeper pointed
  pub pointed_then : ¬ (ph ≡ Open) → w.duties.pointed ≡ v.duties.pointed → (HasOpen v.duties → v.duties.pointed ≡ open_slot v.duties) → HasOpen w.duties → w.duties.pointed ≡ open_slot w.duties
  pointed_then shut same pointed has =
      same
      ∙ pointed_still v.duties k s ph near shut pointed (subst (λ (xs : List Slot). open_among xs 0 < 4) slots has)
      ∙ sym (ap (λ (xs : List Slot). open_among xs 0) slots)

  -- and no slot is half drained
  pub kept_then : AreKept w.duties
  kept_then =
      let within : s < length v.duties.slots = let a = k.fit.four in omega arith in
      kept_met shape w met role' (λ t small. ap (λ (xs : List Slot). taken (get_or xs t no_slot).phase) slots ∙ whole_phased v.duties s ph within none k.whole t small)

-- ---- after an act that leaves the slots as they are

module _ (shape : PageShape) (v w : View) (met : IsMet shape w) (role : w.role ≡ Keeper) (slots : w.duties.slots ≡ v.duties.slots) where
  pub kept_same : AreKept v.duties → AreKept w.duties
  kept_same k = kept_met shape w met role (λ t small. ap (λ (xs : List Slot). taken (get_or xs t no_slot).phase) slots ∙ k.whole t small)

  pub pointed_same : w.duties.pointed ≡ v.duties.pointed → (HasOpen v.duties → v.duties.pointed ≡ open_slot v.duties) → HasOpen w.duties → w.duties.pointed ≡ open_slot w.duties
  pointed_same same pointed has = same ∙ pointed (subst (λ (xs : List Slot). open_among xs 0 < 4) slots has) ∙ sym (ap (λ (xs : List Slot). open_among xs 0) slots)

-- a page that is open stays open, though another slot goes on
pub stays_open : (d e : Duties) (s : ℕ) (ph : SlotPhase) → AreKept d → AreKept e → s < 4 → ¬ ((slot_at d s).phase ≡ Open) → e.slots ≡ (in_phase d s ph).slots → StaysOpen d e
stays_open d e s ph k k' near shut slots low =
    let o : ℕ = open_slot d in
    let four = k.fit.four in
    let is = open_is d four low in
    let ne : o ≢ s = λ same. shut (subst (λ (j : ℕ). (slot_at d j).phase ≡ Open) same is) in
    let x : Slot = record { phase = ph; page = (slot_at d s).page; used = (slot_at d s).used } in
    let here : slot_at e o ≡ slot_at d o = ap (λ (xs : List Slot). get_or xs o no_slot) slots ∙ slot_else d s x (let g : s < length d.slots = omega arith in g) o ne in
    let at : open_slot e ≡ o = open_found k'.shape e o k'.fit low (ap (λ (y : Slot). y.phase) here ∙ is) in
    (subst (λ (n : ℕ). n < 4) (sym at) low, ap (λ (n : ℕ). (slot_at e n).page) at ∙ ap (λ (y : Slot). y.page) here)

-- or none does
pub stays_same : (d e : Duties) → e.slots ≡ d.slots → StaysOpen d e
stays_same d e slots low = let at : open_slot e ≡ open_slot d = ap (λ (xs : List Slot). open_among xs 0) slots in
    (subst (λ (n : ℕ). n < 4) (sym at) low, ap (λ (n : ℕ). (slot_at e n).page) at ∙ ap (λ (xs : List Slot). (get_or xs (open_slot d) no_slot).page) slots)
