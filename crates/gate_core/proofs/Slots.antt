-- One slot changes.
use Rattle.std.proofs.Common.{◌≡◌, ℕ, suc, zero, ◌+◌, ◌<◌, ◌≢◌, ◌⊎◌, List, [], ◌∷◌, length, get_or, sym, refl, ap, ◌∙◌, subst, inl, inr, ⊎_elim, arith, length-set, get_or-set_same, get_or-set_other}
use mathlib.Core.Logic.{dite}
use native.Mathlib.Decide.{ℕ_discrete}
use Rattle.spie_base.specs.declared.PageShape.{PageShape}
use Rattle.gate_core.specs.declared.states.SlotPhase.{SlotPhase}
use Rattle.gate_core.specs.declared.states.SlotPhase.TheVariants.{Free, Open, Sealed, Quiet}
use Rattle.gate_core.specs.Marks.{width}
use Rattle.gate_core.specs.Views.{Slot, no_slot, Duties, slot_at, collected_of}
use Rattle.gate_core.specs.Acts.{with_slot, in_phase, if_open, open_among, open_slot}
use Rattle.gate_core.specs.Invariant.{HasPage, taken, SlotsFit}

module _ (d : Duties) (s : ℕ) (x : Slot) (within : s < length d.slots) where
  pub slot_here : slot_at (with_slot d s x) s ≡ x
  slot_here = get_or-set_same d.slots s x no_slot within

  pub slot_else : (t : ℕ) → t ≢ s → slot_at (with_slot d s x) t ≡ slot_at d t
  slot_else t ne = get_or-set_other d.slots s t x no_slot ne

  -- a fact of each slot, where it holds of the new one and of the others
  pub slot_case : (P : ℕ → Slot → Type 0) → P s x → ((t : ℕ) → t ≢ s → P t (slot_at d t)) → (t : ℕ) → P t (slot_at (with_slot d s x) t)
  slot_case P mine others t = dite (ℕ_discrete t s) (λ e. subst (λ (k : ℕ). P k (slot_at (with_slot d s x) k)) (sym e) (subst (P s) (sym slot_here) mine)) (λ ne. subst (P t) (sym (slot_else t ne)) (others t ne))

module _ (d : Duties) (s : ℕ) (ph : SlotPhase) (within : s < length d.slots) where
  abbrev changed : Slot
  changed = record { phase = ph; page = (slot_at d s).page; used = (slot_at d s).used }

  pub page_same : (t : ℕ) → (slot_at (in_phase d s ph) t).page ≡ (slot_at d t).page
  page_same = slot_case d s changed within (λ t y. y.page ≡ (slot_at d t).page) refl (λ t ne. refl)

  pub used_same : (t : ℕ) → (slot_at (in_phase d s ph) t).used ≡ (slot_at d t).used
  used_same = slot_case d s changed within (λ t y. y.used ≡ (slot_at d t).used) refl (λ t ne. refl)

  -- a fact of each slot's phase
  pub phase_case : (P : ℕ → SlotPhase → Type 0) → P s ph → ((t : ℕ) → t ≢ s → P t (slot_at d t).phase) → (t : ℕ) → P t (slot_at (in_phase d s ph) t).phase
  phase_case P mine others t = slot_case d s changed within (λ k y. P k y.phase) mine others t

-- a slot that stands goes on, with as many words taken
pub rephased : (shape : PageShape) (d : Duties) (s : ℕ) (ph : SlotPhase) → SlotsFit shape d → s < 4 → HasPage (slot_at d s).phase → HasPage ph → ¬ (ph ≡ Open) → taken ph ≡ taken (slot_at d s).phase → SlotsFit shape (in_phase d s ph)
rephased shape d s ph fit near stood stands shut same = let within : s < length d.slots = let a = fit.four in omega arith in
    let pages = page_same d s ph within in let uses = used_same d s ph within in let cases = phase_case d s ph within in
    let was : (t : ℕ) → HasPage (slot_at (in_phase d s ph) t).phase → HasPage (slot_at d t).phase = cases (λ t y. HasPage y → HasPage (slot_at d t).phase) (λ _. stood) (λ t ne h. h) in record {
      four = length-set d.slots s (record { phase = ph; page = (slot_at d s).page; used = (slot_at d s).used }) ∙ fit.four;
      pointed_slot = fit.pointed_slot;
      pointed_used = uses d.pointed ∙ fit.pointed_used;
      open_last = λ t small. cases (λ k y. k < 4 → y ≡ Open → (slot_at (in_phase d s ph) k).page + 1 ≡ d.next) (λ _ e. absurd (shut e)) (λ k ne lt e. let a = pages k in let b = fit.open_last k lt e in omega arith) t small;
      stands_used = λ t small h. uses t ∙ fit.stands_used t small (was t h);
      used_below = λ t small h. let a = pages t in let b = fit.used_below t small (sym (uses t) ∙ h) in omega arith;
      used_apart = λ t o small near' h k e. fit.used_apart t o small near' (sym (uses t) ∙ h) (sym (uses o) ∙ k) (sym (pages t) ∙ (e ∙ pages o));
      page_within = λ t small. let a = pages t in let b = fit.page_within t small in omega arith;
      placed = λ page below. ⊎_elim inl (λ (t, small, h, e). inr (t, small, cases (λ k y. HasPage (slot_at d k).phase → HasPage y) (λ _. stands) (λ k ne h'. h') t h, pages t ∙ e)) (fit.placed page below);
      one_list = fit.one_list;
      taken_words = λ t small h. ap (λ (g : ℕ). length (collected_of d g)) (pages t) ∙ (fit.taken_words t small (was t h) ∙ cases (λ k y. taken (slot_at d k).phase ≡ taken y) (sym same) (λ k ne. refl) t);
      taken_short = λ t small. cases (λ k y. k < 4 → taken y < width shape) (λ _. let a = fit.taken_short s near in omega arith) (λ k ne lt. fit.taken_short k lt) t small;
      fits = fit.fits;
    }

-- ---- the open slot

opens : (ph : SlotPhase) (a b : ℕ) → ((ph ≡ Open) × (if_open ph a b ≡ a)) ⊎ (¬ (ph ≡ Open) × (if_open ph a b ≡ b))
opens Free a b = inr ((λ e. cc), refl)
opens Open a b = inl (refl, refl)
opens Sealed a b = inr ((λ e. cc), refl)
opens (Quiet next) a b = inr ((λ e. cc), refl)

abbrev Found : List Slot → ℕ → Type 0
Found xs s = (k : ℕ) × (k < length xs) × (open_among xs s ≡ s + k) × ((get_or xs k no_slot).phase ≡ Open)

found : (xs : List Slot) (s : ℕ) → open_among xs s < s + length xs → Found xs s
found [] s h = absurd (omega arith)
found (x ∷ xs) s h = ⊎_elim (λ t. (0, (let g : 0 < suc (length xs) = omega arith in g), (let a = t.1 in omega arith), t.0))
    (λ t. let (k, lt, at, is) = found xs (s + 1) (let a = t.1 in omega arith) in (suc k, (let g : suc k < suc (length xs) = omega arith in g), (let a = t.1 in omega arith), is)) (opens x.phase s (open_among xs (s + 1)))

pub open_is : (d : Duties) → length d.slots ≡ 4 → open_slot d < 4 → (slot_at d (open_slot d)).phase ≡ Open
open_is d four h = let (k, lt, at, is) = found d.slots 0 (let g : open_among d.slots 0 < 0 + length d.slots = omega arith in g) in subst (λ (i : ℕ). (slot_at d i).phase ≡ Open) (let g : k ≡ open_slot d = omega arith in g) is

none_found : (xs : List Slot) (s : ℕ) → open_among xs s ≡ s + length xs → (k : ℕ) → k < length xs → ¬ ((get_or xs k no_slot).phase ≡ Open)
none_found [] s h k lt e = absurd (omega arith)
none_found (x ∷ xs) s h zero lt e = ⊎_elim (λ t. let a = t.1 in absurd (omega arith)) (λ t. t.0 e) (opens x.phase s (open_among xs (s + 1)))
none_found (x ∷ xs) s h (suc k) lt e = ⊎_elim (λ t. let a = t.1 in absurd (omega arith)) (λ t. none_found xs (s + 1) (let a = t.1 in omega arith) k (omega arith) e) (opens x.phase s (open_among xs (s + 1)))

pub none_open : (d : Duties) → length d.slots ≡ 4 → open_slot d ≡ 4 → (s : ℕ) → s < 4 → ¬ ((slot_at d s).phase ≡ Open)
none_open d four h s near = none_found d.slots 0 (let g : open_among d.slots 0 ≡ 0 + length d.slots = omega arith in g) s (let g : s < length d.slots = omega arith in g)
