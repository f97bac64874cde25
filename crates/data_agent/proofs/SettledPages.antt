-- What an agent's keeper has of its slots when it settles a page, also while passes are out.
use Rattle.std.proofs.Common.{ℕ, zero, suc, ◌≡◌, ◌≤◌, ◌<◌, ◌⊎◌, ◌∙◌, List, length, get_or, true, sym, ap, subst, refl, inl, inr, ⊎_elim, arith}
use mathlib.Core.Logic.{dite}
use native.Mathlib.Decide.{ℕ_discrete}
use Rattle.spie_base.specs.declared.PageShape.{PageShape}
use Rattle.gate_core.specs.declared.states.SlotPhase.TheVariants.{Sealed, Quiet}
use Rattle.gate_core.specs.declared.view.Duties.{Duties}
use Rattle.gate_core.specs.declared.view.Role.TheVariants.{Keeper}
use Rattle.gate_core.specs.declared.view.Slot.{Slot}
use Rattle.gate_core.specs.declared.view.View.{View}
use Rattle.gate_core.specs.Acts.{IsQuiet, in_phase, inside_of}
use Rattle.gate_core.specs.Views.{collected_of, no_slot, slot_at}
use Rattle.gate_core.proofs.Readings.{met_fits}
use Rattle.gate_core.proofs.Slots.{page_same, phase_case}
use Rattle.page_gate.specs.Held.{Held}
use Rattle.page_gate.specs.Pages.{phase_with, slot_with}
use Rattle.page_gate.specs.Settled.{SettledNow, settled_by}
use Rattle.page_gate.specs.Slots.{StaysOpen, is_waiting}
use Rattle.page_gate.specs.Steps.{IsMet}
use Rattle.page_gate.specs.declared.settle.Settled.{Settled}
use Rattle.page_gate.specs.declared.settle.Settled.TheVariants as settled
use Rattle.page_gate.proofs.Settling.{noting, quiet_is, pending_is}
use Rattle.page_gate.proofs.SlotWith.{waiting_found}
use Rattle.data_agent.specs.Beside.{IsMinding, KeepsWords}
use Rattle.data_agent.proofs.PhaseCounts.{quiet_or_sealed}
use Rattle.data_agent.proofs.Minding.{knows_same, knows_by, minded_by}

module _ (shape : PageShape) (k k2 : Held) (page : ℕ) (t : Settled) (n : SettledNow k k2 page t) where
  abbrev before : Duties
  before = k.view.duties

  abbrev sl : ℕ
  sl = slot_with before page

  abbrev gate : ℕ
  gate = k2.view.duties.noted

  -- the page is quiet, or only the gate was noted
  cases_settled : (k2.view ≡ record k.view { duties = in_phase (noting k.view sl gate) sl (Quiet 0) }) ⊎ (k2.view ≡ record k.view { duties = noting k.view sl gate })
  cases_settled = dite (ℕ_discrete (inside_of gate) 0)
      (λ e. inl (ap (λ (h : Held). h.view) n.keeper ∙ quiet_is k.view sl gate e))
      (λ ne. inr (ap (λ (h : Held). h.view) n.keeper ∙ pending_is k.view sl gate ne))

  settled_words : KeepsWords shape k k2
  settled_words = ⊎_elim
      (λ view. record {
        table = ap (λ (h : Held). h.table) n.keeper;
        entries = ap (λ (u : View). u.entries) view;
        out = ap (λ (u : View). u.duties.out) view;
        probes = ap (λ (u : View). u.duties.probes) view;
        collected = λ p has. ap (λ (u : View). collected_of u.duties p) view;
      })
      (λ view. record {
        table = ap (λ (h : Held). h.table) n.keeper;
        entries = ap (λ (u : View). u.entries) view;
        out = ap (λ (u : View). u.duties.out) view;
        probes = ap (λ (u : View). u.duties.probes) view;
        collected = λ p has. ap (λ (u : View). collected_of u.duties p) view;
      })
      cases_settled

  module _ (first last : ℕ) (s : IsMinding shape k first last) (from : first ≤ page) (to : page < last) (met : IsMet shape k2.view) (stays : StaysOpen k.view.duties k2.view.duties) where
    found : (sl < 4) × (is_waiting (phase_with before page) ≡ true)
    found = waiting_found shape before page s.fits (s.stand page from to)

    minded_quiet : k2.view ≡ record k.view { duties = in_phase (noting k.view sl gate) sl (Quiet 0) } → IsMinding shape k2 first last
    minded_quiet view =
        let slots : k2.view.duties.slots ≡ (in_phase before sl (Quiet 0)).slots = ap (λ (u : View). u.duties.slots) view in
        let role : k2.view.role ≡ Keeper = ap (λ (u : View). u.role) view ∙ s.role in
        let four = s.fits.four in
        let within : sl < length before.slots = let low = found.0 in omega arith in
        minded_by shape k k2 first last s role (met_fits shape k2.view role met.0 met.1 met.2).slots stays
        (λ j. ap (λ (xs : List Slot). (get_or xs j no_slot).page) slots ∙ page_same before sl (Quiet 0) within j)
        (λ j. subst (λ (xs : List Slot). is_waiting (slot_at before j).phase ≡ true → is_waiting (get_or xs j no_slot).phase ≡ true) (sym slots)
        (phase_case before sl (Quiet 0) within (λ i y. is_waiting (slot_at before i).phase ≡ true → is_waiting y ≡ true) (λ w. refl) (λ i ne w. w) j))
        (λ j. subst (λ (xs : List Slot). is_waiting (get_or xs j no_slot).phase ≡ true → is_waiting (slot_at before j).phase ≡ true) (sym slots)
        (phase_case before sl (Quiet 0) within (λ i y. is_waiting y ≡ true → is_waiting (slot_at before i).phase ≡ true) (λ w. found.1) (λ i ne w. w) j))

    minded_pending : k2.view ≡ record k.view { duties = noting k.view sl gate } → IsMinding shape k2 first last
    minded_pending view =
        let slots : k2.view.duties.slots ≡ before.slots = ap (λ (u : View). u.duties.slots) view in
        let role : k2.view.role ≡ Keeper = ap (λ (u : View). u.role) view ∙ s.role in
        minded_by shape k k2 first last s role (met_fits shape k2.view role met.0 met.1 met.2).slots stays
        (λ j. ap (λ (xs : List Slot). (get_or xs j no_slot).page) slots)
        (λ j w. ap (λ (xs : List Slot). is_waiting (get_or xs j no_slot).phase) slots ∙ w)
        (λ j w. ap (λ (xs : List Slot). is_waiting (get_or xs j no_slot).phase) (sym slots) ∙ w)

    minded_now : IsMinding shape k2 first last
    minded_now = ⊎_elim minded_quiet minded_pending cases_settled

-- in the forms in which `settle` tells it

module _ (shape : PageShape) (k k2 : Held) (page : ℕ) (t : Settled) (before : IsQuiet (phase_with k.view.duties page) → (t ≡ settled.Quiet) × (k2 ≡ k)) (now : phase_with k.view.duties page ≡ Sealed → SettledNow k k2 page t × IsMet shape k2.view) where
  pub minded_settled : (first last : ℕ) → first ≤ page → page < last → StaysOpen k.view.duties k2.view.duties → IsMinding shape k first last → IsMinding shape k2 first last
  minded_settled first last from to stays s =
      let found = waiting_found shape k.view.duties page s.fits (s.stand page from to) in
      elim (quiet_or_sealed (phase_with k.view.duties page) found.1) [
        | inr quiet ↦ subst (λ (h : Held). IsMinding shape h first last) (sym (before quiet).1) s
        | inl sealed ↦ let (n, met) = now sealed in minded_now shape k k2 page t n first last s from to met stays
      ]

  pub words_settled : (first last : ℕ) → first ≤ page → page < last → IsMinding shape k first last → KeepsWords shape k k2
  words_settled first last from to s =
      let found = waiting_found shape k.view.duties page s.fits (s.stand page from to) in
      elim (quiet_or_sealed (phase_with k.view.duties page) found.1) [
        | inr quiet ↦ knows_by shape k k k2 (knows_same shape k) (before quiet).1
        | inl sealed ↦ settled_words shape k k2 page t (now sealed).0
      ]

  -- a page that is not quiet has somebody inside
  inside_some : (inside : ℕ) → t ≡ settled_by inside → (t ≡ settled.Quiet → ⊥) → 1 ≤ inside
  inside_some zero is not = absurd (not is)
  inside_some (suc inside) is not = omega arith

  pub settled_sees : (first last : ℕ) → first ≤ page → page < last → IsMinding shape k first last → (t ≡ settled.Quiet → ⊥) → 1 ≤ inside_of k2.view.duties.noted
  settled_sees first last from to s not =
      let found = waiting_found shape k.view.duties page s.fits (s.stand page from to) in
      elim (quiet_or_sealed (phase_with k.view.duties page) found.1) [
        | inr quiet ↦ absurd (not (before quiet).0)
        | inl sealed ↦ inside_some (inside_of k2.view.duties.noted) (now sealed).0.answers not
      ]
