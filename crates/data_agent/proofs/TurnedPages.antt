-- What an agent's keeper has of its slots when it closes the open page, also while passes are out.
use Rattle.std.proofs.Common.{ℕ, zero, suc, ◌≡◌, ◌≢◌, ◌≤◌, ◌<◌, ◌+◌, ◌⊎◌, ◌∙◌, ◌∷◌, [], ◌++◌, List, length, get_or, true, sym, ap, subst, refl, inl, inr, ⊎_elim, arith, length-set, set}
use Rattle.std.proofs.lemmas.Bool.{cases_lt}
use Rattle.spie_base.specs.declared.PageShape.{PageShape}
use Rattle.gate_core.specs.declared.states.SlotPhase.TheVariants.{Free, Open, Sealed}
use Rattle.gate_core.specs.declared.view.Duties.{Duties}
use Rattle.gate_core.specs.declared.view.Role.TheVariants.{Keeper}
use Rattle.gate_core.specs.declared.view.Slot.{Slot}
use Rattle.gate_core.specs.Acts.{in_phase, open_slot, phased_slot}
use Rattle.gate_core.specs.Views.{collected_of, no_slot, slot_at}
use Rattle.gate_core.proofs.Readings.{met_fits}
use Rattle.gate_core.proofs.Slots.{open_is, page_same, phase_case, slot_case, slot_else}
use Rattle.page_gate.specs.Held.{Held}
use Rattle.page_gate.specs.Rotated.{free_slot, rotated_held}
use Rattle.page_gate.specs.Slots.{HasOpen, IsWaiting, free_count, is_waiting, open_page}
use Rattle.page_gate.specs.Steps.{IsMet}
use Rattle.page_gate.proofs.Rotating.{free_found}
use Rattle.data_agent.specs.Beside.{IsMinding, KeepsWords}
use Rattle.data_agent.proofs.PhaseCounts.{free_waits_not, open_waits_not, open_not_free}
use Rattle.data_agent.proofs.Minding.{next_minded}

module _ (shape : PageShape) (k k2 : Held) (first last : ℕ) (s : IsMinding shape k first last) (some : 1 ≤ free_count k.view.duties) (is_after : k2 ≡ rotated_held k) where
  abbrev from : Duties
  from = k.view.duties

  abbrev sealed : Duties
  sealed = in_phase from (open_slot from) Sealed

  abbrev opened : Slot
  opened = record { phase = Open; page = from.next; used = true }

  o_near : open_slot from < length from.slots
  o_near = let four = s.fits.four in let low = s.has_open in omega arith

  free : (free_slot from < 4) × ((slot_at from (free_slot from)).phase ≡ Free)
  free = free_found from s.fits.four some

  to_near : free_slot from < length sealed.slots
  to_near = let four = s.fits.four in let len : length sealed.slots ≡ length from.slots = length-set from.slots (open_slot from) (phased_slot from (open_slot from) Sealed) in let lt = free.0 in omega arith

  then_slots : k2.view.duties.slots ≡ set sealed.slots (free_slot from) opened
  then_slots = ap (λ (h : Held). h.view.duties.slots) is_after

  -- of each slot but that which was free the page and whether it is closed are known
  closed_then : (j : ℕ) → is_waiting (slot_at k2.view.duties j).phase ≡ true → ((j ≡ open_slot from) ⊎ (is_waiting (slot_at from j).phase ≡ true)) × ((slot_at k2.view.duties j).page ≡ (slot_at from j).page)
  closed_then j w =
      let cases : (is_waiting (slot_at sealed j).phase ≡ true) × ((slot_at k2.view.duties j).page ≡ (slot_at sealed j).page) =
      subst (λ (xs : List Slot). is_waiting (get_or xs j no_slot).phase ≡ true → (is_waiting (slot_at sealed j).phase ≡ true) × ((get_or xs j no_slot).page ≡ (slot_at sealed j).page)) (sym then_slots)
      (slot_case sealed (free_slot from) opened to_near (λ i y. is_waiting y.phase ≡ true → (is_waiting (slot_at sealed i).phase ≡ true) × (y.page ≡ (slot_at sealed i).page)) (λ h. absurd (open_waits_not Open refl h)) (λ i ne h. (h, refl)) j) w in (
        phase_case from (open_slot from) Sealed o_near (λ i y. is_waiting y ≡ true → (i ≡ open_slot from) ⊎ (is_waiting (slot_at from i).phase ≡ true)) (λ h. inl refl) (λ i ne h. inr h) j cases.0,
        cases.1 ∙ page_same from (open_slot from) Sealed o_near j,
      )

  stays_closed : (j : ℕ) → j ≢ free_slot from → (j ≡ open_slot from) ⊎ (is_waiting (slot_at from j).phase ≡ true) → (is_waiting (slot_at k2.view.duties j).phase ≡ true) × ((slot_at k2.view.duties j).page ≡ (slot_at from j).page)
  stays_closed j apart which =
      let same : slot_at k2.view.duties j ≡ slot_at sealed j = ap (λ (xs : List Slot). get_or xs j no_slot) then_slots ∙ slot_else sealed (free_slot from) opened to_near j apart in
      let closed : is_waiting (slot_at sealed j).phase ≡ true =
      phase_case from (open_slot from) Sealed o_near (λ i y. (i ≡ open_slot from) ⊎ (is_waiting (slot_at from i).phase ≡ true) → is_waiting y ≡ true) (λ h. refl) (λ i ne h. ⊎_elim (λ e. absurd (ne e)) (λ x. x) h) j which in
      (ap (λ (x : Slot). is_waiting x.phase) same ∙ closed, ap (λ (x : Slot). x.page) same ∙ page_same from (open_slot from) Sealed o_near j)

  o_apart : open_slot from ≢ free_slot from
  o_apart e = open_not_free (slot_at from (open_slot from)).phase (open_is from s.fits.four s.has_open) (subst (λ (n : ℕ). (slot_at from n).phase ≡ Free) (sym e) free.1)

  stand_then : (page : ℕ) → first ≤ page → page < last + 1 → IsWaiting k2.view.duties page
  stand_then page low high = elim (cases_lt page last) [
    | inl before ↦
        let (j, near, w, is) = s.stand page low before in
        let apart : j ≢ free_slot from = λ e. free_waits_not (slot_at from j).phase (subst (λ (n : ℕ). (slot_at from n).phase ≡ Free) (sym e) free.1) w in
        let c = stays_closed j apart (inr w) in
        (j, near, c.0, c.1 ∙ is)
    | inr behind ↦
        let c = stays_closed (open_slot from) o_apart (inl refl) in
        (open_slot from, s.has_open, c.0, c.1 ∙ s.open_is ∙ (let e : last ≡ page = omega arith in e))
  ]

  only_then : (page : ℕ) → IsWaiting k2.view.duties page → (first ≤ page) × (page < last + 1)
  only_then page (j, near, w, is) =
      let c = closed_then j w in
      let at : (slot_at from j).page ≡ page = sym c.1 ∙ is in
      elim c.0 [
        | inl mine ↦
            let here : last ≡ page = sym s.open_is ∙ ap (λ (n : ℕ). (slot_at from n).page) (sym mine) ∙ at in
            let order = s.order in
            ((let a : first ≤ page = omega arith in a), (let b : page < last + 1 = omega arith in b))
        | inr old ↦
            let found = s.only page (j, near, old, at) in
            let low = found.0 in
            let high = found.1 in
            (low, (let b : page < last + 1 = omega arith in b))
      ]

  pub minded_turned : IsMet shape k2.view → HasOpen k2.view.duties → open_page k2.view.duties ≡ from.next → IsMinding shape k2 first (last + 1)
  minded_turned met has current =
      let role : k2.view.role ≡ Keeper = ap (λ (h : Held). h.view.role) is_after ∙ s.role in
      let order = s.order in
      record {
        role = role;
        fits = (met_fits shape k2.view role met.0 met.1 met.2).slots;
        has_open = has;
        open_is = current ∙ next_minded shape k first last s;
        order = omega arith;
        stand = stand_then;
        only = only_then;
      }

-- a list with an empty one behind has the same words of each page
words_behind : (xs : List (List ℕ)) (page : ℕ) → get_or (xs ++ [] ∷ []) page [] ≡ get_or xs page []
words_behind [] zero = refl
words_behind [] (suc page) = refl
words_behind (x ∷ xs) zero = refl
words_behind (x ∷ xs) (suc page) = words_behind xs page

pub words_turned : (shape : PageShape) (k k2 : Held) → k2 ≡ rotated_held k → KeepsWords shape k k2
words_turned shape k k2 is = record {
  table = ap (λ (h : Held). h.table) is;
  entries = ap (λ (h : Held). h.view.entries) is;
  out = ap (λ (h : Held). h.view.duties.out) is;
  probes = ap (λ (h : Held). h.view.duties.probes) is;
  collected = λ page has. ap (λ (h : Held). collected_of h.view.duties page) is ∙ words_behind k.view.duties.collected page;
}
