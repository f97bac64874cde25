-- Where pages stand in the slots of an agent's keeper, and what the keeper knows, also while passes are out.
use Rattle.std.proofs.Common.{ℕ, ◌≡◌, ◌≤◌, ◌<◌, ◌+◌, ◌∙◌, length, true, false, sym, ap, subst, refl, inl, inr, arith}
use Rattle.std.proofs.lemmas.Bool.{cases_lt}
use Rattle.spie_base.specs.declared.PageShape.{PageShape}
use Rattle.gate_core.specs.declared.states.SlotPhase.{SlotPhase}
use Rattle.gate_core.specs.declared.states.SlotPhase.TheVariants.{Free, Open, Sealed, Quiet}
use Rattle.gate_core.specs.declared.view.Duties.{Duties}
use Rattle.gate_core.specs.declared.view.Role.TheVariants.{Keeper}
use Rattle.gate_core.specs.declared.view.Slot.{Slot}
use Rattle.gate_core.specs.Acts.{open_slot}
use Rattle.gate_core.specs.Invariant.{HasPage, SlotsFit}
use Rattle.gate_core.specs.Views.{no_slot, slot_at}
use Rattle.gate_core.proofs.Readings.{met_fits}
use Rattle.gate_core.proofs.Slots.{open_is}
use Rattle.page_gate.specs.Held.{Held}
use Rattle.page_gate.specs.Pages.{phase_with, slot_with}
use Rattle.page_gate.specs.Probes.{OnlyProbes}
use Rattle.page_gate.specs.Slots.{HasOpen, IsWaiting, StaysOpen, free_count, is_free, is_waiting, open_page}
use Rattle.page_gate.specs.Steps.{IsMet}
use Rattle.page_gate.proofs.KeptSlots.{open_found}
use Rattle.page_gate.proofs.SlotWith.{found_there, page_with, waiting_found, waiting_stands}
use Rattle.data_agent.specs.Beside.{IsMinding, KeepsWords}
use Rattle.data_agent.proofs.PhaseCounts.{count_none, closed_waits, other_slot}

-- ---- where pages stand

module _ (shape : PageShape) (k : Held) (first last : ℕ) (s : IsMinding shape k first last) where
  abbrev d : Duties
  d = k.view.duties

  open_phase : (slot_at d (open_slot d)).phase ≡ Open
  open_phase = open_is d s.fits.four s.has_open

  pub minded_stands : (page : ℕ) → first ≤ page → page ≤ last → HasPage (phase_with d page)
  minded_stands page from to = elim (cases_lt page last) [
    | inl before ↦ waiting_stands (phase_with d page) (waiting_found shape d page s.fits (s.stand page from before)).1
    | inr behind ↦
        let o : ℕ = open_slot d in
        let stands : HasPage (slot_at d o).phase = subst HasPage (sym open_phase) tt in
        let here : (slot_at d o).page ≡ page = s.open_is ∙ (let e : last ≡ page = omega arith in e) in
        subst (λ (n : ℕ). HasPage (slot_at d n).phase) (sym (found_there shape d page o s.fits s.has_open stands here)) stands
  ]

  pub next_minded : d.next ≡ last + 1
  next_minded = sym (s.fits.open_last (open_slot d) s.has_open open_phase) ∙ ap (λ (n : ℕ). n + 1) s.open_is

  from_phase : (page slot : ℕ) (phase : SlotPhase) → slot < 4 → (slot_at d slot).page ≡ page → (slot_at d slot).phase ≡ phase → HasPage phase → first ≤ page
  from_phase page slot Free near here is stands = absurd stands
  from_phase page slot Open near here is stands =
      let open_next = s.fits.open_last slot near is in
      let next = next_minded in
      let order = s.order in
      omega arith
  from_phase page slot Sealed near here is stands = (s.only page (slot, near, ap is_waiting is, here)).0
  from_phase page slot (Quiet n) near here is stands = (s.only page (slot, near, ap is_waiting is, here)).0

  -- no page before the first stands in a slot
  pub minded_from : (page : ℕ) → HasPage (phase_with d page) → first ≤ page
  minded_from page stands =
      let (near, here) = page_with d page stands in
      let four = s.fits.four in
      from_phase page (slot_with d page) (phase_with d page) (omega arith) here refl stands

  -- where no slot is free, a page is closed
  pub some_waits : free_count d ≡ 0 → first < last
  some_waits none =
      let (t, near, apart) = other_slot (open_slot d) in
      let four = s.fits.four in
      let taken : is_free (slot_at d t).phase ≡ false = count_none (λ (x : Slot). is_free x.phase) d.slots t no_slot none (omega arith) in
      let shut : ¬ ((slot_at d t).phase ≡ Open) = λ e. apart (sym (open_found shape d t s.fits near e)) in
      let found = s.only (slot_at d t).page (t, near, closed_waits (slot_at d t).phase taken shut, refl) in
      let a = found.0 in
      let b = found.1 in
      omega arith

-- ---- the keeper knows what it knew

pub knows_same : (shape : PageShape) (k : Held) → KeepsWords shape k k
knows_same shape k = record { table = refl; entries = refl; out = refl; probes = refl; collected = λ page has. refl }

pub knows_after : (shape : PageShape) (k k2 k3 : Held) → KeepsWords shape k k2 → KeepsWords shape k2 k3 → KeepsWords shape k k3
knows_after shape k k2 k3 a b = record {
  table = b.table ∙ a.table;
  entries = b.entries ∙ a.entries;
  out = b.out ∙ a.out;
  probes = b.probes ∙ a.probes;
  collected = λ page has.
      let first = a.collected page has in
      b.collected page (ap length first ∙ has) ∙ first;
}

pub knows_by : (shape : PageShape) (k k2 k3 : Held) → KeepsWords shape k k2 → k3 ≡ k2 → KeepsWords shape k k3
knows_by shape k k2 k3 a is = subst (λ (h : Held). KeepsWords shape k h) (sym is) a

-- ---- slots that have the same pages, closed where they were

pub minded_by : (shape : PageShape) (k k2 : Held) (first last : ℕ) → IsMinding shape k first last → k2.view.role ≡ Keeper → SlotsFit shape k2.view.duties → StaysOpen k.view.duties k2.view.duties
    → ((j : ℕ) → (slot_at k2.view.duties j).page ≡ (slot_at k.view.duties j).page)
    → ((j : ℕ) → is_waiting (slot_at k.view.duties j).phase ≡ true → is_waiting (slot_at k2.view.duties j).phase ≡ true)
    → ((j : ℕ) → is_waiting (slot_at k2.view.duties j).phase ≡ true → is_waiting (slot_at k.view.duties j).phase ≡ true) → IsMinding shape k2 first last
minded_by shape k k2 first last s role fits stays page_is later sooner = record {
  role = role;
  fits = fits;
  has_open = (stays s.has_open).0;
  open_is = (stays s.has_open).1 ∙ s.open_is;
  order = s.order;
  stand = λ p low high. let (j, near, w, is) = s.stand p low high in (j, near, later j w, page_is j ∙ is);
  only = λ p (j, near, w, is). s.only p (j, near, sooner j w, sym (page_is j) ∙ is);
}

-- ---- bits are read

pub minded_probed : (shape : PageShape) (k k2 : Held) (first last : ℕ) → OnlyProbes k k2 → IsMet shape k2.view → IsMinding shape k first last → IsMinding shape k2 first last
minded_probed shape k k2 first last (more, is) met s =
    let role : k2.view.role ≡ Keeper = ap (λ (h : Held). h.view.role) is ∙ s.role in
    record {
      role = role;
      fits = (met_fits shape k2.view role met.0 met.1 met.2).slots;
      has_open = subst (λ (h : Held). HasOpen h.view.duties) (sym is) s.has_open;
      open_is = ap (λ (h : Held). open_page h.view.duties) is ∙ s.open_is;
      order = s.order;
      stand = λ page low high. subst (λ (h : Held). IsWaiting h.view.duties page) (sym is) (s.stand page low high);
      only = λ page w. s.only page (subst (λ (h : Held). IsWaiting h.view.duties page) is w);
    }

-- a page that one keeper minds is one that another minds
pub same_bounds : (shape : PageShape) (k : Held) (first last first' last' page : ℕ) → IsMinding shape k first last → IsMinding shape k first' last' → first ≤ page → page < last → (first' ≤ page) × (page < last')
same_bounds shape k first last first' last' page s t from to = t.only page (s.stand page from to)
