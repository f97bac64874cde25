-- What an agent's keeper has of its slots when it collects a page, also while passes are out.
use Rattle.std.proofs.Common.{ℕ, ◌≡◌, ◌≢◌, ◌≤◌, ◌<◌, ◌+◌, ◌∙◌, [], List, length, get_or, true, sym, ap, subst, refl, inl, inr, arith, length-set, Result, Ok, Err, OnOk, OnErr, IfOk}
use Rattle.std.proofs.lemmas.Bool.{cases_eq}
use Rattle.std.proofs.lemmas.List.{get_or-set_other}
use Rattle.std.specs.List.{Contains}
use Rattle.spie_base.specs.declared.Entry.{Entry}
use Rattle.spie_base.specs.declared.PageShape.{PageShape}
use Rattle.bloom_page.specs.Sets.{PageSet}
use Rattle.hash_family.specs.Entries.{IsMarked}
use Rattle.gate_core.specs.declared.states.SlotPhase.TheVariants.{Free}
use Rattle.gate_core.specs.declared.view.Duties.{Duties}
use Rattle.gate_core.specs.declared.view.Role.TheVariants.{Keeper}
use Rattle.gate_core.specs.declared.view.Slot.{Slot}
use Rattle.gate_core.specs.declared.view.View.{View}
use Rattle.gate_core.specs.Acts.{IsQuiet, in_phase, phased_slot}
use Rattle.gate_core.specs.Invariant.{IsCollected}
use Rattle.gate_core.specs.Marks.{size, width}
use Rattle.gate_core.specs.Views.{collected_of, no_slot, slot_at}
use Rattle.gate_core.proofs.Readings.{met_fits}
use Rattle.gate_core.proofs.Slots.{page_same, phase_case, slot_here}
use Rattle.page_gate.specs.Held.{Held}
use Rattle.page_gate.specs.Probes.{marked_set}
use Rattle.page_gate.specs.Pages.{AreAllMarks, collected_held, phase_with, slot_with}
use Rattle.page_gate.specs.Slots.{IsWaiting, StaysOpen, free_count, is_free, is_waiting}
use Rattle.page_gate.specs.Steps.{IsMet}
use Rattle.page_gate.proofs.SlotWith.{page_with, told_waiting, waiting_stands}
use Rattle.data_agent.specs.Beside.{IsMinding, KeepsWords}
use Rattle.data_agent.proofs.PhaseCounts.{count_some, quiet_waits, free_waits_not}
use Rattle.data_agent.proofs.Minding.{knows_same, knows_by}

module _ (shape : PageShape) (k k2 : Held) (first last : ℕ) (words : List ℕ) (s : IsMinding shape k first last) (quiet : IsQuiet (phase_with k.view.duties first)) (is_after : k2 ≡ collected_held k first words) where
  abbrev old : Duties
  old = k.view.duties

  abbrev new : Duties
  new = k2.view.duties

  abbrev slot : ℕ
  slot = slot_with old first

  here : (slot < length old.slots) × ((slot_at old slot).page ≡ first)
  here = page_with old first (waiting_stands (phase_with old first) (quiet_waits (phase_with old first) quiet))

  slot_near : slot < 4
  slot_near = let four = s.fits.four in let lt = here.0 in omega arith

  slots_are : new.slots ≡ (in_phase old slot Free).slots
  slots_are = ap (λ (h : Held). h.view.duties.slots) is_after

  page_is : (j : ℕ) → (slot_at new j).page ≡ (slot_at old j).page
  page_is j = ap (λ (xs : List Slot). (get_or xs j no_slot).page) slots_are ∙ page_same old slot Free here.0 j

  sooner : (j : ℕ) → is_waiting (slot_at new j).phase ≡ true → (is_waiting (slot_at old j).phase ≡ true) × (j ≢ slot)
  sooner j = subst (λ (xs : List Slot). is_waiting (get_or xs j no_slot).phase ≡ true → (is_waiting (slot_at old j).phase ≡ true) × (j ≢ slot)) (sym slots_are)
      (phase_case old slot Free here.0 (λ i y. is_waiting y ≡ true → (is_waiting (slot_at old i).phase ≡ true) × (i ≢ slot)) (λ w. absurd (free_waits_not Free refl w)) (λ i ne w. (w, ne)) j)

  later : (j : ℕ) → j ≢ slot → is_waiting (slot_at old j).phase ≡ true → is_waiting (slot_at new j).phase ≡ true
  later j = subst (λ (xs : List Slot). j ≢ slot → is_waiting (slot_at old j).phase ≡ true → is_waiting (get_or xs j no_slot).phase ≡ true) (sym slots_are)
      (phase_case old slot Free here.0 (λ i y. i ≢ slot → is_waiting (slot_at old i).phase ≡ true → is_waiting y ≡ true) (λ ne w. absurd (ne refl)) (λ i ne apart w. w) j)

  -- the collected page stands in no other slot
  gone : (j page : ℕ) → j < 4 → is_waiting (slot_at old j).phase ≡ true → j ≢ slot → (slot_at old j).page ≡ page → page ≢ first
  gone j page near w apart is same =
      let stands_here = waiting_stands (slot_at old slot).phase (quiet_waits (phase_with old first) quiet) in
      let stands_there = waiting_stands (slot_at old j).phase w in
      apart (s.fits.used_apart j slot near slot_near (s.fits.stands_used j near stands_there) (s.fits.stands_used slot slot_near stands_here) (is ∙ same ∙ sym here.1))

  still_stand : (page : ℕ) → first + 1 ≤ page → page < last → IsWaiting new page
  still_stand page low high =
      let (j, near, w, is) = s.stand page (omega arith) high in
      let apart : j ≢ slot = λ e. let same : page ≡ first = sym is ∙ ap (λ (n : ℕ). (slot_at old n).page) e ∙ here.1 in omega arith in
      (j, near, later j apart w, page_is j ∙ is)

  only_later : (page : ℕ) → IsWaiting new page → (first + 1 ≤ page) × (page < last)
  only_later page (j, near, w, is) =
      let before = sooner j w in
      let at : (slot_at old j).page ≡ page = sym (page_is j) ∙ is in
      let found = s.only page (j, near, before.0, at) in
      let apart : page ≢ first = gone j page near before.0 before.1 at in (
        elim (cases_eq page first) [
          | inl same ↦ absurd (apart same)
          | inr differs ↦ (let a = found.0 in let b : first + 1 ≤ page = omega arith in b)
        ],
        found.1,
      )

  pub minded_collected : IsMet shape k2.view → StaysOpen old new → IsMinding shape k2 (first + 1) last
  minded_collected met stays =
      let role : k2.view.role ≡ Keeper = ap (λ (h : Held). h.view.role) is_after ∙ s.role in
      let waits : IsWaiting old first = told_waiting old first s.fits.four (quiet_waits (phase_with old first) quiet) in
      let lt = (s.only first waits).1 in
      record {
        role = role;
        fits = (met_fits shape k2.view role met.0 met.1 met.2).slots;
        has_open = (stays s.has_open).0;
        open_is = (stays s.has_open).1 ∙ s.open_is;
        order = omega arith;
        stand = still_stand;
        only = only_later;
      }

  -- its slot is free
  pub free_then : 1 ≤ free_count new
  free_then =
      let phase : (slot_at new slot).phase ≡ Free = subst (λ (xs : List Slot). (get_or xs slot no_slot).phase ≡ Free) (sym slots_are) (ap (λ (x : Slot). x.phase) (slot_here old slot (phased_slot old slot Free) here.0)) in
      let len : length new.slots ≡ length old.slots = ap length slots_are ∙ length-set old.slots slot (phased_slot old slot Free) in
      let lt = here.0 in
      count_some (λ (x : Slot). is_free x.phase) new.slots slot no_slot (omega arith) (ap is_free phase)

  -- it was not collected before, so the collected pages keep their words
  unlike : (page : ℕ) → IsCollected shape old page → page ≢ (slot_at old slot).page
  unlike page has same =
      let stands = waiting_stands (slot_at old slot).phase (quiet_waits (phase_with old first) quiet) in
      let few = s.fits.taken_words slot slot_near stands in
      let short = s.fits.taken_short slot slot_near in
      let many : length (collected_of old (slot_at old slot).page) ≡ width shape = ap (λ (n : ℕ). length (collected_of old n)) (sym same) ∙ has in
      omega arith

  pub words_collected : KeepsWords shape k k2
  words_collected = record {
    table = ap (λ (h : Held). h.table) is_after;
    entries = ap (λ (h : Held). h.view.entries) is_after;
    out = ap (λ (h : Held). h.view.duties.out) is_after;
    probes = ap (λ (h : Held). h.view.duties.probes) is_after;
    collected = λ page has.
        ap (λ (h : Held). collected_of h.view.duties page) is_after ∙ get_or-set_other old.collected (slot_at old slot).page page words [] (unlike page has);
  }

-- in the forms in which `collect` tells it

pub collected_words : {E : Type 0} (shape : PageShape) (result : Result PageSet E) (k k2 : Held) (page : ℕ) (words : List ℕ) → IsQuiet (phase_with k.view.duties page) → (last : ℕ) × IsMinding shape k page last
    → OnOk result (k2 ≡ collected_held k page words) → OnErr result (k2 ≡ k) → KeepsWords shape k k2
collected_words shape (Ok p) k k2 page words quiet (last, s) is unchanged = words_collected shape k k2 page last words s quiet is
collected_words shape (Err e) k k2 page words quiet (last, s) is unchanged = knows_by shape k k k2 (knows_same shape k) unchanged

pub collected_room : {E : Type 0} (shape : PageShape) (result : Result PageSet E) (k k2 : Held) (page : ℕ) (words : List ℕ) → IsQuiet (phase_with k.view.duties page) → (last : ℕ) × IsMinding shape k page last
    → OnOk result (k2 ≡ collected_held k page words) → OnOk result (1 ≤ free_count k2.view.duties)
collected_room shape (Ok p) k k2 page words quiet (last, s) is = free_then shape k k2 page last words s quiet is
collected_room shape (Err e) k k2 page words quiet (last, s) is = tt

pub collected_minded : {E : Type 0} (shape : PageShape) (result : Result PageSet E) (k k2 : Held) (page : ℕ) (words : List ℕ) → IsQuiet (phase_with k.view.duties page)
    → OnOk result (k2 ≡ collected_held k page words) → OnOk result (IsMet shape k2.view) → OnOk result (StaysOpen k.view.duties k2.view.duties)
    → OnOk result ((last : ℕ) → IsMinding shape k page last → IsMinding shape k2 (page + 1) last)
collected_minded shape (Ok p) k k2 page words quiet is met stays = λ last s. minded_collected shape k k2 page last words s quiet is met stays
collected_minded shape (Err e) k k2 page words quiet is met stays = tt

pub collected_gathered : {E : Type 0} (shape : PageShape) (result : Result PageSet E) (k k2 : Held) (page : ℕ) (words : List ℕ) → OnOk result (k2 ≡ collected_held k page words)
    → IfOk result (λ p. AreAllMarks shape k2.view page p.members) → IfOk result (λ p. (at : ℕ) → at < size shape → IsMarked shape k.view.entries page at → Contains p.members at)
collected_gathered shape (Ok p) k k2 page words is all = λ at small marked.
    let entries : all.rule.head.entries ≡ k.view.entries = ap (λ (v : View). v.entries) all.keeper ∙ ap (λ (h : Held). h.view.entries) is in
    (all.marks at small).1 (all.rule.place, all.rule.head, all.rule.there, subst (λ (es : List Entry). IsMarked shape es page at) (sym entries) marked)
collected_gathered shape (Err e) k k2 page words is all = tt

-- with no pass out they are the marks of the keeper's entries
pub collected_alone : {E : Type 0} (shape : PageShape) (result : Result PageSet E) (k k2 : Held) (page : ℕ) (words : List ℕ) → OnOk result (k2 ≡ collected_held k page words)
    → IfOk result (λ p. k2.view.duties.out ≡ 0 → p ≡ marked_set shape k2.view.entries page) → IfOk result (λ p. k.view.duties.out ≡ 0 → p ≡ marked_set shape k.view.entries page)
collected_alone shape (Ok p) k k2 page words is alone = λ none.
    alone (ap (λ (h : Held). h.view.duties.out) is ∙ none) ∙ ap (λ (h : Held). marked_set shape h.view.entries page) is
collected_alone shape (Err e) k k2 page words is alone = tt
