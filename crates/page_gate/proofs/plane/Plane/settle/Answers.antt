use Rattle.std.proofs.Common.{◌≡◌, ◌<◌, ℕ, List, length, sym, refl, ap, ◌∙◌, subst}
use Rattle.std.specs.List.{position_or_len}
use Rattle.gate_core.specs.declared.states.SlotPhase.TheVariants.{Sealed}
use Rattle.gate_core.specs.declared.view.Slot.{Slot}
use Rattle.gate_core.specs.Views.{no_slot, slot_at}
use Rattle.gate_core.specs.Acts.{IsQuiet}
use Rattle.gate_core.specs.PageWords.{stands_with}
use Rattle.std.proofs.Common.{get_or}
use Rattle.page_gate.specs.Held.{Held}
use Rattle.page_gate.specs.Slots.{IsWaiting}
use Rattle.page_gate.specs.Pages.{phase_with}
use Rattle.page_gate.proofs.SlotWith.{waiting_found}
use Rattle.page_gate.proofs.Settling.{settled_quiet, waiting_quiet}
use Rattle.page_gate.proofs.plane.Plane.settle.Goals as goal

pub bounds : goal.bounds
bounds c = let k = c.keeper.inside in let inv = c.keeper.invariant in let d = k.seat.me.0.duties in let page = c.args.page.number in
    let found = waiting_found inv.7.shape d page inv.7.fit (subst (λ (h : Held). IsWaiting h.view.duties page) (sym c.keeper.view_is) c.requires.waiting) in
    let at = c.from.ensures ∙ c.slot_with-slot.ensures ∙ ap (λ (xs : List Slot). position_or_len (stands_with page) xs) inv.4 in
    subst (λ (n : ℕ). n < 4) (sym at) found.0

pub returns-in-Sealed-clause-quiet : goal.returns-in-Sealed-clause-quiet
returns-in-Sealed-clause-quiet c = λ quiet. let k = c.keeper.inside in let inv = c.keeper.invariant in let d = k.seat.me.0.duties in let page = c.args.page.number in
    let at = c.from.ensures ∙ c.slot_with-slot.ensures ∙ ap (λ (xs : List Slot). position_or_len (stands_with page) xs) inv.4 in
    let is : phase_with d page ≡ Sealed = sym (ap (λ (xs : List Slot). (get_or xs c.from.result no_slot).phase) inv.4 ∙ ap (λ (n : ℕ). (slot_at d n).phase) at) ∙ c.in-Sealed.is in
    settled_quiet c.args.keeper.now c.settle_sealed.new.keeper page c.settle_sealed.result (ap (λ (h : Held). length h.view.duties.slots) (sym c.keeper.view_is) ∙ inv.5)
    (ap (λ (h : Held). phase_with h.view.duties page) (sym c.keeper.view_is) ∙ is) c.settle_sealed.ensures.settled quiet

pub returns-in_default : goal.returns-in_default
returns-in_default c = let k = c.keeper.inside in let inv = c.keeper.invariant in let d = k.seat.me.0.duties in let page = c.args.page.number in
    let found = waiting_found inv.7.shape d page inv.7.fit (subst (λ (h : Held). IsWaiting h.view.duties page) (sym c.keeper.view_is) c.requires.waiting) in
    let at = c.from.ensures ∙ c.slot_with-slot.ensures ∙ ap (λ (xs : List Slot). position_or_len (stands_with page) xs) inv.4 in
    let same : (get_or k.slots c.from.result no_slot).phase ≡ phase_with d page = ap (λ (xs : List Slot). (get_or xs c.from.result no_slot).phase) inv.4 ∙ ap (λ (n : ℕ). (slot_at d n).phase) at in
    let other : ¬ (phase_with d page ≡ Sealed) = λ e. c.in_default.not-Sealed (same ∙ e) in
    let other' = subst (λ (h : Held). ¬ (phase_with h.view.duties page ≡ Sealed)) c.keeper.view_is other in
    record {
      before = λ _. (refl, refl);
      now = λ e. absurd (other' e);
      quiet = λ _. subst (λ (h : Held). IsQuiet (phase_with h.view.duties page)) c.keeper.view_is (waiting_quiet (phase_with d page) found.1 other);
      alone = λ _. refl;
      «open» = λ low. (low, refl);
    }
