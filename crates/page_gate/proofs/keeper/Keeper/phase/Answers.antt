use Rattle.std.proofs.Common.{List, get_or, sym, ap, ◌∙◌, subst}
use Rattle.std.specs.List.{position_or_len}
use Rattle.gate_core.specs.declared.view.Slot.{Slot}
use Rattle.gate_core.specs.PageWords.{stands_with}
use Rattle.gate_core.specs.Views.{no_slot, slot_at}
use Rattle.page_gate.specs.Held.{Held}
use Rattle.page_gate.specs.Slots.{is_waiting, IsWaiting}
use Rattle.page_gate.proofs.SlotWith.{told_waiting}
use Rattle.page_gate.proofs.keeper.Keeper.phase.Goals as goal

pub returns-clause-waiting : goal.returns-clause-waiting
returns-clause-waiting c = λ w. let k = c.self.inside in let inv = c.self.invariant in let d = k.seat.me.0.duties in let page = c.args.page.number in
    let at = c.slot_with.ensures ∙ ap (λ (xs : List Slot). position_or_len (stands_with page) xs) inv.4 in
    let is = c.phase_at.ensures ∙ ap (λ (xs : List Slot). (get_or xs c.slot_with.result no_slot).phase) inv.4 ∙ ap (λ n. (slot_at d n).phase) at in
    subst (λ (h : Held). IsWaiting h.view.duties page) c.self.view_is (told_waiting d page inv.5 (ap is_waiting (sym is) ∙ w))
