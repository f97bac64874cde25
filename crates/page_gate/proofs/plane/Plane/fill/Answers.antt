use Rattle.std.proofs.Common.{List, length, sym, ap, ◌∙◌, subst}
use Rattle.std.specs.List.{position_or_len}
use Rattle.atomic_table.specs.Table.{Me}
use Rattle.spie_base.specs.declared.PageShape.{PageShape}
use Rattle.gate_core.specs.declared.view.Slot.{Slot}
use Rattle.gate_core.specs.declared.view.View.{View}
use Rattle.gate_core.specs.Invariant.{HasPage}
use Rattle.gate_core.specs.PageWords.{stands_with}
use Rattle.page_gate.specs.Held.{PlaneId, Held}
use Rattle.page_gate.specs.Pages.{phase_with}
use Rattle.page_gate.specs.Steps.{Nothing, IsMet}
use Rattle.page_gate.proofs.Collecting.{readable}
use Rattle.page_gate.proofs.KeptSlots.{pointed_same, kept_same}
use Rattle.page_gate.proofs.plane.Plane.fill.Goals as goal

pub ones-requires-clause-slot : goal.ones-requires-clause-slot
ones-requires-clause-slot c = let k = c.keeper.inside in let inv = c.keeper.invariant in let v = k.seat.me.0 in let page = c.args.page.number in
    let stands = subst (λ (h : Held). HasPage (phase_with h.view.duties page)) (sym c.keeper.view_is) c.requires.stands in
    readable v page c.slot_with-slot.result inv.2 inv.1 inv.7 stands (c.slot_with-slot.ensures ∙ ap (λ (xs : List Slot). position_or_len (stands_with page) xs) inv.4)

pub invariant_of-keeper : goal.invariant_of-keeper
invariant_of-keeper c = let k = c.keeper.inside in let inv = c.keeper.invariant in let v = k.seat.me.0 in let shape = c.self.inside.words.shape in let w = c.ones.new.seat.me.0 in
    let e = c.ones.ensures in let same = e.notes.1 in
    let is = ap (λ (m : Me Nothing View). m.0) same.2 in
    let role = ap (λ (u : View). u.role) is ∙ inv.2 in let slots = ap (λ (u : View). u.duties.slots) is in (
      inv.0 ∙ sym (ap (λ (u : View). u.duties.out) is),
      ap (λ (u : View). u.state) is ∙ inv.1,
      role,
      ap (λ (m : Me Nothing View). m.1) same.2 ∙ inv.3,
      inv.4 ∙ sym slots,
      ap (λ (xs : List Slot). length xs) slots ∙ inv.5,
      pointed_same shape v w e.met role slots (ap (λ (u : View). u.duties.pointed) is) inv.6,
      kept_same shape v w e.met role slots inv.7,
    )

pub returns-clause-met : goal.returns-clause-met
returns-clause-met c = subst (λ (h : PageShape). IsMet h c.ones.new.seat.me.0) (ap (λ (x : PlaneId). x.shape) c.self.view_is) c.ones.ensures.met
