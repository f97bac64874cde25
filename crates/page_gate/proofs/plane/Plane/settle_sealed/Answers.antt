use Rattle.std.proofs.Common.{◌≡◌, ◌<◌, List, length, sym, refl, ap, ◌∙◌, subst}
use Rattle.spie_base.specs.declared.PageShape.{PageShape}
use Rattle.gate_core.specs.declared.states.SlotPhase.TheVariants.{Open, Sealed, Quiet}
use Rattle.gate_core.specs.declared.view.View.{View}
use Rattle.gate_core.specs.Views.{slot_at}
use Rattle.gate_core.specs.Acts.{inside_of}
use Rattle.page_gate.specs.Held.{PlaneId, Held}
use Rattle.page_gate.specs.Slots.{StaysOpen}
use Rattle.page_gate.specs.Steps.{IsMet}
use Rattle.page_gate.specs.Pages.{slot_with, phase_with}
use Rattle.page_gate.specs.declared.settle.Settled.TheVariants as settled
use Rattle.page_gate.specs.Settled.{SettledNow}
use Rattle.page_gate.proofs.KeptSlots.{stays_open, stays_same, pointed_then, kept_then, pointed_same, kept_same}
use Rattle.page_gate.proofs.SealedSlots.{slot_rephased, still_four}
use Rattle.page_gate.proofs.Settling.{noting, quiet_is, pending_is, pending_by, settles_now, sealed_near}
use Rattle.page_gate.proofs.plane.Plane.settle_sealed.Goals as goal

pub invariant_of-keeper : goal.invariant_of-keeper
invariant_of-keeper c = let k = c.keeper.inside in let inv = c.keeper.invariant in let v = k.seat.me.0 in let shape = c.self.inside.words.shape in let s = c.args.slot in let gate = c.settle-gate.result in let w = c.settle-gate.new.seat.me.0 in
    let e = c.settle-gate.ensures in
    let near = subst (λ (h : Held). s ≡ slot_with h.view.duties c.args.page.number → phase_with h.view.duties c.args.page.number ≡ Sealed → s < 4) c.keeper.view_is (λ a b. (sealed_near v.duties c.args.page.number s inv.5 a b).0) c.requires.slot c.requires.phase in
    let is = e.view ∙ quiet_is v s gate (sym c.inside-inside.ensures ∙ c.if-inside-eq0.true) in
    let role = ap (λ (u : View). u.role) is ∙ inv.2 in
    let slots = ap (λ (u : View). u.duties.slots) is in (
      inv.0 ∙ sym (ap (λ (u : View). u.duties.out) is),
      ap (λ (u : View). u.state) is ∙ inv.1,
      role,
      e.slots ∙ inv.3,
      slot_rephased (noting v s gate) k.slots s c.from.result (Quiet 0) inv.4 c.from.ensures ∙ sym slots,
      ap (λ (u : View). length u.duties.slots) is ∙ still_four v.duties s (Quiet 0) inv.5,
      pointed_then shape v w s (Quiet 0) inv.7 e.met role near refl slots (λ f. cc) (ap (λ (u : View). u.duties.pointed) is) inv.6,
      kept_then shape v w s (Quiet 0) inv.7 e.met role near refl slots,
    )

pub invariant_of-keeper-else-inside-eq0 : goal.invariant_of-keeper-else-inside-eq0
invariant_of-keeper-else-inside-eq0 c = let k = c.keeper.inside in let inv = c.keeper.invariant in let v = k.seat.me.0 in let shape = c.self.inside.words.shape in let s = c.args.slot in let gate = c.settle-gate.result in let w = c.settle-gate.new.seat.me.0 in
    let e = c.settle-gate.ensures in
    let is = e.view ∙ pending_is v s gate (λ z. let n = c.if-inside-eq0.false in n (c.inside-inside.ensures ∙ z)) in
    let role = ap (λ (u : View). u.role) is ∙ inv.2 in
    let slots = ap (λ (u : View). u.duties.slots) is in (
      inv.0 ∙ sym (ap (λ (u : View). u.duties.out) is),
      ap (λ (u : View). u.state) is ∙ inv.1,
      role,
      e.slots ∙ inv.3,
      inv.4 ∙ sym slots,
      ap (λ (xs : List _). length xs) slots ∙ inv.5,
      pointed_same shape v w e.met role slots (ap (λ (u : View). u.duties.pointed) is) inv.6,
      kept_same shape v w e.met role slots inv.7,
    )

pub returns-else-inside-eq0-clause-settled : goal.returns-else-inside-eq0-clause-settled
returns-else-inside-eq0-clause-settled c = let k = c.keeper.inside in let inv = c.keeper.invariant in let v = k.seat.me.0 in let shape = c.self.inside.words.shape in let s = c.args.slot in let gate = c.settle-gate.result in let w = c.settle-gate.new.seat.me.0 in
    let e = c.settle-gate.ensures in
    subst (λ (h : Held). s ≡ slot_with h.view.duties c.args.page.number → SettledNow h (record { table = c.settle-gate.new.seat.table_id; view = w }) c.args.page.number (settled.Pending c.inside-inside.result)) c.keeper.view_is
    (λ at. settles_now shape k.seat.table_id c.settle-gate.new.seat.table_id v w c.args.page.number s gate (settled.Pending c.inside-inside.result) e.table inv.2 inv.1 at e.view e.met (pending_by (inside_of gate) c.inside-inside.result c.inside-inside.ensures c.if-inside-eq0.false))
    c.requires.slot

pub returns-then-inside-eq0-clause-met : goal.returns-then-inside-eq0-clause-met
returns-then-inside-eq0-clause-met c = subst (λ (h : PageShape). IsMet h c.settle-gate.new.seat.me.0) (ap (λ (x : PlaneId). x.shape) c.self.view_is) c.settle-gate.ensures.met

pub returns-else-inside-eq0-clause-met : goal.returns-else-inside-eq0-clause-met
returns-else-inside-eq0-clause-met c = subst (λ (h : PageShape). IsMet h c.settle-gate.new.seat.me.0) (ap (λ (x : PlaneId). x.shape) c.self.view_is) c.settle-gate.ensures.met

pub returns-then-inside-eq0-clause-open : goal.returns-then-inside-eq0-clause-open
returns-then-inside-eq0-clause-open c = let k = c.keeper.inside in let inv = c.keeper.invariant in let v = k.seat.me.0 in let shape = c.self.inside.words.shape in let s = c.args.slot in let gate = c.settle-gate.result in let w = c.settle-gate.new.seat.me.0 in
    let e = c.settle-gate.ensures in
    let there = subst (λ (h : Held). s ≡ slot_with h.view.duties c.args.page.number → phase_with h.view.duties c.args.page.number ≡ Sealed → (s < 4) × ((slot_at v.duties s).phase ≡ Sealed)) c.keeper.view_is (sealed_near v.duties c.args.page.number s inv.5) c.requires.slot c.requires.phase in
    let is = e.view ∙ quiet_is v s gate (sym c.inside-inside.ensures ∙ c.if-inside-eq0.true) in
    let role = ap (λ (u : View). u.role) is ∙ inv.2 in let slots = ap (λ (u : View). u.duties.slots) is in
    subst (λ (h : Held). StaysOpen h.view.duties w.duties) c.keeper.view_is
    (stays_open v.duties w.duties s (Quiet 0) inv.7 (kept_then shape v w s (Quiet 0) inv.7 e.met role there.0 refl slots) there.0 (λ opens. let g : Sealed ≡ Open = sym there.1 ∙ opens in cc) slots)

pub returns-else-inside-eq0-clause-open : goal.returns-else-inside-eq0-clause-open
returns-else-inside-eq0-clause-open c = let k = c.keeper.inside in let inv = c.keeper.invariant in let v = k.seat.me.0 in let shape = c.self.inside.words.shape in let s = c.args.slot in let gate = c.settle-gate.result in let w = c.settle-gate.new.seat.me.0 in
    let e = c.settle-gate.ensures in
    let is = e.view ∙ pending_is v s gate (λ z. let n = c.if-inside-eq0.false in n (c.inside-inside.ensures ∙ z)) in
    subst (λ (h : Held). StaysOpen h.view.duties w.duties) c.keeper.view_is (stays_same v.duties w.duties (ap (λ (u : View). u.duties.slots) is))
