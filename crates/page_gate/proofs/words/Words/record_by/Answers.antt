use Rattle.std.proofs.Common.{◌∙◌}
use Rattle.page_gate.proofs.Tells.{sealed_tells}
use Rattle.page_gate.proofs.words.Words.record_by.Goals as goal

pub returns-then-is_sealed-clause-tells : goal.returns-then-is_sealed-clause-tells
returns-then-is_sealed-clause-tells c = let l = c.look-slot.ensures.acted in let e = c.enter-gate.ensures.acted in let o = c.leave.ensures in (
  o.table ∙ (e.table ∙ l.table),
  o.id ∙ (e.id ∙ l.id),
  o.slots ∙ (e.slots ∙ l.slots),
  sealed_tells c.args.self.now.shape c.args.sig.now c.args.seat.now.me.0 c.look-slot.new.seat.me.0 c.enter-gate.new.seat.me.0 c.leave.new.seat.me.0 c.look-slot.result c.enter-gate.result l.view e.view (c.is_sealed.ensures.0 c.if-is_sealed.true) e.met o.view,
)
