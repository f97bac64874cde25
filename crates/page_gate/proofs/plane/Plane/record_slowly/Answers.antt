use Rattle.page_gate.proofs.Rising.{retried_more}
use Rattle.page_gate.proofs.plane.Plane.record_slowly.Goals as goal

pub tries-preserved : goal.tries-preserved
tries-preserved g c = retried_more c.args.self.now.shape c.args.sig.now c.args.pass.now c.tries.pass c.try_record.new.pass c.in_default.field-0 c.tries.invariant c.in_default.ensures.tells
