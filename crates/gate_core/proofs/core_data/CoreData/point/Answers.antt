use Rattle.std.proofs.Common.{arith}
use Rattle.gate_core.proofs.Points.{point_done, point_declined}
use Rattle.gate_core.proofs.core_data.CoreData.point.Goals as goal

pub returns-then-slot-lt-NO_SLOT : goal.returns-then-slot-lt-NO_SLOT
returns-then-slot-lt-NO_SLOT c =
    point_done c.args.self.now c.point_at.new.self c.requires.holds c.requires.room c.point_at.result
    c.open_slot-slot.result c.open_slot-slot.ensures c.if-slot-lt-NO_SLOT.true c.point_at.ensures.words c.point_at.ensures.others c.point_at.ensures.answer

pub returns-else-slot-lt-NO_SLOT : goal.returns-else-slot-lt-NO_SLOT
returns-else-slot-lt-NO_SLOT c =
    point_declined c.args.self.now c.decline.new.self c.requires.holds c.decline.result c.decline.ensures.kept c.decline.ensures.answer
    (λ near. omega (arith, c.open_slot-slot.ensures, c.if-slot-lt-NO_SLOT.false))
