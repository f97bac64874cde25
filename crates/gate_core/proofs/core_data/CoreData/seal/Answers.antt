use Rattle.std.proofs.Common.{arith}
use Rattle.gate_core.proofs.Seals.{seal_done, seal_declined}
use Rattle.gate_core.proofs.core_data.CoreData.seal.Goals as goal

pub returns-then-slot-lt-NO_SLOT : goal.returns-then-slot-lt-NO_SLOT
returns-then-slot-lt-NO_SLOT c =
    seal_done c.args.self.now c.seal_slot.new.self c.requires.holds c.requires.room c.seal_slot.result
    c.open_slot-slot.result c.open_slot-slot.ensures c.if-slot-lt-NO_SLOT.true c.seal_slot.ensures.words c.seal_slot.ensures.others c.seal_slot.ensures.answer

pub returns-else-slot-lt-NO_SLOT : goal.returns-else-slot-lt-NO_SLOT
returns-else-slot-lt-NO_SLOT c =
    seal_declined c.args.self.now c.decline.new.self c.requires.holds c.decline.result c.decline.ensures.kept c.decline.ensures.answer
    (λ near. omega (arith, c.open_slot-slot.ensures, c.if-slot-lt-NO_SLOT.false))
