use Rattle.std.proofs.Common.{take}
use Rattle.agent_wire.specs.Sets.{HasLess}
use Rattle.agent_wire.proofs.known.forget.Given as goal

abbrev pub invariant-loop-item : goal.invariant-loop-item
invariant-loop-item g l = HasLess l.fn.known l.known (take l.item-index l.items)
