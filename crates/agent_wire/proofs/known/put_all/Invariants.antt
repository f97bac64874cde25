use Rattle.std.proofs.Common.{take}
use Rattle.agent_wire.specs.Sets.{HasMore}
use Rattle.agent_wire.proofs.known.put_all.Given as goal

abbrev pub invariant-loop-item : goal.invariant-loop-item
invariant-loop-item g l = HasMore l.fn.known l.known (take l.item-index l.items)
