use Rattle.std.proofs.Common.{◌≡◌, drop}
use Rattle.gate_core.specs.Acts.{open_among}
use Rattle.gate_core.proofs.acts.parts.open_slot.Given as goal

abbrev pub invariant-loop-s : goal.invariant-loop-s
invariant-loop-s l = open_among (drop l.s l.slots) l.s ≡ open_among l.initial.slots 0
