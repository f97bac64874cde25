use Rattle.agent_wire.specs.Sets.{AreSettled}
use Rattle.agent_wire.proofs.graphs.first_open.Given as goal

abbrev pub invariant-loop-place : goal.invariant-loop-place
invariant-loop-place l = AreSettled l.made l.place
