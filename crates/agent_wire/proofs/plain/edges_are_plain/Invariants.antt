use Rattle.std.specs.List.{AllWithin}
use Rattle.wire_message.specs.Spelling.{IsPlainEdge}
use Rattle.agent_wire.proofs.plain.edges_are_plain.Given as goal

abbrev pub invariant-loop-edge : goal.invariant-loop-edge
invariant-loop-edge l = AllWithin IsPlainEdge l.edges 0 l.edge-index
