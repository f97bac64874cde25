use Rattle.std.specs.List.{AllWithin}
use Rattle.wire_message.specs.Spelling.{IsPlainNode}
use Rattle.agent_wire.proofs.plain.nodes_are_plain.Given as goal

abbrev pub invariant-loop-node : goal.invariant-loop-node
invariant-loop-node l = AllWithin IsPlainNode l.nodes 0 l.node-index
