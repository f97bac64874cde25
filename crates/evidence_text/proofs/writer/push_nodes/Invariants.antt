use Rattle.std.proofs.Common.{◌≡◌, ◌++◌, take}
use Rattle.std.specs.List.{flat_map}
use Rattle.evidence_text.specs.Writing.{node_text}
use Rattle.evidence_text.proofs.writer.push_nodes.Given as goal

abbrev pub invariant-loop-named : goal.invariant-loop-named
invariant-loop-named l = l.out.items ≡ l.fn.out.items ++ flat_map node_text (take l.named-index l.nodes)
