use Rattle.std.proofs.Common.{◌≡◌, ◌++◌, take}
use Rattle.std.specs.List.{flat_map}
use Rattle.evidence_text.specs.Writing.{unknown_text}
use Rattle.evidence_text.proofs.writer.push_unknowns.Given as goal

abbrev pub invariant-loop-node : goal.invariant-loop-node
invariant-loop-node l = l.out.items ≡ l.fn.out.items ++ flat_map unknown_text (take l.node-index l.unknowns)
