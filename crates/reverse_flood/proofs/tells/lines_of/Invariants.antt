use Rattle.std.proofs.Common.{◌≡◌, ◌++◌}
use Rattle.reverse_flood.proofs.tells.lines_of.Given as goal

abbrev pub invariant-loop-sig : goal.invariant-loop-sig
invariant-loop-sig l = l.lines.items ++ l.sig-iterator ≡ l.rows.entries
