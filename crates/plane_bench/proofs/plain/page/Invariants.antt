use Rattle.std.proofs.Common.{◌≡◌}
use Rattle.plane_bench.proofs.plain.page.Given as goal

abbrev pub invariant-loop-number : goal.invariant-loop-number
invariant-loop-number l = l.page.n ≡ l.family.n
