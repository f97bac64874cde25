use Rattle.std.proofs.Common.{◌≡◌}
use Rattle.plane_bench.proofs.planes.enter_all.Given as goal

abbrev pub invariant-records : goal.invariant-records
invariant-records g l = l.pass.table ≡ l.plane.table
