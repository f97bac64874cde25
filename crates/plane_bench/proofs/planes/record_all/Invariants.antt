use Rattle.std.proofs.Common.{◌≡◌}
use Rattle.plane_bench.proofs.planes.record_all.Given as goal

abbrev pub invariant-records : goal.invariant-records
invariant-records l = l.pass.table ≡ l.plane.table
