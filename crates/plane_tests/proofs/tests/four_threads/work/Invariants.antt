use Rattle.std.proofs.Common.{◌≡◌}
use Rattle.plane_tests.proofs.tests.four_threads.work.Given as goal

abbrev pub invariant-records : goal.invariant-records
invariant-records l = l.job.pass.table ≡ l.plane.table
