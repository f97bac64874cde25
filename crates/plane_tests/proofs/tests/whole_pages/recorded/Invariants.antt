use Rattle.std.proofs.Common.{◌≡◌}
use Rattle.plane_tests.proofs.tests.whole_pages.recorded.Given as goal

abbrev pub invariant-records : goal.invariant-records
invariant-records l = l.keeper.table ≡ l.plane.table
