use Rattle.std.proofs.Common.{◌≡◌}
use Rattle.plane_tests.proofs.tests.whole_pages.entered.Given as goal

abbrev pub invariant-records : goal.invariant-records
invariant-records l = l.pass.table ≡ l.plane.table
