use Rattle.std.proofs.Common.{◌≡◌}
use Rattle.plane_tests.proofs.tests.beside_rotations.close_all.Given as goal

abbrev pub invariant-closed : goal.invariant-closed
invariant-closed l = l.keeper.table ≡ l.plane.table
