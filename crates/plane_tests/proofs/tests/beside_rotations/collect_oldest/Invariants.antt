use Rattle.std.proofs.Common.{◌≡◌}
use Rattle.plane_tests.proofs.tests.beside_rotations.collect_oldest.Given as goal

abbrev pub invariant-turns : goal.invariant-turns
invariant-turns l = l.keeper.table ≡ l.plane.table
