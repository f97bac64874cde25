use Rattle.std.proofs.Common.{◌≡◌}
use Rattle.plane_tests.proofs.tests.beside_rotations.operate.Given as goal

abbrev pub invariant-rotations : goal.invariant-rotations
invariant-rotations g l = l.keeper.table ≡ l.plane.table
