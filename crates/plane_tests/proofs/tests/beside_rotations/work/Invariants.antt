use Rattle.std.proofs.Common.{◌≡◌, ◌+◌, length}
use Rattle.plane_tests.proofs.tests.beside_rotations.work.Given as goal

abbrev pub invariant-records : goal.invariant-records
invariant-records g l = record {
  plane : l.job.pass.table ≡ l.plane.table;
  entries : length l.job.pass.entries ≡ length l.fn.job.pass.entries + l.record;
}
