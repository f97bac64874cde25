use Rattle.std.proofs.Common.{◌≡◌}
use Rattle.trace_workers.specs.Jobs.{planes_tables}
use Rattle.worker_tests.specs.Settings.{keepers_tables}
use Rattle.worker_tests.proofs.tests.beside_operator.operate.Given as goal

abbrev pub invariant-lines : goal.invariant-lines
invariant-lines g l = keepers_tables l.keepers ≡ planes_tables l.planes
