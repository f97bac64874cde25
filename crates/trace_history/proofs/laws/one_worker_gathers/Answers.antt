use Rattle.trace_history.proofs.YardFacts.{one_worker_gathers}
use Rattle.trace_history.proofs.laws.one_worker_gathers.Goals as goal

pub returns : goal.returns
returns c = one_worker_gathers
