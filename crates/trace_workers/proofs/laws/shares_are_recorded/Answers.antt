use Rattle.trace_workers.proofs.SharedOut.{shared}
use Rattle.trace_workers.proofs.laws.shares_are_recorded.Goals as goal

pub returns : goal.returns
returns c = shared
