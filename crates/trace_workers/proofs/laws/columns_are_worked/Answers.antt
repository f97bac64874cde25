use Rattle.trace_workers.proofs.AllShares.{columns_are_worked}
use Rattle.trace_workers.proofs.laws.columns_are_worked.Goals as goal

pub returns : goal.returns
returns c = columns_are_worked
