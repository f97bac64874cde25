use Rattle.trace_workers.proofs.AllShares.{shares_are_all}
use Rattle.trace_workers.proofs.laws.shares_are_all.Goals as goal

pub returns : goal.returns
returns c = shares_are_all
