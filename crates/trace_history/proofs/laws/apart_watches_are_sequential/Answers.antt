use Rattle.trace_history.proofs.ApartWatches.{apart_watches}
use Rattle.trace_history.proofs.laws.apart_watches_are_sequential.Goals as goal

pub returns : goal.returns
returns c = apart_watches
