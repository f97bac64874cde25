use Rattle.trace_history.proofs.Walks.{routes_are_found}
use Rattle.trace_history.proofs.laws.routes_are_found.Goals as goal

pub returns : goal.returns
returns c = routes_are_found
