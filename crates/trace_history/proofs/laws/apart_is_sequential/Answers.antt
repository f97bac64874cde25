use Rattle.trace_history.proofs.ApartFacts.{apart_is_sequential}
use Rattle.trace_history.proofs.laws.apart_is_sequential.Goals as goal

pub returns : goal.returns
returns c = apart_is_sequential
