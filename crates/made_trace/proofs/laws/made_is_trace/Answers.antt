use Rattle.made_trace.proofs.TraceFacts.{made_is_trace}
use Rattle.made_trace.proofs.laws.made_is_trace.Goals as goal

pub returns : goal.returns
returns c = made_is_trace
