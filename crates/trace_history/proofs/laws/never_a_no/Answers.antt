use Rattle.trace_history.proofs.Walks.{never_a_no}
use Rattle.trace_history.proofs.laws.never_a_no.Goals as goal

pub returns : goal.returns
returns c = never_a_no
