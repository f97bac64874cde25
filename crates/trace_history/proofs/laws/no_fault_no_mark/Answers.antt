use Rattle.trace_history.proofs.Faultless.{no_fault_no_mark}
use Rattle.trace_history.proofs.laws.no_fault_no_mark.Goals as goal

pub returns : goal.returns
returns c = no_fault_no_mark
