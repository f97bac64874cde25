use Rattle.trace_history.proofs.WorkersAlike.{workers_report_the_same}
use Rattle.trace_history.proofs.laws.workers_report_the_same.Goals as goal

pub returns : goal.returns
returns c = workers_report_the_same
