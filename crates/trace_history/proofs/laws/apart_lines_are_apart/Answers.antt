use Rattle.trace_history.proofs.ApartLines.{apart_lines}
use Rattle.trace_history.proofs.laws.apart_lines_are_apart.Goals as goal

pub returns : goal.returns
returns c = apart_lines
