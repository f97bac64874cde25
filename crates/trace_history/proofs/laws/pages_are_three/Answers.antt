use Rattle.trace_history.proofs.Split.{pages_are_three}
use Rattle.trace_history.proofs.laws.pages_are_three.Goals as goal

pub returns : goal.returns
returns c = pages_are_three
