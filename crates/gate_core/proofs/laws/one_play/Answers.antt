use Rattle.gate_core.proofs.PlayFacts.{one_end}
use Rattle.gate_core.proofs.laws.one_play.Goals as goal

pub returns : goal.returns
returns c = λ begin first second steps answers replies played again. one_end begin steps first second answers replies played again
