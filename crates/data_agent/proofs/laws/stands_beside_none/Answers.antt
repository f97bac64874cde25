use Rattle.data_agent.proofs.Dealing.{beside_none}
use Rattle.data_agent.proofs.laws.stands_beside_none.Goals as goal

pub returns : goal.returns
returns c = λ agent rules l u s closed. beside_none agent rules l u s closed
