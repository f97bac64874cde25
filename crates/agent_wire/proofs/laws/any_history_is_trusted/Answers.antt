use Rattle.agent_wire.proofs.HistoryFacts.{trusted}
use Rattle.agent_wire.proofs.laws.any_history_is_trusted.Goals as goal

pub returns : goal.returns
returns c = trusted
