use Rattle.agent_wire.proofs.AcceptFacts.{accepting_keeps}
use Rattle.agent_wire.proofs.laws.accepting_is_sound.Goals as goal

pub returns : goal.returns
returns c = accepting_keeps
