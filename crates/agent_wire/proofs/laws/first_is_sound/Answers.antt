use Rattle.agent_wire.proofs.AcceptFacts.{first_keeps}
use Rattle.agent_wire.proofs.laws.first_is_sound.Goals as goal

pub returns : goal.returns
returns c = first_keeps
