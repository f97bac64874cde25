use Rattle.agent_wire.proofs.SetFacts.{as_before, from_err}
use Rattle.agent_wire.proofs.known.learn.Goals as goal

pub returns-in-Err-clause-same : goal.returns-in-Err-clause-same
returns-in-Err-clause-same g c = as_before _ _ _ _ c.requires.outside (from_err _ _ _ c.in-Err.is c.put_all.ensures.some) c.forget.ensures
