use Rattle.agent_wire.proofs.ScheduleFacts.{keeps_then}
use Rattle.agent_wire.proofs.runs.ask_again.Goals as goal

pub returns-clause-kept : goal.returns-clause-kept
returns-clause-kept g c = keeps_then _ _ _ _ _ (keeps_then _ _ _ _ _ c.in_ok-sent.ensures.kept c.in_ok-answered.ensures.kept) c.in_ok-counted.ensures.kept
