use Rattle.trace_replay.specs.Yards.{AreOpened}
use Rattle.trace_replay.proofs.agents.open_all.Given as goal

abbrev pub invariant-loop-router : goal.invariant-loop-router
invariant-loop-router l = AreOpened l.rules l.router l.planes.items l.agents.items
