use Rattle.std.proofs.Common.{ℕ, ◌<◌, get_or}
use Rattle.data_agent.specs.Planes.{IsPrepared, entries_of}
use Rattle.data_agent.specs.Standing.{StandsFor}
use Rattle.data_agent.specs.declared.Agent.{Agent}
use Rattle.trace_replay.specs.Yards.{AreBeside, AllKeepStanding, AllKeepEntries}
use Rattle.trace_replay.proofs.agents.prepare_all.Given as goal

abbrev pub invariant-loop-router : goal.invariant-loop-router
invariant-loop-router l = record {
  beside : AreBeside l.planes l.agents;
  prepared : (r : ℕ) (a : Agent) → r < l.router → IsPrepared (get_or l.agents r a);
  same : AllKeepStanding StandsFor l.fn.agents l.agents;
  entries : AllKeepEntries entries_of l.fn.agents l.agents;
}
