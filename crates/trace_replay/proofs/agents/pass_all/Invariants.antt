use Rattle.data_agent.specs.Planes.{entries_of}
use Rattle.data_agent.specs.Standing.{StandsFor}
use Rattle.trace_replay.specs.Agents.{PassesUpTo}
use Rattle.router_account.specs.Shelves.{view_of}
use Rattle.trace_replay.specs.Yards.{AreBeside, AllKeepEntries}
use Rattle.trace_replay.proofs.agents.pass_all.Given as goal

abbrev pub invariant-loop-router : goal.invariant-loop-router
invariant-loop-router g l =
    let view = view_of g.H.Shelf.tells g.H.Shelf.contents g.H.Shelf.faults in
    record {
      beside : AreBeside l.planes l.agents;
      entries : AllKeepEntries entries_of l.fn.agents l.agents;
      passed : PassesUpTo StandsFor l.clock l.tick l.router l.fn.agents l.agents l.barriers.items (view l.fn.shelf) (view l.shelf);
    }
