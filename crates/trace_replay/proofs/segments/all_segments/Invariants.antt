use Rattle.trace_history.specs.Routers.{count}
use Rattle.data_agent.specs.Standing.{StandsFor}
use Rattle.router_account.specs.Shelves.{view_of}
use Rattle.trace_replay.specs.Segmenting.{HasCut, IsCrewOf}
use Rattle.trace_replay.specs.Yards.{AreBeside, by_workers}
use Rattle.trace_replay.proofs.segments.all_segments.Given as goal

abbrev pub invariant-loop-to : goal.invariant-loop-to
invariant-loop-to g l =
    let view = view_of g.H.Shelf.tells g.H.Shelf.contents g.H.Shelf.faults in
    record {
      crew : IsCrewOf l.workers (count l.trace) l.crew;
      beside : AreBeside l.planes l.agents;
      cut : HasCut (by_workers l.workers) StandsFor l.trace (view l.fn.shelf) l.from l.to l.agents l.state (view l.shelf);
    }
