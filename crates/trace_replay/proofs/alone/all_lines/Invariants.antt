use Rattle.data_agent.specs.Standing.{StandsFor}
use Rattle.router_account.specs.Shelves.{view_of}
use Rattle.trace_replay.specs.Loop.{HasDone}
use Rattle.trace_replay.specs.Yards.{AreBeside, by_workers}
use Rattle.trace_replay.proofs.alone.all_lines.Given as goal

abbrev pub invariant-loop-line : goal.invariant-loop-line
invariant-loop-line g l =
    let view = view_of g.H.Shelf.tells g.H.Shelf.contents g.H.Shelf.faults in
    record {
      beside : AreBeside l.planes l.agents;
      done : HasDone (by_workers 1) StandsFor l.trace (view l.fn.shelf) l.line-index l.agents l.state (view l.shelf);
    }
