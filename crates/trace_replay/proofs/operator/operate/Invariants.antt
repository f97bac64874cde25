use Rattle.data_agent.specs.Planes.{entries_of}
use Rattle.router_account.specs.Shelves.{view_of}
use Rattle.trace_replay.specs.Aways.{besides, reads}
use Rattle.trace_replay.specs.Operating.{OperatesFrom, KeepEntries}
use Rattle.trace_replay.specs.Yards.{AreBeside}
use Rattle.trace_replay.proofs.operator.operate.Given as goal

abbrev pub invariant-loop-i : goal.invariant-loop-i
invariant-loop-i g l =
    let view = view_of g.H.Shelf.tells g.H.Shelf.contents g.H.Shelf.faults in
    record {
      beside : AreBeside l.planes l.agents;
      entries : KeepEntries entries_of l.fn.agents l.agents;
      operates : OperatesFrom besides reads l.trace l.lines 0 l.i l.fn.agents l.agents l.clock l.fn.answers.items l.answers.items (view l.fn.shelf) (view l.shelf);
    }
