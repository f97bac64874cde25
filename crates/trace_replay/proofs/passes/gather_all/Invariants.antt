use Rattle.std.proofs.Common.{◌-◌, length}
use Rattle.trace_replay.specs.Dealt.{AreColumns, HaveTaken}
use Rattle.trace_replay.specs.Yards.{AreBeside}
use Rattle.trace_replay.proofs.passes.gather_all.Given as goal

abbrev pub invariant-loop-done : goal.invariant-loop-done
invariant-loop-done l = record {
  beside : AreBeside l.planes l.agents;
  taken : HaveTaken (length l.planes) l.done l.fn.jobs l.jobs l.fn.agents l.agents;
  columns : AreColumns (length l.fn.jobs) (length l.planes - l.done) l.columns.items;
}
