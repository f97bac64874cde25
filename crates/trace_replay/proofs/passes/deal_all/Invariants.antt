use Rattle.data_agent.specs.Planes.{entries_of}
use Rattle.trace_replay.specs.Dealt.{AreColumns, HaveDealt, HaveFresh}
use Rattle.trace_replay.specs.Operating.{KeepEntries}
use Rattle.trace_replay.specs.Yards.{AreBeside}
use Rattle.trace_replay.proofs.passes.deal_all.Given as goal

abbrev pub invariant-loop-router : goal.invariant-loop-router
invariant-loop-router l = record {
  beside : AreBeside l.planes l.agents;
  entries : KeepEntries entries_of l.fn.agents l.agents;
  dealt : HaveDealt l.workers l.router l.fn.agents l.agents;
  passes : HaveFresh l.router l.planes l.fn.agents l.fn.jobs l.jobs;
  columns : AreColumns l.workers l.router l.columns.items;
}
