use Rattle.std.proofs.Common.{List, ◌+◌, ◌≡◌, ◌≤◌, length, drop}
use Rattle.page_gate.specs.Held.{PlaneId}
use Rattle.data_agent.specs.Planes.{entries_of}
use Rattle.data_agent.specs.Standing.{StandsFor}
use Rattle.trace_format.specs.Sound.{records}
use Rattle.trace_replay.specs.Concluding.{AddsSoFar, pages_for, receipts_for}
use Rattle.trace_replay.specs.Operating.{KeepEntries}
use Rattle.trace_replay.specs.Yards.{AreBeside}
use Rattle.trace_replay.proofs.Concluded.{left_at}
use Rattle.trace_replay.proofs.conclude.add_rows.Given as goal

abbrev pub invariant-loop-i : goal.invariant-loop-i
invariant-loop-i l = record {
  counted : l.j + length (records (drop l.i l.lines)) ≡ length (records l.lines);
  order : l.j ≤ l.i;
  so : AddsSoFar StandsFor (receipts_for l.trace l.lines l.jobs) (left_at l.trace l.lines (pages_for l.lines l.jobs) l.i l.j) l.fn.agents l.agents;
  beside : (planes : List PlaneId) → AreBeside planes l.fn.agents → AreBeside planes l.agents;
  entries : KeepEntries entries_of l.fn.agents l.agents;
}
