use Rattle.std.proofs.Common.{◌≡◌, ◌≤◌, length, take}
use Rattle.trace_format.specs.Sound.{records}
use Rattle.trace_replay.specs.Summary.{queries}
use Rattle.trace_replay.proofs.summary.count_queries.Given as goal

abbrev pub invariant-loop-line : goal.invariant-loop-line
invariant-loop-line l = record {
  counted : l.count ≡ length (queries (take l.line-index l.lines));
  few : l.count ≤ l.line-index;
}
