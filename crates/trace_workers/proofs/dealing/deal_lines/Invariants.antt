use Rattle.std.proofs.Common.{◌≡◌, ◌≤◌, length}
use Rattle.trace_workers.specs.Dealing.{HaveTurns}
use Rattle.trace_workers.specs.Jobs.{KeepPasses}
use Rattle.trace_workers.specs.Records.{segment_places}
use Rattle.trace_workers.proofs.dealing.deal_lines.Given as goal

abbrev pub invariant-loop-place : goal.invariant-loop-place
invariant-loop-place l = record {
  number : l.number ≡ length (segment_places l.lines l.from l.place);
  small : l.number ≤ l.place;
  turns : HaveTurns l.lines l.from l.place l.jobs;
  passes : KeepPasses l.initial.jobs l.jobs;
}
