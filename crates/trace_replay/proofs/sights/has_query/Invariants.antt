use Rattle.std.proofs.Common.{ℕ, ◌≡◌, ◌<◌, get_or, None}
use Rattle.trace_replay.specs.Segments.{no_line}
use Rattle.trace_replay.specs.Sights.{time_at}
use Rattle.trace_replay.proofs.sights.has_query.Given as goal

abbrev pub invariant-loop-line : goal.invariant-loop-line
invariant-loop-line l = (j : ℕ) → j < l.line-index → time_at l.number (get_or l.trace.lines j no_line) ≡ None
