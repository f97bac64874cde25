use Rattle.std.proofs.Common.{ℕ, ◌≡◌, ◌<◌, get_or, None}
use Rattle.trace_replay.specs.Segments.{no_line}
use Rattle.trace_replay.specs.Sights.{time_at}
use Rattle.trace_replay.proofs.sights.find_query.Given as goal

abbrev pub invariant-loop-place : goal.invariant-loop-place
invariant-loop-place l = (j : ℕ) → j < l.place → time_at l.number (get_or l.lines j no_line) ≡ None
