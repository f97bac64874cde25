-- What holds of every made trace.
use Rattle.std.specs.Prelude.{ℕ, ◌≤◌, ◌<◌, ◌^◌}
use Rattle.trace_format.specs.Trace.{IsTrace}
use Rattle.trace_history.specs.Apart.{AreLinesApart, none_stood}
use Rattle.made_trace.specs.Made.{made_text, made_trace}
use Rattle.made_trace.specs.declared.made.TheConstants.{MOST_MADE}

-- no record stands in one segment with a rotation or a watch
abbrev pub MadeIsApart : Type 0
MadeIsApart = (seed packets : ℕ) → AreLinesApart none_stood (made_trace seed packets).lines

-- its text is a trace, and this one.
abbrev pub MadeIsTrace : Type 0
MadeIsTrace = (seed packets : ℕ) → seed < 2 ^ 64 → packets ≤ MOST_MADE → IsTrace (made_text seed packets) (made_trace seed packets)
