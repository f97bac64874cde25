-- The events of a segment, those of its records and those of its operator, in the order of its lines.
use Rattle.std.specs.Prelude.{List, [], ◌∷◌, ◌++◌, take, drop, not, if◌then◌else◌}
use Rattle.std.specs.List.{filter}
use Rattle.spie_base.specs.declared.Sig.{Sig}
use Rattle.trace_format.specs.declared.Line.{Line}
use Rattle.trace_format.specs.Sound.{is_recording}
use Rattle.trace_history.specs.History.{Event, History, IsEventOf}
use Rattle.trace_replay.specs.declared.state.Answer.{Answer}
use Rattle.trace_replay.specs.Segments.{answer_of}

-- the lines that the operator does
abbrev pub operations : List Line → List Line
operations lines = filter (λ line. not (is_recording line.what)) lines

-- one item for each line: the next of a record's where the line is one, and else of the operator's
abbrev pub interleaved : {X : Type 0} → List Line → (records others : List X) → List X
interleaved [] records others = []
interleaved (line ∷ lines) records others =
    if is_recording line.what then take 1 records ++ interleaved lines (drop 1 records) others
    else take 1 others ++ interleaved lines records (drop 1 others)

-- these happened at these lines, in order
abbrev pub AreEvents : List Sig → List Line → List Event → Type 0
AreEvents sigs [] [] = Unit {0}
AreEvents sigs (line ∷ lines) (event ∷ events) = IsEventOf sigs line.what event × AreEvents sigs lines events
AreEvents sigs _ _ = ⊥

-- a history, and what happened at the lines behind it
abbrev pub history_by : History → List Line → List Event → History
history_by history [] events = history
history_by history (line ∷ lines) [] = history
history_by history (line ∷ lines) (event ∷ events) =
    history_by (record { line = line.number; event = event } ∷ history) lines events

-- the answers to a history's lines, in order
abbrev pub answers_of : History → List Answer
answers_of [] = []
answers_of (moment ∷ history) = answers_of history ++ answer_of moment.event ∷ []
