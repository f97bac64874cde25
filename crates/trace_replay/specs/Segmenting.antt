-- A segment that several workers and an operator do.
use Rattle.std.specs.Prelude.{ℕ, ◌+◌, ◌<◌, ◌≤◌, ◌≡◌, List, [], length, true, false, slice_index_or}
use Rattle.trace_format.specs.declared.Line.{Line}
use Rattle.trace_format.specs.declared.Trace.{Trace}
use Rattle.trace_format.specs.declared.limits.TheConstants.{MOST_RECORDS}
use Rattle.trace_format.specs.Sound.{AreArchivedOnce, records}
use Rattle.router_account.specs.Shelves.{ShelfView}
use Rattle.trace_history.specs.History.{History, IsHistoryOf}
use Rattle.trace_replay.specs.declared.state.State.{State}
use Rattle.trace_replay.specs.declared.segment.Crew.{Crew}
use Rattle.trace_replay.specs.Agents.{Standing}
use Rattle.trace_replay.specs.Loop.{HasDone}
use Rattle.trace_replay.specs.Segments.{is_barrier_line, record_count}
use Rattle.trace_workers.specs.Jobs.{AreFresh}
use Rattle.trace_workers.specs.Records.{lines_between}
use Rattle.trace_replay.specs.Standing.{Way, Stands}

-- a segment of a trace: the lines from a place on, none of which is a barrier, up to the barrier at another
pub record IsSegment (t : Trace) (from to : ℕ) : Type 0 where
  pub order : from ≤ to
  pub within : to < length t.lines
  pub inner : (i : ℕ) (d : Line) → from ≤ i → i < to → is_barrier_line (slice_index_or t.lines i d).what ≡ false
  pub barrier : (d : Line) → is_barrier_line (slice_index_or t.lines to d).what ≡ true

-- its lines fit the history before it
pub record FitSegment (t : Trace) (history : History) (from to : ℕ) : Type 0 where
  pub begins : length history ≡ from
  pub few_records : record_count history + length (records (lines_between t.lines from to)) ≤ MOST_RECORDS
  pub once : AreArchivedOnce [] (lines_between t.lines from to)

-- the agents and the state stand for something up to a barrier that the segment fits
abbrev pub IsAtSegment : {A : Type 0} → Way A → Standing A → Trace → (from to : ℕ) → (agents : List A) → State
    → ShelfView → Type 0
IsAtSegment way stands t from to agents s now =
    (start : ShelfView) × (history : History) × Stands way stands t start history [] agents s now
    × FitSegment t history from to

-- a segment's lines are done: whatever was stood for, there are moments of these lines, and what is stood for then is that
-- with them
abbrev pub DoesSegment : {A : Type 0} → Way A → Standing A → Trace → (from to : ℕ) → (before after : List A)
    → (old new : State) → (was now : ShelfView) → Type 0
DoesSegment way stands t from to before after old new was now =
    (start : ShelfView) (history : History) → Stands way stands t start history [] before old was
    → FitSegment t history from to
    → (seg : History) × IsHistoryOf t.sigs (lines_between t.lines from to) seg
    × Stands way stands t start history seg after new now

-- so many lines of a trace are done, and the last of them, if there is one, is a barrier
pub record HasEnded {A : Type 0} (way : Way A) (stands : Standing A) (t : Trace) (start : ShelfView) (i : ℕ)
    (agents : List A) (s : State) (now : ShelfView) : Type 0 where
  pub done : HasDone way stands t start i agents s now
  pub none : done.seg ≡ []

-- a segment and its barrier are done, wherever they stand in a trace
abbrev pub Ends : {A : Type 0} → Way A → Standing A → Trace → (from to : ℕ) → (before after : List A)
    → (old new : State) → (was now : ShelfView) → Type 0
Ends way stands t from to before after old new was now =
    (start : ShelfView) → HasEnded way stands t start from before old was
    → HasEnded way stands t start (to + 1) after new now

-- the lines before a place are done, the last of them a barrier, and those from there on and before another place are no
-- barriers
pub record HasCut {A : Type 0} (way : Way A) (stands : Standing A) (t : Trace) (start : ShelfView) (from to : ℕ)
    (agents : List A) (s : State) (now : ShelfView) : Type 0 where
  pub ended : HasEnded way stands t start from agents s now
  pub order : from ≤ to
  pub inner : (i : ℕ) (d : Line) → from ≤ i → i < to → is_barrier_line (slice_index_or t.lines i d).what ≡ false

-- one line more is looked at, and where it is a barrier its segment is done
abbrev pub Cuts : {A : Type 0} → Way A → Standing A → Trace → (from to next : ℕ) → (before after : List A)
    → (old new : State) → (was now : ShelfView) → Type 0
Cuts way stands t from to next before after old new was now =
    (start : ShelfView) → HasCut way stands t start from to before old was
    → HasCut way stands t start next (to + 1) after new now

-- what the workers keep from segment to segment is that of W workers, for so many routers
pub record IsCrewOf (W routers : ℕ) (crew : Crew) : Type 0 where
  pub jobs : AreFresh W routers crew.jobs.items
