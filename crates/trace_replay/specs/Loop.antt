-- The lines of a trace, done one after another.
use Rattle.std.specs.Prelude.{ℕ, ◌+◌, ◌-◌, ◌<◌, ◌≤◌, ◌≡◌, List, [], length, take, drop, true, slice_index_or}
use Rattle.trace_format.specs.declared.Line.{Line}
use Rattle.trace_format.specs.declared.Trace.{Trace}
use Rattle.trace_format.specs.declared.limits.TheConstants.{MOST_RECORDS}
use Rattle.trace_format.specs.Sound.{IsSound, AreTimed, AreArchivedOnce, records}
use Rattle.router_account.specs.Shelves.{ShelfView}
use Rattle.trace_history.specs.History.{History, IsHistoryOf}
use Rattle.trace_replay.specs.declared.state.State.{State}
use Rattle.trace_replay.specs.Agents.{Standing}
use Rattle.trace_replay.specs.Segments.{Splits, filled, archived_in, is_barrier_line, record_count}
use Rattle.trace_replay.specs.Standing.{Way, Stands}

-- so many lines of a trace are done
pub record HasDone {A : Type 0} (way : Way A) (stands : Standing A) (t : Trace) (start : ShelfView) (i : ℕ) (agents : List A) (s : State) (now : ShelfView) : Type 0 where
  pub history : History
  pub seg : History
  pub lines_are : (f : Splits) → IsHistoryOf t.sigs (take i t.lines) (filled f seg history)
  pub counted : length seg + length history ≡ i
  pub few_records : (record_count seg + record_count history) + length (records (drop i t.lines)) ≤ MOST_RECORDS
  pub stood : Stands way stands t start history seg agents s now
  pub timed : AreTimed s.clock (drop i t.lines)
  pub once : AreArchivedOnce (archived_in seg) (drop i t.lines)
  pub closed : (d : Line) → 0 < i → is_barrier_line (slice_index_or t.lines (i - 1) d).what ≡ true → seg ≡ []

-- a line is done, wherever it stands in a trace
abbrev pub Proceeds : {A : Type 0} → Way A → Standing A → Trace → Line → (before after : List A) → (old new : State) → (was now : ShelfView) → Type 0
Proceeds way stands t line before after old new was now =
    (start : ShelfView) (i : ℕ) (d : Line) → IsSound t → i < length t.lines → line ≡ slice_index_or t.lines i d
    → HasDone way stands t start i before old was → HasDone way stands t start (i + 1) after new now
