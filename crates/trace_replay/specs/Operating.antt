-- The operator of a segment, who rotates, archives and watches while passes are out.
--
-- What is said here of agents is said of any type of agents: `besides` is what an agent stands for while passes are out,
-- and `reads` which signatures it read in its pages. Nothing of a segment's records is known until the passes are back, so
-- each agent stands for the ledger of the operator's moments alone.
use Rattle.std.specs.Prelude.{ℕ, ◌+◌, ◌^◌, ◌<◌, ◌≤◌, ◌≡◌, List, [], ◌∷◌, length, take, drop, true, false, slice_index_or}
use Rattle.std.specs.List.{Contains}
use Rattle.spie_base.specs.Causes.{RoseBy}
use Rattle.spie_base.specs.declared.Entry.{Entry}
use Rattle.spie_base.specs.declared.Rules.{Rules}
use Rattle.spie_base.specs.declared.Sig.{Sig}
use Rattle.page_shelf.specs.Shelves.{ChangesOnly, Contents}
use Rattle.trace_format.specs.declared.Line.{Line}
use Rattle.trace_format.specs.declared.Trace.{Trace}
use Rattle.trace_format.specs.declared.limits.TheConstants.{MOST_BYTES}
use Rattle.trace_format.specs.Sound.{AreArchivedOnce, FitsOnce, IsWithin, is_archived}
use Rattle.router_account.specs.Ledger.{Ledger, PutBits, Unfinished, nothing_unfinished}
use Rattle.router_account.specs.Records.{Holds, HoldsBits}
use Rattle.router_account.specs.Shelves.{ShelfView}
use Rattle.data_agent.specs.Calls.{Meaning}
use Rattle.trace_history.specs.History.{Event, History, IsEventOf, IsHistoryOf, account, clock}
use Rattle.trace_history.specs.Ledgers.{ledger}
use Rattle.trace_history.specs.Outcomes.{IsAllowed, AreReadDuring, fault_marks}
use Rattle.trace_history.specs.Replay.{IsCoveredName}
use Rattle.trace_history.specs.Routers.{count, rules_of, sum_over}
use Rattle.trace_replay.specs.declared.state.Answer.{Answer}
use Rattle.trace_replay.specs.Merging.{answers_of, operations}
use Rattle.trace_replay.specs.Operated.{AreOperations, AreTurns, AreWatchedBy}
use Rattle.trace_replay.specs.Segments.{Splits, filled, archived_in, is_barrier_line}
use Rattle.trace_replay.specs.Standing.{IsOrdered, AreSplits}

-- what an agent stands for while passes are out: they are away, as V says
abbrev pub Besides : Type 0 → Type 0 → Type 1
Besides A V = A → V → Meaning

-- which signatures an agent read in its pages
abbrev pub Reads : Type 0 → Type 1
Reads A = A → (page : ℕ) → Sig → Type 0

abbrev pub KeepsReads : {A : Type 0} → Reads A → (old new : A) → Type 0
KeepsReads reads old new = (page : ℕ) (sig : Sig) → reads old page sig → reads new page sig

-- what the agent of a router read
abbrev pub reads_at : {A : Type 0} → Reads A → List A → (router page : ℕ) → Sig → Type 0
reads_at reads agents r page sig = (r < length agents) × ((d : _) → reads (slice_index_or agents r d) page sig)

-- a shelf holds the records of a ledger, and the bits records that the segment's archival put, with the bits that they had
-- then
pub record HoldsSoFar (rules : Rules) (contents : Contents) (l : Ledger) (u : Unfinished) : Type 0 where
  pub records : Holds rules contents l
  pub bits : HoldsBits rules contents l.account u

-- what the shelf came to since the start
pub record IsKeptBeside (t : Trace) (history ops : History) (us : ℕ → Unfinished) (start now : ShelfView) : Type 0 where
  pub later : start.faults ≤ now.faults
  pub still : now.tells ≡ start.tells
  pub paid : RoseBy (fault_marks (count t) history + sum_over (count t) (λ r. (us r).refused)) start.faults now.faults
  pub during : AreReadDuring (count t) start now history
  pub holds : start.tells ≡ true → (f : Splits) (r : ℕ) → r < count t
      → HoldsSoFar (rules_of t r) now.contents (ledger (rules_of t) r (filled f ops history)) (us r)
  pub untouched : start.tells ≡ true → (f : Splits) → AreSplits t f (filled f ops history)
      → ChangesOnly (IsCoveredName (count t) (filled f ops history)) start.contents now.contents

-- the agents stand for a history up to a barrier and for the operator's moments behind it, and these are his answers
pub record Operates {A V : Type 0} (besides : Besides A V) (reads : Reads A) (t : Trace) (start : ShelfView)
    (history : History) (aways : ℕ → V) (ops : History)
    (agents : List A) (time : ℕ) (answers : List Answer) (now : ShelfView) : Type 0 where
  pub count_is : length agents ≡ count t
  pub time_is : time ≡ clock history
  pub time_fits : time < 2 ^ 48
  pub us : ℕ → Unfinished
  pub us_none : (r : ℕ) → is_archived (archived_in ops) r ≡ false → us r ≡ nothing_unfinished
  pub us_closed : (f : Splits) (r : ℕ) (x : PutBits) → Contains (us r).bits_put x
      → x.page < length (account (rules_of t) r (filled f ops history)).closings
  pub agents_stand : (f : Splits) (r : ℕ) (d : A) → r < count t
      → besides (slice_index_or agents r d) (aways r)
      (rules_of t r) (ledger (rules_of t) r (filled f ops history)) (us r)
  pub ordered : IsOrdered t history ops
  pub operations_only : AreOperations ops
  pub turns : (f : Splits) → AreTurns (rules_of t) f history ops
  pub watched : (f : Splits) → AreWatchedBy (reads_at reads agents) (rules_of t) f history ops
  pub allowed_before : IsAllowed (count t) (rules_of t) history
  pub allowed : (f : Splits) → AreSplits t f (filled f ops history)
      → IsAllowed (count t) (rules_of t) (filled f ops history)
  pub answers_are : answers ≡ answers_of ops
  pub shelf : IsKeptBeside t history ops us start now

-- an operator's line may be done
pub record FitsBeside (t : Trace) (history ops : History) (line : Line) : Type 0 where
  pub within : IsWithin (count t) (length t.sigs) line.what
  pub once : FitsOnce (archived_in ops) line.what
  pub few : length ops + length history < MOST_BYTES

-- the agents stand for something that the line fits
abbrev pub MayOperate : {A V : Type 0} → Besides A V → Reads A → Trace → Line → (agents : List A) → (time : ℕ)
    → List Answer → ShelfView → Type 0
MayOperate {A} {V} besides reads t line agents time answers now =
    (start : ShelfView) × (history : History) × (aways : ℕ → V) × (ops : History)
    × Operates besides reads t start history aways ops agents time answers now
    × FitsBeside t history ops line

-- one line of the operator more
abbrev pub DoesBeside : {A V : Type 0} → Besides A V → Reads A → Trace → Line → (before after : List A) → (time : ℕ)
    → (given more : List Answer) → (was now : ShelfView) → Type 0
DoesBeside {A} {V} besides reads t line before after time given more was now =
    (start : ShelfView) (history : History) (aways : ℕ → V) (ops : History)
    → Operates besides reads t start history aways ops before time given was → FitsBeside t history ops line
    → (event : Event) × IsEventOf t.sigs line.what event
    × Operates besides reads t start history aways (record { line = line.number; event = event } ∷ ops) after time more
    now

-- ---- all lines of a segment

-- the lines behind a history, of which the operator does those that are no records
pub record FitsOperator (t : Trace) (history : History) (lines : List Line) : Type 0 where
  pub within : (i : ℕ) (d : Line) → i < length lines
      → IsWithin (count t) (length t.sigs) (slice_index_or lines i d).what
  pub inner : (i : ℕ) (d : Line) → i < length lines → is_barrier_line (slice_index_or lines i d).what ≡ false
  pub once : AreArchivedOnce [] lines
  pub few : length lines + length history < MOST_BYTES

-- the operator has come past so many of the lines
pub record HasOperated {A V : Type 0} (besides : Besides A V) (reads : Reads A) (t : Trace) (start : ShelfView)
    (history : History) (aways : ℕ → V) (lines : List Line) (i : ℕ)
    (agents : List A) (time : ℕ) (answers : List Answer) (now : ShelfView) : Type 0 where
  pub ops : History
  pub lines_are : IsHistoryOf t.sigs (operations (take i lines)) ops
  pub counted : length ops ≤ i
  pub once : AreArchivedOnce (archived_in ops) (drop i lines)
  pub stood : Operates besides reads t start history aways ops agents time answers now

-- the operator comes from one place among the lines to another
abbrev pub OperatesFrom : {A V : Type 0} → Besides A V → Reads A → Trace → List Line → (from to : ℕ)
    → (before after : List A) → (time : ℕ) → (given more : List Answer) → (was now : ShelfView) → Type 0
OperatesFrom {A} {V} besides reads t lines from to before after time given more was now =
    (start : ShelfView) (history : History) (aways : ℕ → V) → FitsOperator t history lines
    → HasOperated besides reads t start history aways lines from before time given was
    → HasOperated besides reads t start history aways lines to after time more now

-- he may come on from a place
abbrev pub IsAtLine : {A V : Type 0} → Besides A V → Reads A → Trace → List Line → (i : ℕ) → (agents : List A)
    → (time : ℕ) → List Answer → ShelfView → Type 0
IsAtLine {A} {V} besides reads t lines i agents time answers now =
    (start : ShelfView) × (history : History) × (aways : ℕ → V) × FitsOperator t history lines
    × HasOperated besides reads t start history aways lines i agents time answers now

-- each agent has the entries that it had
abbrev pub KeepEntries : {A : Type 0} → (entries : A → List Entry) → (before after : List A) → Type 0
KeepEntries entries before after =
    (r : ℕ) (d : _) → entries (slice_index_or after r d) ≡ entries (slice_index_or before r d)
