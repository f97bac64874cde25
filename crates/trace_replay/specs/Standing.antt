-- What a replay stands for.
use Rattle.std.specs.Prelude.{ℕ, ◌+◌, ◌*◌, ◌^◌, ◌<◌, ◌≤◌, ◌≡◌, ◌==◌, ◌⊎◌, List, [], ◌∷◌, ◌++◌, length, slice_index_or, Bool, true, false, Some}
use Rattle.std.specs.List.{Contains}
use Rattle.spie_base.specs.Causes.{RoseBy}
use Rattle.spie_base.specs.declared.Entry.{Entry}
use Rattle.report_text.specs.declared.Item.{Item}
use Rattle.report_text.specs.declared.Item.TheVariants.{Head}
use Rattle.report_text.specs.Report.{item_text}
use Rattle.trace_format.specs.declared.Line.{Line}
use Rattle.trace_format.specs.declared.Trace.{Trace}
use Rattle.trace_format.specs.declared.limits.TheConstants.{MOST_BYTES, MOST_RECORDS}
use Rattle.trace_format.specs.Sound.{FitsClock, FitsOnce, HasTime, IsWithin, is_archived, is_recording}
use Rattle.page_shelf.specs.Shelves.{ChangesOnly}
use Rattle.router_account.specs.Ledger.{PutBits, Unfinished, nothing_unfinished}
use Rattle.router_account.specs.Barriers.{IsSplit, archive_view}
use Rattle.router_account.specs.Shelves.{ShelfView}
use Rattle.trace_history.specs.declared.Totals.{Totals}
use Rattle.trace_history.specs.History.{Event, History, IsEventOf, account, clock}
use Rattle.trace_history.specs.Ledgers.{ledger, closed_at_archive}
use Rattle.trace_history.specs.Outcomes.{IsAllowed, EachQuery, HasSameDigests, IsReadQuery, IsTrueQuery, HasOnlyFaults, AreReadDuring, fault_marks}
use Rattle.trace_history.specs.Receipts.{IsLegalFor, IsLegal, IsSequential, open_at}
use Rattle.trace_history.specs.Replay.{IsCoveredName}
use Rattle.trace_history.specs.Report.{AreItemsOf, text_of, totals_of, no_totals}
use Rattle.trace_history.specs.Routers.{count, rules_of, sum_over}
use Rattle.trace_history.specs.Watched.{AreSequentialWatches, AreSegmentWatches, AreBetweenWatches}
use Rattle.trace_history.specs.Workers.{worked, gathered}
use Rattle.trace_replay.specs.declared.state.Answer.{Answer}
use Rattle.trace_replay.specs.declared.state.State.{State}
use Rattle.trace_replay.specs.Agents.{Standing, AllStand, IsHeld}
use Rattle.trace_replay.specs.Segments.{Splits, filled, AreInner, IsBarred, AreForward, AreOnce, archived_in, Pending, numbered, number_at, pending_of, pending_items, item_by, record_count}

-- how a replay goes: by how many workers, and which entries an agent has
pub record Way (A : Type 0) : Type 0 where
  pub workers : ℕ
  pub entries : A → List Entry

-- each answer has one line at least, and adds numbers of 64 bits
pub record AreFew (totals : Totals) (bytes : ℕ) : Type 0 where
  pub nodes : totals.nodes ≤ bytes * 2 ^ 64
  pub edges : totals.edges ≤ bytes * 2 ^ 64
  pub unknown : totals.unknown ≤ bytes * 2 ^ 64
  pub clear : totals.clear ≤ bytes * 2 ^ 64

-- the report is that of a history up to its last barrier, with the first answers behind it, whose lines are the same however
-- archivals split their pages
pub record IsPrinted (t : Trace) (history : History) (early : List Pending) (report : List ℕ) (totals : Totals) : Type 0 where
  pub items : List Item
  pub answered : AreItemsOf t history items
  pub report_is : (f : Splits) → report ≡ text_of t (items ++ pending_items f early)
  pub totals_are : totals ≡ totals_of items
  pub few : AreFew totals (length report)

-- the answers that are not printed yet
abbrev pub pending_at : Trace → State → List Pending
pending_at t s = numbered t.lines s.first s.answers.items

-- the first answers of a segment are printed, and the others wait for its barrier
pub record IsReported (t : Trace) (history seg : History) (s : State) : Type 0 where
  pub early : List Pending
  pub first_is : s.first ≡ length history + length early
  pub pending_is : early ++ pending_at t s ≡ pending_of seg
  pub printed : IsPrinted t history early s.report.items s.totals

-- the order of a history and of the segment behind it
pub record IsOrdered (t : Trace) (history seg : History) : Type 0 where
  pub inner : AreInner seg
  pub once : AreOnce (count t) seg
  pub barred : IsBarred history
  pub forward : AreForward history

-- a segment's archivals split their pages by what they cover
abbrev pub AreSplits : Trace → Splits → History → Type 0
AreSplits t f history =
    (r : ℕ) (closings : List ℕ) → r < count t → closed_at_archive (rules_of t) r history ≡ Some closings → IsSplit (rules_of t r) (archive_view (ledger (rules_of t) r history) closings) (f r)

-- with one worker each line is right as it is done, however the segment's archivals split their pages
pub record IsRightAlone (t : Trace) (history seg : History) : Type 0 where
  pub sequential : (f : Splits) → IsSequential (rules_of t) (filled f seg history)
  pub watched : (f : Splits) → AreSequentialWatches (rules_of t) (filled f seg history)

-- with W workers a segment is right as a whole: the receipts of each router are what W workers may have, and each watch is between
-- the segment's start and its end as it stands. So are the segments that have ended
pub record IsRightTogether (W : ℕ) (t : Trace) (history seg : History) : Type 0 where
  pub legal : IsLegal W (rules_of t) history
  pub between : AreBetweenWatches (rules_of t) history
  pub seg_legal : (r : ℕ) → IsLegalFor W r (open_at (rules_of t) r history) seg
  pub seg_between : (f : Splits) → AreSegmentWatches (rules_of t) (filled f seg history) (filled f seg history)

abbrev pub AreLinesRight : (alone : Bool) → (W : ℕ) → Trace → (history seg : History) → Type 0
AreLinesRight true W t history seg = IsRightAlone t history seg
AreLinesRight false W t history seg = IsRightTogether W t history seg

-- what holds of the events, however the segment's archivals split their pages
pub record IsRight (W : ℕ) (t : Trace) (history seg : History) : Type 0 where
  pub lines : AreLinesRight (W == 1) W t history seg
  pub allowed_before : IsAllowed (count t) (rules_of t) history
  pub allowed : (f : Splits) → AreSplits t f (filled f seg history) → IsAllowed (count t) (rules_of t) (filled f seg history)
  pub same_digests : EachQuery (HasSameDigests (count t) (rules_of t)) history
  pub read : EachQuery (IsReadQuery (count t) (rules_of t)) history

-- what the shelf came to since the start
pub record IsKeptOn (t : Trace) (history seg : History) (us : ℕ → Unfinished) (start now : ShelfView) : Type 0 where
  pub later : start.faults ≤ now.faults
  pub still : now.tells ≡ start.tells
  pub paid : RoseBy (fault_marks (count t) history + sum_over (count t) (λ r. (us r).refused)) start.faults now.faults
  pub during : AreReadDuring (count t) start now history
  pub all_true : start.tells ≡ true → EachQuery (IsTrueQuery (count t) (rules_of t)) history
  pub only_faults : start.tells ≡ true → EachQuery (HasOnlyFaults (count t)) history
  pub holds : start.tells ≡ true → (f : Splits) (r : ℕ) → r < count t → IsHeld (rules_of t r) now.contents (ledger (rules_of t) r (filled f seg history)) (us r)
  pub untouched : start.tells ≡ true → (f : Splits) → AreSplits t f (filled f seg history)
      → ChangesOnly (IsCoveredName (count t) (filled f seg history)) start.contents now.contents

-- each agent has what its router's workers recorded, segment by segment
abbrev pub AreGathered : {A : Type 0} → Way A → Trace → (history seg : History) → List A → Type 0
AreGathered way t history seg agents =
    (r : ℕ) (d : _) → r < count t → way.entries (slice_index_or agents r d) ≡ gathered way.workers r history ++ worked way.workers r seg

-- the agents and the state stand for a history up to a barrier and for the moments of a segment behind it
pub record Stands {A : Type 0} (way : Way A) (stands : Standing A) (t : Trace) (start : ShelfView) (history seg : History) (agents : List A) (s : State) (now : ShelfView) : Type 0 where
  pub count_is : length agents ≡ count t
  pub clock_is : s.clock ≡ clock history
  pub clock_fits : s.clock < 2 ^ 48
  pub us : ℕ → Unfinished
  pub us_none : (r : ℕ) → is_archived (archived_in seg) r ≡ false → us r ≡ nothing_unfinished
  pub us_closed : (f : Splits) (r : ℕ) (x : PutBits) → Contains (us r).bits_put x → x.page < length (account (rules_of t) r (filled f seg history)).closings
  pub agents_stand : (f : Splits) → AllStand stands (rules_of t) (λ r. ledger (rules_of t) r (filled f seg history)) us agents
  pub gathered_are : AreGathered way t history seg agents
  pub ordered : IsOrdered t history seg
  pub right : IsRight way.workers t history seg
  pub reported : IsReported t history seg s
  pub shelf : IsKeptOn t history seg us start now

-- a line may be done: it fits what was done before it
pub record Fits (t : Trace) (history seg : History) (s : State) (line : Line) : Type 0 where
  pub within : IsWithin (count t) (length t.sigs) line.what
  pub timed : FitsClock s.clock line.what
  pub time : HasTime line.what
  pub once : FitsOnce (archived_in seg) line.what
  pub few : length seg + length history < MOST_BYTES
  pub there : length seg + length history < length t.lines
  pub place : number_at t.lines (length seg + length history) ≡ line.number
  pub few_records : is_recording line.what ≡ true → record_count seg + record_count history < MOST_RECORDS

-- the agents and the state stand for something that the line fits
abbrev pub IsNext : {A : Type 0} → Way A → Standing A → Trace → Line → (agents : List A) → State → ShelfView → Type 0
IsNext way stands t line agents s now =
    (start : ShelfView) × (history : History) × (seg : History) × Stands way stands t start history seg agents s now × Fits t history seg s line

-- one line more of a segment: whatever was stood for, there is an event of this line, and what is stood for then is that with it
abbrev pub Does : {A : Type 0} → Way A → Standing A → Trace → Line → (before after : List A) → (old new : State) → (was now : ShelfView) → Type 0
Does way stands t line before after old new was now =
    (start : ShelfView) (history seg : History) → Stands way stands t start history seg before old was → Fits t history seg old line
    → (event : Event) × IsEventOf t.sigs line.what event × Stands way stands t start history (record { line = line.number; event = event } ∷ seg) after new now

-- a barrier: the segment is filled in and printed, and the barrier's line with it
abbrev pub Closes : {A : Type 0} → Way A → Standing A → Trace → Line → (before after : List A) → (old new : State) → (was now : ShelfView) → Type 0
Closes way stands t line before after old new was now =
    (start : ShelfView) (history seg : History) → Stands way stands t start history seg before old was → Fits t history seg old line
    → (f : Splits) × (event : Event) × IsEventOf t.sigs line.what event × Stands way stands t start (record { line = line.number; event = event } ∷ filled f seg history) [] after new now

-- the state with one answer more, which waits
pub record Waits (old new : State) (answer : Answer) : Type 0 where
  pub clock : new.clock ≡ old.clock
  pub first : new.first ≡ old.first
  pub answers : new.answers.items ≡ old.answers.items ++ answer ∷ []
  pub report : new.report.items ≡ old.report.items
  pub totals : new.totals ≡ old.totals

-- the state with one answer more, whose line is printed: no answer waits, and the line is the same however archivals split
-- their pages
pub record IsPrintedAtOnce (t : Trace) (line : ℕ) (old new : State) (answer : Answer) : Type 0 where
  pub clock : new.clock ≡ old.clock
  pub first : new.first ≡ old.first + 1
  pub none : old.answers.items ≡ []
  pub answers : new.answers.items ≡ []
  pub report : (f : Splits) → new.report.items ≡ old.report.items ++ item_text t.topology.names (item_by f line answer)
  pub totals : new.totals ≡ old.totals

-- the answer to a line is printed, or waits for the barrier
abbrev pub Adds : Trace → (line : ℕ) → (old new : State) → Answer → Type 0
Adds t line old new answer = IsPrintedAtOnce t line old new answer ⊎ Waits old new answer

-- nothing is done yet: the report has its first line
pub record IsBegun (t : Trace) (s : State) : Type 0 where
  pub clock : s.clock ≡ 0
  pub first : s.first ≡ 0
  pub answers : s.answers.items ≡ []
  pub report : s.report.items ≡ text_of t (Head ∷ [])
  pub totals : s.totals ≡ no_totals
