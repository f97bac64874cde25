-- A segment whose barrier has not come yet.
--
-- How its archivals split their pages is known at the barrier alone. Until then a segment is a list of moments whose
-- archivals have empty lists, and all that is said of it is said for every way to fill them in.
use Rattle.std.specs.Prelude.{ℕ, ◌<◌, ◌≤◌, ◌≡◌, ◌+◌, List, [], ◌∷◌, ◌++◌, map, slice_index_or, Bool, true, false}
use Rattle.trace_format.specs.declared.Line.{Line}
use Rattle.trace_format.specs.declared.What.{What}
use Rattle.trace_format.specs.declared.What.TheVariants as what
use Rattle.trace_format.specs.Sound.{is_archived}
use Rattle.report_text.specs.declared.Item.{Item}
use Rattle.report_text.specs.declared.Item.TheVariants as item
use Rattle.router_account.specs.Ledger.{Split}
use Rattle.router_account.specs.Sights.{page_no}
use Rattle.trace_history.specs.History.{Event, recorded, rotated, archived, watched, ticked, History, clock}
use Rattle.trace_history.specs.Receipts.{is_barrier}
use Rattle.trace_history.specs.Report.{watch_item}
use Rattle.trace_history.specs.Routers.{router_id}
pub use Rattle.trace_workers.specs.Records.{no_line}
use Rattle.trace_replay.specs.declared.state.Answer.{Answer}
use Rattle.trace_replay.specs.declared.state.Answer.TheVariants.{Entered, Opened, Archived, Watched}

-- how the archival of each router splits its pages
abbrev pub Splits : Type 0
Splits = (router : ℕ) → Split

abbrev pub with_split : Splits → Event → Event
with_split f (archived r put kept) = archived r (f r).put (f r).kept
with_split f event = event

-- a history with the moments of a segment, filled in
abbrev pub filled : Splits → (seg history : History) → History
filled f [] history = history
filled f (moment ∷ seg) history = record { line = moment.line; event = with_split f moment.event } ∷ filled f seg history

-- no moment is a barrier
abbrev pub AreInner : History → Type 0
AreInner [] = Unit {0}
AreInner (moment ∷ seg) = AreInner seg × (is_barrier moment.event ≡ false)

-- a history is empty or ends with a barrier
abbrev pub IsBarred : History → Type 0
IsBarred [] = Unit {0}
IsBarred (moment ∷ history) = is_barrier moment.event ≡ true

-- no tick sets the clock back
abbrev pub IsForward : Event → (clock : ℕ) → Type 0
IsForward (ticked time left) clock = clock ≤ time
IsForward _ clock = Unit {0}

abbrev pub AreForward : History → Type 0
AreForward [] = Unit {0}
AreForward (moment ∷ history) = AreForward history × IsForward moment.event (clock history)

-- the routers that are archived in a segment, and that each is once
abbrev pub archived_by : Event → List ℕ → List ℕ
archived_by (archived r put kept) earlier = r ∷ earlier
archived_by _ earlier = earlier

abbrev pub archived_in : History → List ℕ
archived_in [] = []
archived_in (moment ∷ seg) = archived_by moment.event (archived_in seg)

abbrev pub IsFirst : (routers : ℕ) → Event → List ℕ → Type 0
IsFirst routers (archived r put kept) earlier = (is_archived earlier r ≡ false) × (r < routers)
IsFirst routers _ earlier = Unit {0}

abbrev pub AreOnce : (routers : ℕ) → History → Type 0
AreOnce routers [] = Unit {0}
AreOnce routers (moment ∷ seg) = AreOnce routers seg × IsFirst routers moment.event (archived_in seg)

-- how many moments put a packet into a page
abbrev pub count_by : Event → ℕ
count_by (recorded hop page) = 1
count_by _ = 0

abbrev pub record_count : History → ℕ
record_count [] = 0
record_count (moment ∷ history) = record_count history + count_by moment.event

-- ---- lines

abbrev pub is_barrier_line : What → Bool
is_barrier_line (what.Tick time) = true
is_barrier_line (what.Query router packet time) = true
is_barrier_line what.End = true
is_barrier_line _ = false

-- the number of the line at a place
abbrev pub number_at : List Line → (place : ℕ) → ℕ
number_at lines place = (slice_index_or lines place no_line).number

-- ---- the answers that are not printed yet

-- what a line was answered, but for how an archival splits its pages
pub record Pending : Type 0 where
  pub line : ℕ
  pub answer : Answer

-- answers to the lines from a place on
abbrev pub numbered : List Line → (place : ℕ) → List Answer → List Pending
numbered lines place [] = []
numbered lines place (answer ∷ answers) = record { line = number_at lines place; answer = answer } ∷ numbered lines (place + 1) answers

abbrev pub answer_of : Event → Answer
answer_of (recorded hop page) = Entered (page_no page)
answer_of (rotated r page) = Opened (page_no page)
answer_of (archived r put kept) = Archived (router_id r)
answer_of (watched r sig answer) = Watched answer
answer_of _ = Entered (page_no 0)

abbrev pub pending_of : History → List Pending
pending_of [] = []
pending_of (moment ∷ seg) = pending_of seg ++ record { line = moment.line; answer = answer_of moment.event } ∷ []

abbrev pub item_by : Splits → (line : ℕ) → Answer → Item
item_by f line (Entered page) = item.Entered line page
item_by f line (Opened page) = item.Opened line page
item_by f line (Archived router) = item.Archived line router (map page_no (f router.number).put) (map page_no (f router.number).kept)
item_by f line (Watched answer) = watch_item line answer

abbrev pub pending_items : Splits → List Pending → List Item
pending_items f pending = map (λ x. item_by f x.line x.answer) pending
