-- What a replay by W workers answers, with the yard that it fills. Read `IsReplayedBy` first, at the end.
use Rattle.std.specs.Prelude.{ℕ, ◌+◌, ◌%◌, ◌<◌, ◌≡◌, ◌==◌, List, [], ◌∷◌, ◌++◌, length, slice_get, Some, if◌then◌else◌, Bool, true, false}
use Rattle.std.specs.List.{flat_map}
use Rattle.spie_base.specs.Shapes.{shape_of}
use Rattle.spie_base.specs.declared.Entry.{Entry}
use Rattle.spie_base.specs.declared.PageShape.{PageShape}
use Rattle.trace_format.specs.declared.Trace.{Trace}
use Rattle.router_account.specs.Account.{below}
use Rattle.trace_history.specs.declared.totals.Totals.{Totals}
use Rattle.trace_history.specs.History.{History}
use Rattle.trace_history.specs.Receipts.{Receipt, receipts, segment, is_barrier, IsLegal, IsSequential}
use Rattle.trace_history.specs.Replay.{ReplayViews, IsPossible, IsReportOf}
use Rattle.trace_history.specs.Routers.{RouterRules, count, rules_of}
use Rattle.trace_history.specs.Watched.{AreSequentialWatches, AreBetweenWatches}

-- the entry of a record, where it is this router's
abbrev pub entry_by : (router : ℕ) → Receipt → List Entry
entry_by r x = if x.hop.router == r then record { page = record { number = x.page }; sig = x.hop.sig } ∷ [] else []

-- of a segment's records, the first of which has number `from`, a router's entries by one of W workers, in line order:
-- record number j goes to worker j % W
abbrev pub share_of : (W worker router from : ℕ) → List Receipt → List Entry
share_of W worker r from [] = []
share_of W worker r from (x ∷ xs) = (if from % W == worker then entry_by r x else []) ++ share_of W worker r (from + 1) xs

-- what the workers of a segment recorded at a router, worker by worker
abbrev pub worked : (W router : ℕ) → (seg : History) → List Entry
worked W r seg = flat_map (λ worker. share_of W worker r 0 (receipts seg)) (below W)

-- the entries of a router's agent, segment by segment
abbrev pub gathered : (W router : ℕ) → History → List Entry
gathered W r [] = []
gathered W r (moment ∷ history) = gathered W r history ++ (if is_barrier moment.event then worked W r (segment history) else [])

-- a router's pages as a replay leaves them: their shape, the entries in the order in which they were gathered, and how many
-- passes are out
pub record YardView : Type 0 where
  pub shape : PageShape
  pub entries : List Entry
  pub out : ℕ

-- a yard has one of them for each router of the trace, and no other; no pass is out
pub record IsYardOf (W : ℕ) (t : Trace) (history : History) (yard : List YardView) : Type 0 where
  pub size : length yard ≡ count t
  pub each : (r : ℕ) → r < count t → slice_get yard r ≡ Some (record { shape = shape_of (rules_of t r) r; entries = gathered W r history; out = 0 })

-- one worker does the lines one after another; with several each watch is answered between its segment's start and end
abbrev pub AreAnswered : (alone : Bool) → RouterRules → History → Type 0
AreAnswered true rules history = IsSequential rules history × AreSequentialWatches rules history
AreAnswered false rules history = AreBetweenWatches rules history

-- some history of the trace's lines, with what W workers and a shelf may have done, has this report and leaves this yard
pub record IsReplayedBy (W : ℕ) (t : Trace) (text : List ℕ) (totals : Totals) (views : ReplayViews) (yard : List YardView) : Type 0 where
  pub history : History
  pub legal : IsLegal W (rules_of t) history
  pub answered : AreAnswered (W == 1) (rules_of t) history
  pub done : IsPossible t t.lines views.shelf_before views.shelf_after history
  pub report : IsReportOf t history text totals
  pub yard_is : IsYardOf W t history yard
