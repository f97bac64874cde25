-- What a history says of the report of a replay, and of its shelf. `Workers` has the replay itself.
use Rattle.std.specs.Prelude.{◌≡◌, ◌<◌, ◌-◌, ◌^◌, ℕ, List, true}
use Rattle.std.specs.List.{Contains}
use Rattle.page_shelf.specs.Shelves.{ChangesOnly}
use Rattle.page_shelf.specs.declared.ShelfName.{ShelfName}
use Rattle.report_text.specs.declared.Item.{Item}
use Rattle.trace_format.specs.declared.Line.{Line}
use Rattle.trace_format.specs.declared.Trace.{Trace}
use Rattle.router_account.specs.Records.{Holds}
use Rattle.router_account.specs.Shelves.{ShelfView}
use Rattle.trace_history.specs.declared.totals.Totals.{Totals}
use Rattle.trace_history.specs.History.{History, IsHistoryOf}
use Rattle.trace_history.specs.Ledgers.{covers, ledger}
use Rattle.trace_history.specs.Outcomes.{IsAllowed, EachQuery, HasSameDigests, IsReadQuery, IsTrueQuery, HasOnlyFaults, ArePaid, AreReadDuring}
use Rattle.trace_history.specs.Report.{AreItemsOf, text_of, totals_of}
use Rattle.trace_history.specs.Routers.{count, rules_of}

-- what a replay is seen to have done beside its report: the shelf before it and after it
pub record ReplayViews : Type 0 where
  pub shelf_before : ShelfView
  pub shelf_after : ShelfView

-- the shelf tells what stands there, and none of its calls failed: its count of faults stays, below the counter's end
pub record IsFaultlessShelf (views : ReplayViews) : Type 0 where
  pub tells : views.shelf_before.tells ≡ true
  pub faultless : views.shelf_after.faults ≡ views.shelf_before.faults
  pub few : views.shelf_before.faults < 2 ^ 64 - 1

-- the name of a record of a page that an archival covered, at one of so many routers
pub record IsCoveredName (routers : ℕ) (history : History) (name : ShelfName) : Type 0 where
  pub router : name.router.number < routers
  pub page : Contains (covers name.router.number history) name.page.number

-- what a history says of the shelf. For each page that was kept, left, or failed to be read a call of it failed, and
-- each query read it between the replay's start and its end. Where it tells what stands there: all that was read back
-- is what was recorded, nothing but its faults made pages unreadable, and it holds the true records of the pages that
-- were put and have not expired, and no name of the others that were covered and not left. Each name that is none of a
-- covered page has what it had before
pub record IsShelfOf (t : Trace) (before after : ShelfView) (history : History) : Type 0 where
  pub paid : ArePaid (count t) history before.faults after.faults
  pub during : AreReadDuring (count t) before after history
  pub all_true : before.tells ≡ true → EachQuery (IsTrueQuery (count t) (rules_of t)) history
  pub only_faults : before.tells ≡ true → EachQuery (HasOnlyFaults (count t)) history
  pub holds : before.tells ≡ true → (r : ℕ) → r < count t → Holds (rules_of t r) after.contents (ledger (rules_of t) r history)
  pub untouched : before.tells ≡ true → ChangesOnly (IsCoveredName (count t) history) before.contents after.contents

-- a history of these lines, with what a shelf may have done
pub record IsPossible (t : Trace) (lines : List Line) (before after : ShelfView) (history : History) : Type 0 where
  pub lines_are : IsHistoryOf t.sigs lines history
  pub allowed : IsAllowed (count t) (rules_of t) history
  pub same_digests : EachQuery (HasSameDigests (count t) (rules_of t)) history
  pub read : EachQuery (IsReadQuery (count t) (rules_of t)) history
  pub shelf : IsShelfOf t before after history

-- the report of a history, and the sums over it
pub record IsReportOf (t : Trace) (history : History) (text : List ℕ) (totals : Totals) : Type 0 where
  pub items : List Item
  pub answered : AreItemsOf t history items
  pub text_is : text ≡ text_of t items
  pub totals_are : totals ≡ totals_of items
