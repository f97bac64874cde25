-- What the shelf may have done: which pages an archival put or kept, which a barrier left behind, and which a
-- query could not read or read back. All is said of so many routers, those of the trace.
use Rattle.std.specs.Prelude.{ℕ, ◌+◌, ◌<◌, ◌≤◌, ◌≡◌, List, [], ◌∷◌, length}
use Rattle.spie_base.specs.Causes.{RoseBy}
use Rattle.router_account.specs.Barriers.{IsSplit, AreLeft, archive_view}
use Rattle.router_account.specs.Readings.{IsReadFrom}
use Rattle.router_account.specs.Records.{HaveDigests, AreTrue, AllFailed}
use Rattle.router_account.specs.Shelves.{ShelfView}
use Rattle.router_account.specs.Sights.{IsRead, failures}
use Rattle.trace_history.specs.History.{Event, archived, ticked, queried, ended, History, QueryRun, account}
use Rattle.trace_history.specs.Ledgers.{ledger, puts}
use Rattle.trace_history.specs.Routers.{RouterRules, sum_over}
use Rattle.trace_history.specs.Sights.{query_window}

-- an archival covers what no archival before it put, be it in this segment or in an earlier one
abbrev pub IsArchived : RouterRules → (before : History) → (router : ℕ) → (put kept : List ℕ) → Type 0
IsArchived rules before r put kept =
    let l = ledger rules r before in
    IsSplit (rules r) (record (archive_view l l.account.closings) { put_before = puts r before }) (record { put = put; kept = kept })

abbrev pub AreAllLeft : (routers : ℕ) → RouterRules → (before after : History) → (left : ℕ → List ℕ) → Type 0
AreAllLeft routers rules before after left = (r : ℕ) → r < routers → AreLeft (rules r) (ledger rules r before) (ledger rules r after) (left r)

abbrev pub AreAllRead : (routers : ℕ) → RouterRules → (after : History) → QueryRun → Type 0
AreAllRead routers rules after query =
    (r : ℕ) → r < routers → IsRead (rules r) (ledger rules r after) (query_window rules after query r) (query.reads r)

-- what an event may be answered, by the histories before it and after it
abbrev pub IsAllowedEvent : (routers : ℕ) → RouterRules → (before after : History) → Event → Type 0
IsAllowedEvent routers rules before after (archived r put kept) = IsArchived rules before r put kept
IsAllowedEvent routers rules before after (ticked time left) = AreAllLeft routers rules before after left
IsAllowedEvent routers rules before after (queried query left) = AreAllRead routers rules after query × AreAllLeft routers rules before after left
IsAllowedEvent routers rules before after (ended left) = AreAllLeft routers rules before after left
IsAllowedEvent routers rules before after _ = Unit {0}

abbrev pub IsAllowed : (routers : ℕ) → RouterRules → History → Type 0
IsAllowed routers rules [] = Unit {0}
IsAllowed routers rules (moment ∷ history) =
    IsAllowed routers rules history × IsAllowedEvent routers rules history (moment ∷ history) moment.event

-- ---- what was read back

abbrev pub IfQuery : (History → QueryRun → Type 0) → (after : History) → Event → Type 0
IfQuery P after (queried query left) = P after query
IfQuery P after _ = Unit {0}

-- what holds of each query of a history, by the history that ends with it
abbrev pub EachQuery : (History → QueryRun → Type 0) → History → Type 0
EachQuery P [] = Unit {0}
EachQuery P (moment ∷ history) = EachQuery P history × IfQuery P (moment ∷ history) moment.event

-- what was read has the digests of the true records
abbrev pub HasSameDigests : (routers : ℕ) → RouterRules → (after : History) → QueryRun → Type 0
HasSameDigests routers rules after query = (r : ℕ) → r < routers → HaveDigests (rules r) (account rules r after) (query.reads r)

-- what could not be read, and what was read, is as the shelf was when the query read it
abbrev pub IsReadQuery : (routers : ℕ) → RouterRules → (after : History) → QueryRun → Type 0
IsReadQuery routers rules after query =
    (r : ℕ) → r < routers
    → IsReadFrom (rules r) (account rules r after) query.shelf_before query.shelf_after (query.reads r)

-- what was read is what was recorded
abbrev pub IsTrueQuery : (routers : ℕ) → RouterRules → (after : History) → QueryRun → Type 0
IsTrueQuery routers rules after query = (r : ℕ) → r < routers → AreTrue (rules r) (account rules r after) (query.reads r)

-- faults of the shelf alone made pages unreadable
abbrev pub HasOnlyFaults : (routers : ℕ) → (after : History) → QueryRun → Type 0
HasOnlyFaults routers after query = (r : ℕ) → r < routers → AllFailed (query.reads r)

-- ---- faults

-- a query read the shelf between two times, and for each page that failed a call of its own failed meanwhile
pub record IsReadDuring (routers : ℕ) (start now : ShelfView) (query : QueryRun) : Type 0 where
  pub still : query.shelf_before.tells ≡ start.tells
  pub from : start.faults ≤ query.shelf_before.faults
  pub paid : RoseBy (sum_over routers (λ r. failures (query.reads r))) query.shelf_before.faults query.shelf_after.faults
  pub to : query.shelf_after.faults ≤ now.faults

abbrev pub AreReadDuring : (routers : ℕ) → (start now : ShelfView) → History → Type 0
AreReadDuring routers start now history = EachQuery (λ after query. IsReadDuring routers start now query) history

-- the kept pages, left pages and failed pages of a line: for each a call of the shelf failed
abbrev pub fault_marks_by : (routers : ℕ) → Event → ℕ
fault_marks_by routers (archived r put kept) = length kept
fault_marks_by routers (ticked time left) = sum_over routers (λ r. length (left r))
fault_marks_by routers (queried query left) = sum_over routers (λ r. length (left r)) + sum_over routers (λ r. failures (query.reads r))
fault_marks_by routers (ended left) = sum_over routers (λ r. length (left r))
fault_marks_by routers _ = 0

abbrev pub fault_marks : (routers : ℕ) → History → ℕ
fault_marks routers [] = 0
fault_marks routers (moment ∷ history) = fault_marks routers history + fault_marks_by routers moment.event

-- each mark has a failed call of its own
abbrev pub ArePaid : (routers : ℕ) → History → (before now : ℕ) → Type 0
ArePaid routers history before now = RoseBy (fault_marks routers history) before now

-- no router has a page that was left
abbrev pub AreNoneLeft : (routers : ℕ) → (left : ℕ → List ℕ) → Type 0
AreNoneLeft routers left = (r : ℕ) → r < routers → left r ≡ []

-- no page was kept or left at a line, nor was one unreadable for a fault of the shelf
abbrev pub IsFaultless : (routers : ℕ) → Event → Type 0
IsFaultless routers (archived r put kept) = kept ≡ []
IsFaultless routers (ticked time left) = AreNoneLeft routers left
IsFaultless routers (queried query left) = AreNoneLeft routers left × ((r : ℕ) → r < routers → failures (query.reads r) ≡ 0)
IsFaultless routers (ended left) = AreNoneLeft routers left
IsFaultless routers _ = Unit {0}

abbrev pub AreFaultless : (routers : ℕ) → History → Type 0
AreFaultless routers [] = Unit {0}
AreFaultless routers (moment ∷ history) = AreFaultless routers history × IsFaultless routers moment.event

-- no page of a query was unreadable
abbrev pub HasNoneUnread : (routers : ℕ) → (after : History) → QueryRun → Type 0
HasNoneUnread routers after query = (r : ℕ) → r < routers → (query.reads r).unread ≡ []
