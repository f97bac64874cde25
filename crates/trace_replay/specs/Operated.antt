-- A segment that workers and an operator do beside one another: the operator's moments alone, and what the workers'
-- records add to them.
use Rattle.std.specs.Prelude.{ℕ, ◌≡◌, ◌⊎◌, List, [], ◌∷◌, ◌++◌, Bool, true, false, ◌==◌, if◌then◌else◌}
use Rattle.std.specs.List.{Contains, flat_map}
use Rattle.spie_base.specs.declared.Entry.{Entry}
use Rattle.spie_base.specs.declared.Rules.{Rules}
use Rattle.spie_base.specs.declared.Sig.{Sig}
use Rattle.router_account.specs.declared.Watch.{Watch}
use Rattle.router_account.specs.declared.Watch.TheVariants.{Seen, NotSeen, Unknown}
use Rattle.router_account.specs.Account.{RowIn, window}
use Rattle.router_account.specs.Ledger.{Ledger}
use Rattle.router_account.specs.Watches.{is_missing_now, misses, shows, is_shown}
use Rattle.trace_history.specs.History.{Event, recorded, watched, History, rows_after, clock}
use Rattle.trace_history.specs.Ledgers.{ledger}
use Rattle.trace_history.specs.Receipts.{Receipt, IsInTurn}
use Rattle.trace_history.specs.Routers.{RouterRules}
use Rattle.trace_replay.specs.Segments.{Splits, with_split, filled}

abbrev pub is_record : Event → Bool
is_record (recorded hop page) = true
is_record _ = false

-- the operator's moments of a segment
abbrev pub operated : History → History
operated [] = []
operated (moment ∷ seg) = if is_record moment.event then operated seg else moment ∷ operated seg

-- the row of a record, where it is this router's
abbrev pub row_by : (router : ℕ) → Receipt → List RowIn
row_by r x = if x.hop.router == r then rows_after [] x.page x.hop.sig x.hop.origin else []

-- what records add to a router's rows, in line order
abbrev pub rows_at : (router : ℕ) → List Receipt → List RowIn
rows_at r xs = flat_map (row_by r) xs

-- a ledger with more entries and rows
abbrev pub with_records : Ledger → List Entry → List RowIn → Ledger
with_records l entries rows =
    record l { account = record l.account { entries = l.account.entries ++ entries; rows = l.account.rows ++ rows } }

-- none of a segment's moments is a record
abbrev pub AreOperations : History → Type 0
AreOperations [] = Unit {0}
AreOperations (moment ∷ ops) = AreOperations ops × (is_record moment.event ≡ false)

-- each rotation of the operator opens the next page
abbrev pub AreTurns : RouterRules → Splits → (history ops : History) → Type 0
AreTurns rules f history [] = Unit {0}
AreTurns rules f history (moment ∷ ops) =
    AreTurns rules f history ops × IsInTurn rules (filled f ops history) (with_split f moment.event)

-- what a watch beside workers was answered, by an agent that read in its pages that a signature is there: by what it stood
-- for then, and where a page showed the signature by that or was read so
abbrev pub IsAnsweredBy : (reads : (page : ℕ) → Sig → Type 0) → Rules → Ledger → (clock : ℕ) → Sig → Watch → Type 0
IsAnsweredBy reads rules l clock sig Seen =
    (page : ℕ) × Contains (window rules l.account clock) page × (is_missing_now rules l page ≡ false)
    × ((shows rules l.account sig page ≡ true) ⊎ reads page sig)
IsAnsweredBy reads rules l clock sig Unknown =
    (misses rules l clock ≡ true) × (is_shown rules l l.account clock sig ≡ false)
IsAnsweredBy reads rules l clock sig NotSeen =
    (misses rules l clock ≡ false) × (is_shown rules l l.account clock sig ≡ false)

abbrev pub IsWatchedBy : (reads : (router page : ℕ) → Sig → Type 0) → RouterRules → (clock : ℕ) → (before : History)
    → Event → Type 0
IsWatchedBy reads rules clock before (watched r sig answer) =
    IsAnsweredBy (reads r) (rules r) (ledger rules r before) clock sig answer
IsWatchedBy reads rules clock before _ = Unit {0}

-- each watch of the operator
abbrev pub AreWatchedBy : (reads : (router page : ℕ) → Sig → Type 0) → RouterRules → Splits → (history ops : History)
    → Type 0
AreWatchedBy reads rules f history [] = Unit {0}
AreWatchedBy reads rules f history (moment ∷ ops) =
    AreWatchedBy reads rules f history ops × IsWatchedBy reads rules (clock history) (filled f ops history) moment.event
