-- What a query sees of each router, where a replay stops at the query.
use Rattle.std.specs.Prelude.{ℕ, ◌<◌, ◌≡◌, ◌↔◌, List, ◌∷◌, ◌++◌, length, map, slice_index_or, ◌==◌, if◌then◌else◌, Option, Some, None, is_some, true}
use Rattle.std.specs.List.{Contains}
use Rattle.spie_base.specs.Shown.{Shown}
use Rattle.spie_base.specs.declared.Sig.{Sig}
use Rattle.trace_format.specs.declared.Line.{Line}
use Rattle.trace_format.specs.declared.Trace.{Trace}
use Rattle.trace_format.specs.declared.What.{What}
use Rattle.trace_format.specs.declared.What.TheVariants.{Query}
use Rattle.router_account.specs.Account.{hit, origins}
use Rattle.router_account.specs.Sights.{page_no, range_of, unreadable_of}
use Rattle.data_agent.specs.Calls.{Told}
use Rattle.trace_history.specs.History.{queried, History, QueryRun}
use Rattle.trace_history.specs.Receipts.{IsSequential}
use Rattle.trace_history.specs.Replay.{ReplayViews, IsPossible}
use Rattle.trace_history.specs.Routers.{RouterRules, count, rules_of}
use Rattle.trace_history.specs.Routes.{used_at, expired_at}
use Rattle.trace_history.specs.Sights.{sight_at}
use Rattle.trace_history.specs.Watched.{AreSequentialWatches}

-- the time that a query asks for
abbrev pub query_time : What → Option ℕ
query_time (Query router packet time) = Some time
query_time _ = None

-- and that a line asks for, where it has this number and is a query
abbrev pub time_at : (line : ℕ) → Line → Option ℕ
time_at line x = if x.number == line then query_time x.what else None

-- a query is among some lines, by its line's number
pub record HasQuery (lines : List Line) (line : ℕ) : Type 0 where
  pub query : Line
  pub there : Contains lines query
  pub number_is : query.number ≡ line
  pub asks : is_some (query_time query.what) ≡ true

-- a history, and the query behind it
abbrev pub asked : (line : ℕ) → QueryRun → (left : ℕ → List ℕ) → (before : History) → History
asked line query left before = record { line = line; event = queried query left } ∷ before

-- a router's sight is what a query sees of it, by the history that ends with the query
pub record IsSightAt (rules : RouterRules) (history : History) (query : QueryRun) (r : ℕ) (shown : Shown) (told : Told) : Type 0 where
  pub hit : (sig : Sig) → shown.hit sig ≡ hit (rules r) (sight_at rules history query r) sig
  pub origins : (sig old : Sig) → Contains (shown.origins sig) old ↔ Contains (origins (sight_at rules history query r) sig) old
  pub missing : shown.missing ≡ (sight_at rules history query r).missing
  pub expired_is : told.expired ≡ range_of (expired_at rules history query r)
  pub unreadable_is : told.unreadable ≡ map unreadable_of (query.reads r).unread
  pub used_is : told.used ≡ map page_no (used_at rules history query r)
  pub reading_is : told.reading ≡ query.reads r

-- some history of a trace's lines up to a query, with the receipts and watches of one worker and what a shelf may have
-- done, ends with that query, and these are the sights of all routers then
pub record AreSights {S : Type 0} (shown : S → Shown) (told : S → Told) (t : Trace) (line : ℕ) (sights : List S) (views : ReplayViews) : Type 0 where
  pub upto : List Line
  pub later : List Line
  pub lines_are : t.lines ≡ upto ++ later
  pub before : History
  pub query : QueryRun
  pub left : ℕ → List ℕ
  pub sequential : IsSequential (rules_of t) (asked line query left before)
  pub watched : AreSequentialWatches (rules_of t) (asked line query left before)
  pub done : IsPossible t upto views.shelf_before views.shelf_after (asked line query left before)
  pub count_is : length sights ≡ count t
  pub each : (r : ℕ) (d : S) → r < count t
      → IsSightAt (rules_of t) (asked line query left before) query r (shown (slice_index_or sights r d)) (told (slice_index_or sights r d))
