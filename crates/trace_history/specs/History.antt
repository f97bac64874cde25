-- What happened at the lines of a trace.
--
-- A history is the list of a trace's lines so far with what each was answered, the latest first. What
-- stands before a line is the rest of the list behind it, so each definition is a recursion on it.
use Rattle.std.specs.Prelude.{ℕ, ◌≡◌, List, [], ◌∷◌, ◌++◌, ◌==◌, if◌then◌else◌, slice_get, Some}
use Rattle.spie_base.specs.declared.Rules.{Rules}
use Rattle.spie_base.specs.declared.Sig.{Sig}
use Rattle.packet_signature.specs.declared.Kind.{Kind}
use Rattle.packet_signature.specs.Row.{row_of}
use Rattle.trace_format.specs.declared.Line.{Line}
use Rattle.trace_format.specs.declared.What.{What}
use Rattle.trace_format.specs.declared.What.TheVariants.{Fwd, Xf, Rotate, Archive, Watch, Tick, Query, End}
use Rattle.router_account.specs.declared.Watch.{Watch as WatchAnswer}
use Rattle.router_account.specs.Account.{Account, RowIn, first_account, with_closing, after_tick}
use Rattle.router_account.specs.Shelves.{ShelfView}
use Rattle.router_account.specs.Sights.{Reading}
use Rattle.trace_history.specs.Routers.{RouterRules}

-- a packet left a router as it came, or in place of an old one
pub data Origin : Type 0 where
  same : Origin
  changed : Kind → Sig → Origin

-- what a router recorded of a packet as it left
pub record Hop : Type 0 where
  pub router : ℕ
  pub sig : Sig
  pub origin : Origin

-- a query: where it starts, for what time, what was read of each router's shelved pages, and the shelf before and after
-- they were read
pub record QueryRun : Type 0 where
  pub router : ℕ
  pub sig : Sig
  pub time : ℕ
  pub reads : (router : ℕ) → Reading
  pub shelf_before : ShelfView
  pub shelf_after : ShelfView

-- what a line asked for, and what it was answered: the page that a record entered or that a rotation opened,
-- the pages that an archival put and kept, a watch's answer, and the expired pages of each router that a barrier
-- could not discard from the shelf
pub data Event : Type 0 where
  recorded : Hop → (page : ℕ) → Event
  rotated : (router page : ℕ) → Event
  archived : (router : ℕ) → (put kept : List ℕ) → Event
  watched : (router : ℕ) → Sig → WatchAnswer → Event
  ticked : (time : ℕ) → (left : ℕ → List ℕ) → Event
  queried : QueryRun → (left : ℕ → List ℕ) → Event
  ended : (left : ℕ → List ℕ) → Event

-- a line, by its number, and what happened at it
pub record Moment : Type 0 where
  pub line : ℕ
  pub event : Event

abbrev pub History : Type 0
History = List Moment

abbrev pub clock_after : Event → ℕ → ℕ
clock_after (ticked time left) clock = time
clock_after _ clock = clock

-- the time of the last tick, or 0
abbrev pub clock : History → ℕ
clock [] = 0
clock (moment ∷ history) = clock_after moment.event (clock history)

abbrev pub rows_after : List RowIn → (page : ℕ) → Sig → Origin → List RowIn
rows_after rows page sig same = rows
rows_after rows page sig (changed kind old) = rows ++ record { page = page; row = row_of kind old sig } ∷ []

abbrev pub with_hop : Account → Hop → (page : ℕ) → Account
with_hop a hop page = record a {
  entries = a.entries ++ record { page = record { number = page }; sig = hop.sig } ∷ [];
  rows = rows_after a.rows page hop.sig hop.origin;
}

-- a router's account after one more event, which happened at this clock
abbrev pub account_after : Rules → Event → (clock : ℕ) → Account → Account
account_after rules (recorded hop page) clock a = if hop.router == a.router then with_hop a hop page else a
account_after rules (rotated router page) clock a = if router == a.router then with_closing a clock else a
account_after rules (ticked time left) clock a = after_tick rules a time
account_after rules _ clock a = a

-- a router's account after a history
abbrev pub account : RouterRules → (router : ℕ) → History → Account
account rules router [] = first_account router
account rules router (moment ∷ history) = account_after (rules router) moment.event (clock history) (account rules router history)

-- a packet of a trace has this signature
abbrev pub HasSig : List Sig → (packet : ℕ) → Sig → Type 0
HasSig sigs packet sig = slice_get sigs packet ≡ Some sig

abbrev pub IsChange : List Sig → Kind → (old : ℕ) → Origin → Type 0
IsChange sigs kind old same = ⊥
IsChange sigs kind old (changed k sig) = (k ≡ kind) × HasSig sigs old sig

-- what a line asks for happened
abbrev pub IsEventOf : List Sig → What → Event → Type 0
IsEventOf sigs (Fwd router packet) (recorded hop page) = (hop.router ≡ router.number) × HasSig sigs packet hop.sig × (hop.origin ≡ same)
IsEventOf sigs (Xf router kind old new) (recorded hop page) = (hop.router ≡ router.number) × HasSig sigs new hop.sig × IsChange sigs kind old hop.origin
IsEventOf sigs (Rotate router) (rotated r page) = r ≡ router.number
IsEventOf sigs (Archive router) (archived r put kept) = r ≡ router.number
IsEventOf sigs (Watch router packet) (watched r sig answer) = (r ≡ router.number) × HasSig sigs packet sig
IsEventOf sigs (Tick time) (ticked t left) = t ≡ time
IsEventOf sigs (Query router packet time) (queried query left) = (query.router ≡ router.number) × HasSig sigs packet query.sig × (query.time ≡ time)
IsEventOf sigs End (ended left) = Unit {0}
IsEventOf sigs _ _ = ⊥

-- a history is that of these lines
abbrev pub IsHistoryOf : List Sig → List Line → History → Type 0
IsHistoryOf sigs lines [] = lines ≡ []
IsHistoryOf sigs lines (moment ∷ history) =
    (before : List Line) × (last : Line) × (lines ≡ before ++ last ∷ []) × (moment.line ≡ last.number) × IsEventOf sigs last.what moment.event
    × IsHistoryOf sigs before history
