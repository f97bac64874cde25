-- Segments, and the pages that records may enter.
use Rattle.std.specs.Prelude.{ℕ, ◌+◌, ◌%◌, ◌<◌, ◌≤◌, ◌≡◌, List, [], ◌∷◌, ◌++◌, length, Bool, true, false, ◌==◌, IsTrue, if◌then◌else◌, slice_get, Some}
use Rattle.std.specs.List.{Contains}
use Rattle.page_catalogue.specs.Pages.{open_page}
use Rattle.trace_history.specs.Routers.{RouterRules}
use Rattle.trace_history.specs.History.{Event, recorded, rotated, ticked, queried, ended, History, Hop, account}

-- a tick, a query and the end are barriers
abbrev pub is_barrier : Event → Bool
is_barrier (ticked time left) = true
is_barrier (queried query left) = true
is_barrier (ended left) = true
is_barrier _ = false

-- the moments since the last barrier, and the history up to it
abbrev pub segment : History → History
segment [] = []
segment (moment ∷ history) = if is_barrier moment.event then [] else moment ∷ segment history

abbrev pub up_to_barrier : History → History
up_to_barrier [] = []
up_to_barrier (moment ∷ history) = if is_barrier moment.event then moment ∷ history else up_to_barrier history

-- the page of a router that is open behind a history
abbrev pub open_at : RouterRules → (router : ℕ) → History → ℕ
open_at rules router history = open_page (account rules router history).closings

-- a record and the page that it entered, which is its receipt
pub record Receipt : Type 0 where
  pub hop : Hop
  pub page : ℕ

abbrev pub receipt_by : Event → List Receipt
receipt_by (recorded hop page) = record { hop = hop; page = page } ∷ []
receipt_by _ = []

-- the receipts of a segment in the order of their lines
abbrev pub receipts : History → List Receipt
receipts [] = []
receipts (moment ∷ history) = receipts history ++ receipt_by moment.event

abbrev pub opened_by : (router : ℕ) → Event → List ℕ
opened_by r (rotated router page) = if router == r then page ∷ [] else []
opened_by r _ = []

-- the pages of a router that rotations opened in a segment, in order
abbrev pub openings : (router : ℕ) → History → List ℕ
openings r [] = []
openings r (moment ∷ history) = openings r history ++ opened_by r moment.event

-- what the receipts of a router may be in a segment that began with page a open, where W workers took the records in turn
pub record IsLegalFor (W router a : ℕ) (seg : History) : Type 0 where
  pub within : (x : Receipt) → Contains (receipts seg) x → x.hop.router ≡ router → (a ≤ x.page) × (x.page ≤ a + length (openings router seg))
  pub counted : (i page : ℕ) → slice_get (openings router seg) i ≡ Some page → page ≡ a + (i + 1)
  pub rising : (i j : ℕ) (x y : Receipt) → i < j → i % W ≡ j % W → slice_get (receipts seg) i ≡ Some x → slice_get (receipts seg) j ≡ Some y → x.hop.router ≡ router → y.hop.router ≡ router → x.page ≤ y.page

-- the receipts of each segment that has ended are such
abbrev pub IsLegal : (W : ℕ) → RouterRules → History → Type 0
IsLegal W rules [] = Unit {0}
IsLegal W rules (moment ∷ history) =
    IsLegal W rules history × (IsTrue (is_barrier moment.event) → (router : ℕ) → IsLegalFor W router (open_at rules router (up_to_barrier history)) (segment history))

-- a record is in the page that is open at its line, and a rotation opens the next
abbrev pub IsInTurn : RouterRules → History → Event → Type 0
IsInTurn rules history (recorded hop page) = page ≡ open_at rules hop.router history
IsInTurn rules history (rotated router page) = page ≡ open_at rules router history + 1
IsInTurn rules history _ = Unit {0}

-- the receipts of one worker, which does the lines one after another
abbrev pub IsSequential : RouterRules → History → Type 0
IsSequential rules [] = Unit {0}
IsSequential rules (moment ∷ history) = IsSequential rules history × IsInTurn rules history moment.event
