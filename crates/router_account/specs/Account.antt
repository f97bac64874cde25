-- What is known of one router: what was recorded in its pages, its transforms, and when its pages closed.
use Rattle.std.specs.Prelude.{ℕ, ◌+◌, List, [], ◌∷◌, ◌++◌, filter, map, length, Bool, ◌==◌, if◌then◌else◌}
use Rattle.std.specs.List.{range_with_len}
use Rattle.spie_base.specs.Shapes.{shape_of}
use Rattle.spie_base.specs.declared.Entry.{Entry}
use Rattle.spie_base.specs.declared.Rules.{Rules}
use Rattle.spie_base.specs.declared.Sig.{Sig}
use Rattle.hash_family.specs.Entries.{is_marked}
use Rattle.hash_family.specs.Positions.{marks_of}
use Rattle.bloom_page.specs.Sets.{PageSet, set_of}
use Rattle.packet_signature.specs.declared.Row.{Row}
use Rattle.used_pages.specs.UsedPages.{Held, UsedPage, is_hit, origins_of}
use Rattle.page_catalogue.specs.Pages.{open_page, is_due, is_in_window}

-- a transform, and the page in which its packet was recorded
pub record RowIn : Type 0 where
  pub page : ℕ
  pub row : Row

-- entries and rows in the order of their lines, and the times at which pages closed
pub record Account : Type 0 where
  pub router : ℕ
  pub entries : List Entry
  pub rows : List RowIn
  pub closings : List ℕ

-- a router of which nothing is known yet
abbrev pub first_account : (router : ℕ) → Account
first_account router = record { router = router; entries = []; rows = []; closings = [] }

-- ---- what a page holds

abbrev pub marks : Rules → (router page : ℕ) → Sig → List ℕ
marks rules router page sig = marks_of (shape_of rules router) page sig

-- the union of the marks of a page's entries
abbrev pub page_set : Rules → Account → (page : ℕ) → PageSet
page_set rules a page = set_of rules.n (is_marked (shape_of rules a.router) a.entries page)

-- its positions, ascending
abbrev pub bits : Rules → Account → (page : ℕ) → List ℕ
bits rules a page = (page_set rules a page).members

-- how many bits of a page are set
abbrev pub fill : Rules → Account → (page : ℕ) → ℕ
fill rules a page = length (bits rules a page)

-- a page's transforms, in the order of their lines
unfoldable pub rows_in : List RowIn → (page : ℕ) → List Row
rows_in rows page = map (λ entry. entry.row) (filter (λ entry. entry.page == page) rows)

abbrev pub held : Rules → Account → (page : ℕ) → Held
held rules a page = record { bits = bits rules a page; rows = rows_in a.rows page }

-- ---- windows

-- the numbers below a bound, ascending
abbrev pub below : ℕ → List ℕ
below bound = range_with_len 0 bound

-- the pages of the window of a time
abbrev pub window : Rules → Account → (time : ℕ) → List ℕ
window rules a time = filter (is_in_window rules a.closings time) (below (open_page a.closings + 1))

-- ---- what a query sees

-- what a query sees of a router: the pages that it uses, and whether a page of its window is missing
pub record Sight : Type 0 where
  pub router : ℕ
  pub used : List UsedPage
  pub missing : Bool

-- whether one of the pages has all marks of a signature
abbrev pub hit : Rules → Sight → Sig → Bool
hit rules sight sig = is_hit (shape_of rules sight.router) sight.used sig

-- the signatures that a packet may have had before this router
abbrev pub origins : Sight → Sig → List Sig
origins sight sig = origins_of sight.used sig

-- ---- an account after one thing more

abbrev pub with_entry : Account → (page : ℕ) → Sig → Account
with_entry a page sig = record a { entries = a.entries ++ record { page = record { number = page }; sig = sig } ∷ [] }

abbrev pub with_row : Account → (page : ℕ) → Row → Account
with_row a page row = record a { rows = a.rows ++ record { page = page; row = row } ∷ [] }

-- the open page closes at this time
abbrev pub with_closing : Account → (time : ℕ) → Account
with_closing a time = record a { closings = a.closings ++ time ∷ [] }

-- a tick closes the open page where it is due
abbrev pub after_tick : Rules → Account → (time : ℕ) → Account
after_tick rules a time = if is_due rules a.closings time (fill rules a (open_page a.closings)) then with_closing a time else a
