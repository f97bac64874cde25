-- What the expiry of pages does. No public clause cites this module.
use Rattle.std.specs.Prelude.{ℕ, ◌≡◌, ◌≤◌, ◌<◌, ◌-◌, ◌++◌, Bool, true, false, List, length, map, slice_get, Option, None, Some}
use Rattle.std.specs.List.{Contains}
use Rattle.spie_base.specs.Causes.{RoseBy}
use Rattle.spie_base.specs.declared.PageNo.{PageNo}
use Rattle.spie_base.specs.declared.Rules.{Rules}
use Rattle.page_shelf.specs.Shelves.{ChangesOnly}
use Rattle.page_shelf.specs.declared.ShelfName.{ShelfName}
use Rattle.page_shelf.specs.declared.ShelfPart.{ShelfPart}
use Rattle.router_account.specs.Barriers.{AreLeft, AreRising}
use Rattle.router_account.specs.Ledger.{Ledger}
use Rattle.router_account.specs.Records.{Holds, KeepsOthers, name_of}
use Rattle.router_account.specs.Shelves.{ShelfView}
use Rattle.shelved_page.specs.Shelving.{count_if}
use Rattle.data_agent.specs.declared.closed_page.ClosedPage.{ClosedPage}
use Rattle.data_agent.specs.Calls.{IsExpiring, number_of}

-- whether an archival covered a page, by the closed pages, of which the first has this number
abbrev pub is_covered_in : Option ClosedPage → Bool
is_covered_in None = false
is_covered_in (Some c) = c.covered

abbrev pub covers_at : (first : ℕ) → List ClosedPage → (page : ℕ) → Bool
covers_at first closed page = is_covered_in (slice_get closed (page - first))

-- what became of the records of one page
pub record DiscardsOne (router page : ℕ) (covered left : Bool) (before after : ShelfView) : Type 0 where
  pub covers : left ≡ true → covered ≡ true
  pub still : after.tells ≡ before.tells
  pub rose : RoseBy (count_if left) before.faults after.faults
  pub away : before.tells ≡ true → covered ≡ true → left ≡ false → (part : ShelfPart)
      → after.contents (name_of router page part) ≡ None
  pub others : before.tells ≡ true → (name : ShelfName)
      → (covered ≡ true → (part : ShelfPart) → name ≡ name_of router page part → ⊥)
      → after.contents name ≡ before.contents name

-- and of those of the pages from the first one on, and before another
pub record Discards (router : ℕ) (covers : ℕ → Bool) (first bound : ℕ) (left : List PageNo) (before after : ShelfView)
    : Type 0 where
  pub rising : AreRising (map number_of left)
  pub from : (page : ℕ) → Contains (map number_of left) page → first ≤ page
  pub to : (page : ℕ) → Contains (map number_of left) page → page < bound
  pub covered : (page : ℕ) → Contains (map number_of left) page → covers page ≡ true
  pub still : after.tells ≡ before.tells
  pub rose : RoseBy (length (map number_of left)) before.faults after.faults
  pub away : before.tells ≡ true → (page : ℕ) → first ≤ page → page < bound → covers page ≡ true
      → (Contains (map number_of left) page → ⊥)
      → (part : ShelfPart) → after.contents (name_of router page part) ≡ None
  pub others : before.tells ≡ true → (name : ShelfName)
      → ((page : ℕ) (part : ShelfPart) → first ≤ page → page < bound → covers page ≡ true
      → name ≡ name_of router page part → ⊥)
      → after.contents name ≡ before.contents name

-- pages were expired at this clock, and of these a record was left
abbrev pub expired_with : Ledger → (clock : ℕ) → (left : List ℕ) → Ledger
expired_with l clock left =
    record l { closings_then = l.account.closings; clock_then = clock; left_before = left ++ l.left_before }

-- the name of a record of a page that expires
pub record IsExpiringName (rules : Rules) (before after : Ledger) (name : ShelfName) : Type 0 where
  pub router : name.router.number ≡ before.account.router
  pub page : IsExpiring rules before after name.page.number

pub record IsExpiredBy (rules : Rules) (l : Ledger) (clock : ℕ) (left : List PageNo) (before after : ShelfView)
    : Type 0 where
  pub left_are : AreLeft rules l (expired_with l clock (map number_of left)) (map number_of left)
  pub rose : RoseBy (length (map number_of left)) before.faults after.faults
  pub holds : before.tells ≡ true → Holds rules before.contents l
      → Holds rules after.contents (expired_with l clock (map number_of left))
  pub others : before.tells ≡ true → KeepsOthers l.account.router before.contents after.contents
  pub untouched : before.tells ≡ true
      → ChangesOnly (IsExpiringName rules l (expired_with l clock (map number_of left))) before.contents after.contents
