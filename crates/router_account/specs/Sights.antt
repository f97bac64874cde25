-- What a query reads of a router, and what it sees.
use Rattle.std.specs.Prelude.{ℕ, ◌≡◌, List, [], ◌∷◌, length, Bool, true, false, not, ◌||◌, ◌==◌, ◌↔◌, filter, map, if◌then◌else◌, Some, None}
use Rattle.std.specs.List.{list_any, Contains}
use Rattle.std.specs.List.Sorted.{IsStrictlySortedBy}
use Rattle.std.specs.Ordering.{nat_cmp}
use Rattle.std.specs.declared.option.Option.{Option}
use Rattle.spie_base.specs.declared.PageNo.{PageNo}
use Rattle.spie_base.specs.declared.PageRange.{PageRange}
use Rattle.spie_base.specs.declared.Rules.{Rules}
use Rattle.router_account.specs.declared.words.Cause.{Cause}
use Rattle.router_account.specs.declared.words.Cause.TheVariants.{Failed, Other, Absent, Broken}
use Rattle.router_account.specs.declared.words.Unreadable.{Unreadable}
use Rattle.used_pages.specs.UsedPages.{Held, UsedPage}
use Rattle.router_account.specs.Account.{held, Sight}
use Rattle.router_account.specs.Ledger.{Ledger, was_expired}

-- a page that could not be read from the shelf
pub record UnreadPage : Type 0 where
  pub page : ℕ
  pub cause : Cause

-- a page that was read from the shelf, and what was read
pub record GotPage : Type 0 where
  pub page : ℕ
  pub held : Held

-- what became of the shelved pages of a query's window
pub record Reading : Type 0 where
  pub unread : List UnreadPage
  pub got : List GotPage

abbrev pub no_reading : Reading
no_reading = record { unread = []; got = [] }

abbrev pub is_unread : Reading → (page : ℕ) → Bool
is_unread reading page = list_any (λ x. x.page == page) reading.unread

-- how many pages could not be read for a fault of the shelf
abbrev pub is_failed : Cause → Bool
is_failed Failed = true
is_failed (Other kept found) = false
is_failed Absent = false
is_failed Broken = false

abbrev pub failures : Reading → ℕ
failures reading = length (filter (λ x. is_failed x.cause) reading.unread)

-- a page of a query's window that has not expired, and was put
pub record IsShelved (rules : Rules) (l : Ledger) (pages : List ℕ) (page : ℕ) : Type 0 where
  pub window : Contains pages page
  pub live : was_expired rules l page ≡ false
  pub put : Contains l.put_before page

-- a query whose window has these pages could not read some of the shelved ones, and read all others back
pub record IsRead (rules : Rules) (l : Ledger) (pages : List ℕ) (reading : Reading) : Type 0 where
  pub unread_rises : IsStrictlySortedBy (λ a b. nat_cmp a.page b.page) reading.unread
  pub unread : (x : UnreadPage) → Contains reading.unread x → IsShelved rules l pages x.page
  pub got_rises : IsStrictlySortedBy (λ a b. nat_cmp a.page b.page) reading.got
  pub got : (page : ℕ) → ((x : GotPage) × Contains reading.got x × (x.page ≡ page)) ↔ (IsShelved rules l pages page × (is_unread reading page ≡ false))

-- ---- what a query sees

-- whether a page of the window is expired, or could not be read
abbrev pub is_missing : Rules → Ledger → Reading → (page : ℕ) → Bool
is_missing rules l reading page = was_expired rules l page || is_unread reading page

-- what was read of a page; of a page that was not read from the shelf what was recorded in it
abbrev pub got_or : List GotPage → (page : ℕ) → Held → Held
got_or [] page own = own
got_or (x ∷ more) page own = if x.page == page then x.held else got_or more page own

abbrev pub page_by : Rules → Ledger → Reading → (page : ℕ) → UsedPage
page_by rules l reading page = record { number = page; held = got_or reading.got page (held rules l.account page) }

-- of the window's pages those that are used, and those that are expired
abbrev pub used_by : Rules → Ledger → (pages : List ℕ) → Reading → List ℕ
used_by rules l pages reading = filter (λ page. not (is_missing rules l reading page)) pages

abbrev pub expired_by : Rules → Ledger → (pages : List ℕ) → List ℕ
expired_by rules l pages = filter (was_expired rules l) pages

abbrev pub sight_by : Rules → Ledger → (pages : List ℕ) → Reading → Sight
sight_by rules l pages reading = record {
  router = l.account.router;
  used = map (page_by rules l reading) (used_by rules l pages reading);
  missing = list_any (is_missing rules l reading) pages;
}

-- ---- as numbers and ranges that are handed out

abbrev pub page_no : ℕ → PageNo
page_no page = record { number = page }

-- the last of a page and those behind it
abbrev pub last_of : ℕ → List ℕ → ℕ
last_of page [] = page
last_of page (next ∷ more) = last_of next more

-- the first and the last of some pages
abbrev pub range_of : List ℕ → Option PageRange
range_of [] = None
range_of (first ∷ more) = Some (record { first = page_no first; last = page_no (last_of first more) })

abbrev pub unreadable_of : UnreadPage → Unreadable
unreadable_of x = record { page = page_no x.page; cause = x.cause }
