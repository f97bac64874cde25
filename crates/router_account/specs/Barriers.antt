-- What an archival and a barrier may make of a router's pages.
use Rattle.std.specs.Prelude.{ℕ, ◌≡◌, ◌⊎◌, ◌↔◌, List, Bool, true, false, IsTrue, Option, None, Some, if◌then◌else◌}
use Rattle.std.specs.List.{Contains}
use Rattle.std.specs.List.Sorted.{IsStrictlySortedBy}
use Rattle.std.specs.Ordering.{nat_cmp}
use Rattle.spie_base.specs.declared.Rules.{Rules}
use Rattle.page_catalogue.specs.Pages.{open_page, is_closed, is_expired, is_due}
use Rattle.router_account.specs.Account.{fill}
use Rattle.router_account.specs.Ledger.{Ledger, Split, no_split, was_expired}

-- pages, ascending
abbrev pub AreRising : List ℕ → Type 0
AreRising pages = IsStrictlySortedBy nat_cmp pages

-- what an archival goes by: when pages had closed at its line; when pages were closed at the last barrier, and its
-- clock; and the pages that earlier archivals put
pub record ArchiveView : Type 0 where
  pub closings : List ℕ
  pub closings_then : List ℕ
  pub clock_then : ℕ
  pub put_before : List ℕ

-- an archival that came when these pages had closed
abbrev pub archive_view : Ledger → (closings : List ℕ) → ArchiveView
archive_view l closings = record { closings = closings; closings_then = l.closings_then; clock_then = l.clock_then; put_before = l.put_before }

-- it covers the pages that were closed at its line, were not expired at the last barrier, and were put by no earlier one
pub record IsCovered (rules : Rules) (view : ArchiveView) (page : ℕ) : Type 0 where
  pub closed : IsTrue (is_closed view.closings page)
  pub live : is_expired rules view.closings_then view.clock_then page ≡ false
  pub unput : Contains view.put_before page → ⊥

-- put and kept have no page in common, and together they are the covered pages
pub record IsSplit (rules : Rules) (view : ArchiveView) (split : Split) : Type 0 where
  pub put_rises : AreRising split.put
  pub kept_rises : AreRising split.kept
  pub apart : (page : ℕ) → Contains split.put page → Contains split.kept page → ⊥
  pub all : (page : ℕ) → (Contains split.put page ⊎ Contains split.kept page) ↔ IsCovered rules view page

-- a split of the pages that the segment's archival covers, where one came; else of none
abbrev pub IsSplitWhere : Rules → Ledger → Option (List ℕ) → Split → Type 0
IsSplitWhere rules l None split = split ≡ no_split
IsSplitWhere rules l (Some closings) split = IsSplit rules (archive_view l closings) split

abbrev pub IsSplitOf : Rules → Ledger → Split → Type 0
IsSplitOf rules l split = IsSplitWhere rules l l.closed_at_archive split

-- the page that a barrier closes, and how many of its bits are set
pub record Closing : Type 0 where
  pub page : ℕ
  pub bits : ℕ

-- only a tick closes pages
abbrev pub closing_at : Rules → Ledger → (clock : ℕ) → (tick : Bool) → Option Closing
closing_at rules l clock true =
    let bits = fill rules l.account (open_page l.account.closings) in
    if is_due rules l.account.closings clock bits then Some (record { page = open_page l.account.closings; bits = bits }) else None
closing_at rules l clock false = None

-- expired pages that could not be discarded: they expire first at this barrier, and archivals covered them
pub record AreLeft (rules : Rules) (before after : Ledger) (left : List ℕ) : Type 0 where
  pub rising : AreRising left
  pub expired : (page : ℕ) → Contains left page → was_expired rules after page ≡ true
  pub first : (page : ℕ) → Contains left page → was_expired rules before page ≡ false
  pub covered : (page : ℕ) → Contains left page → Contains after.covered_before page
