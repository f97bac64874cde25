-- A catalogue of one router's pages.
use Rattle.std.specs.Prelude.{ℕ, ◌-◌, ◌≡◌, ◌⊎◌, List, slice_index_or, nat_le, nat_lt, if◌then◌else◌}
use Rattle.std.specs.declared.option.Option.{Option}
use Rattle.std.specs.declared.option.Option.TheVariants.{Some, None}
use Rattle.spie_base.specs.declared.Rules.{Rules}
use Rattle.page_catalogue.specs.Pages.{open_page, opened, closed, is_closed, is_expired}
use Rattle.page_catalogue.specs.declared.states.PageState.{PageState}
use Rattle.page_catalogue.specs.declared.states.PageState.TheVariants.{Open, Sealed, Resident, Shelved, Expired}
use Rattle.page_catalogue.specs.declared.states.PageRow.{PageRow}
use Rattle.page_catalogue.specs.declared.states.Why.{Why}
use Rattle.page_catalogue.specs.declared.states.Why.TheVariants.{Span, Limit}

-- when each closed page closed and where it was kept, by its number; how many pages have expired; the last
-- clock that closed or expired pages; for how many closings there is room
pub record Catalogued : Type 0 where
  pub rules : Rules
  pub closings : List ℕ
  pub places : List PageState
  pub gone : ℕ
  pub clock : ℕ
  pub room : ℕ

-- where a page is
abbrev pub state_of : Catalogued → (page : ℕ) → PageState
state_of c page =
    if nat_lt page c.gone then Expired
    else if is_closed c.closings page then slice_index_or c.places page Open else Open

abbrev pub row_of : Catalogued → (page : ℕ) → PageRow
row_of c page = record {
  opened = opened c.closings page;
  closed = if is_closed c.closings page then Some (closed c.closings page) else None;
  state = state_of c page;
}

-- why the open page is to be closed at a time, with so many bits
abbrev pub why_due : Catalogued → (time bits : ℕ) → Option Why
why_due c time bits =
    if nat_le c.rules.span (time - opened c.closings (open_page c.closings)) then Some Span
    else if nat_le c.rules.limit bits then Some Limit else None

-- the expired pages are those before this one
abbrev pub AreExpired : Rules → List ℕ → (clock gone : ℕ) → Type 0
AreExpired rules closings clock gone = (page : ℕ) → nat_lt page gone ≡ is_expired rules closings clock page

-- a page may be marked so
abbrev pub MayMark : (from to : PageState) → Type 0
MayMark from to = ((from ≡ Sealed) × (to ≡ Resident)) ⊎ ((from ≡ Resident) × (to ≡ Shelved))
