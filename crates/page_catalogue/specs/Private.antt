-- No public clause cites this module: what the catalogue's own functions keep.
use Rattle.std.specs.Prelude.{ℕ, ◌+◌, ◌-◌, ◌^◌, ◌≤◌, ◌<◌, ◌≡◌, ◌⊎◌, List, length, slice_index}
use Rattle.spie_base.specs.declared.Rules.{Rules}
use Rattle.page_catalogue.specs.Pages.{AreAscending}
use Rattle.page_catalogue.specs.declared.states.Place.{Place}
use Rattle.page_catalogue.specs.declared.states.Place.TheVariants.{Sealed, Resident, Shelved}
use Rattle.page_catalogue.specs.declared.states.PageState.{PageState}
use Rattle.page_catalogue.specs.declared.states.PageState.TheVariants as state

abbrev pub state_in : Place → PageState
state_in Sealed = state.Sealed
state_in Resident = state.Resident
state_in Shelved = state.Shelved

-- a page is closed, and enough later pages are closed or it closed long ago
pub record IsOld (rules : Rules) (closings : List ℕ) (clock page : ℕ) : Type 0 where
  pub closed : page < length closings
  pub why : (rules.keep ≤ length closings - (page + 1)) ⊎ (rules.age ≤ clock - slice_index closings page)

-- what is true of every catalogue
pub record IsCatalogue (rules : Rules) (closings : List ℕ) (places gone clock : ℕ) : Type 0 where
  pub placed : places ≡ length closings
  pub few : length closings < 2 ^ 32 - 1
  pub within : gone ≤ length closings
  pub ascend : AreAscending closings
  pub past : (i : ℕ) → i < length closings → slice_index closings i ≤ clock
  pub old : (page : ℕ) → page < gone → IsOld rules closings clock page
