-- What holds of the pages of every router.
use Rattle.std.specs.Prelude.{ℕ, ◌≤◌, ◌≡◌, ◌++◌, List, IsTrue, true}
use Rattle.spie_base.specs.declared.Rules.{Rules}
use Rattle.page_catalogue.specs.Pages.{is_expired, is_in_window, AreAscending}

-- each window has a page
abbrev pub WindowHasPage : Type 0
WindowHasPage =
    (rules : Rules) (closings : List ℕ) (time : ℕ) → (page : ℕ) × IsTrue (is_in_window rules closings time page)

-- the pages before an expired one are expired
abbrev pub ExpiredArePrefix : Type 0
ExpiredArePrefix = (rules : Rules) (closings : List ℕ) (clock page earlier : ℕ) → AreAscending closings → earlier ≤ page
    → is_expired rules closings clock page ≡ true → is_expired rules closings clock earlier ≡ true

-- an expired page stays expired, whatever closes later
abbrev pub ExpiredStays : Type 0
ExpiredStays = (rules : Rules) (closings more : List ℕ) (clock later page : ℕ) → clock ≤ later
    → is_expired rules closings clock page ≡ true → is_expired rules (closings ++ more) later page ≡ true
