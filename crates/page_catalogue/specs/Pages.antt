-- A router's pages, by the times at which they closed, oldest first: page p closed at number p of them,
-- counted from 0, and the page behind the last one is open.
use Rattle.std.specs.Prelude.{ℕ, zero, suc, ◌+◌, ◌-◌, ◌<◌, ◌≤◌, List, length, slice_index, Bool, ◌&&◌, ◌||◌, ◌==◌, nat_le, nat_lt}
use Rattle.spie_base.specs.declared.Rules.{Rules}

abbrev pub open_page : List ℕ → ℕ
open_page closings = length closings

-- page 0 opened at 0, and each other page when the one before it closed
abbrev pub opened : List ℕ → (page : ℕ) → ℕ
opened closings zero = 0
opened closings (suc page) = slice_index closings page

abbrev pub closed : List ℕ → (page : ℕ) → ℕ
closed closings page = slice_index closings page

abbrev pub is_closed : List ℕ → (page : ℕ) → Bool
is_closed closings page = nat_lt page (length closings)

-- whether a tick of this time closes the open page, of which so many bits are set: it has been open for the
-- span, or it is full
unfoldable pub is_due : Rules → List ℕ → (time bits : ℕ) → Bool
is_due rules closings time bits =
    nat_le rules.span (time - opened closings (open_page closings)) || nat_le rules.limit bits

-- whether a page is expired at a barrier with this clock: enough later pages are closed, or it closed long ago
unfoldable pub is_expired : Rules → List ℕ → (clock page : ℕ) → Bool
is_expired rules closings clock page =
    is_closed closings page
    && (nat_le (page + 1 + rules.keep) (length closings) || nat_le rules.age (clock - closed closings page))

-- whether a page is in the window of a query for this time: it opened by then, and is open or closed no more
-- than the width before
unfoldable pub is_in_window : Rules → List ℕ → (time page : ℕ) → Bool
is_in_window rules closings time page =
    nat_le page (open_page closings) && nat_le (opened closings page) time
    && (page == open_page closings || nat_le (time - rules.width) (closed closings page))

-- no page closed before an earlier one
abbrev pub AreAscending : List ℕ → Type 0
AreAscending closings = (i j : ℕ) → i ≤ j → j < length closings → slice_index closings i ≤ slice_index closings j
