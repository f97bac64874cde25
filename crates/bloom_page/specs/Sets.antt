-- A page as a set of positions.
use Rattle.std.specs.Prelude.{ℕ, ◌≡◌, ◌≤◌, ◌+◌, ◌-◌, ◌*◌, ◌^◌, ◌==◌, Bool, ◌||◌, List, length, filter, map, sum, if◌then◌else◌}
use Rattle.std.specs.List.{list_any, list_all, range_with_len}
use Rattle.spie_base.specs.declared.types.TheConstants.{N_LEAST, N_MOST}

-- a set of positions below 2 ^ n, as the ascending list of its members: equal sets are equal values
pub record PageSet : Type 0 where
  pub n : ℕ
  pub members : List ℕ

-- whether p is one of these positions
abbrev pub is_in : List ℕ → (p : ℕ) → Bool
is_in ps p = list_any (λ q. p == q) ps

-- whether each of the marks is
abbrev pub are_in : List ℕ → (marks : List ℕ) → Bool
are_in ps marks = list_all (is_in ps) marks

-- the positions below 2 ^ n that pass a test
unfoldable pub set_of : (n : ℕ) → (ℕ → Bool) → PageSet
set_of n test = record { n = n; members = filter test (range_with_len 0 (2 ^ n)) }

-- the union of a set and of marks
abbrev pub united : PageSet → (marks : List ℕ) → PageSet
united page marks = set_of page.n (λ p. is_in page.members p || is_in marks p)

-- word j of a page: its bit b is 1 exactly where 64 * j + b is a member
abbrev pub word_of : List ℕ → (j : ℕ) → ℕ
word_of members j = sum (map (λ b. if is_in members (64 * j + b) then 2 ^ b else 0) (range_with_len 0 64))

-- the words of a page
unfoldable pub words_of : PageSet → List ℕ
words_of page = map (word_of page.members) (range_with_len 0 (2 ^ (page.n - 6)))

-- so many words that they have 2 ^ n bits, and n in its range
pub record HasWords (n : ℕ) (words : List ℕ) : Type 0 where
  pub n_least : N_LEAST ≤ n
  pub n_most : n ≤ N_MOST
  pub count : length words ≡ 2 ^ (n - 6)
