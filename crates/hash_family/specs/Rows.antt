-- How a family keeps its coefficients, and the sum that makes a position.
use Rattle.std.specs.Prelude.{ℕ, ◌≡◌, ◌<◌, ◌+◌, ◌-◌, ◌*◌, ◌%◌, ◌^◌, List, map, slice_get, slice_index, sum, Some}
use Rattle.std.specs.List.{range_with_len}
use Rattle.spie_base.specs.Shapes.{AreInRange}
use Rattle.hash_family.specs.Positions.{coefficient}

-- the coefficients of position i
abbrev pub row_of : (seed i : ℕ) → List ℕ
row_of seed i = map (coefficient seed i) (range_with_len 0 8)

-- the sum of a row's first number and of the others by these words
unfoldable pub weighed : (row words : List ℕ) → ℕ
weighed row words =
    (slice_index row 0 + sum (map (λ j. slice_index row j * slice_index words (j - 1)) (range_with_len 1 7))) % 2 ^ 64

-- k rows of this seed, and k and n in their ranges
pub record IsDrawn (seed k n : ℕ) (rows : List (List ℕ)) : Type 0 where
  pub each : (i : ℕ) → i < k → slice_get rows i ≡ Some (row_of seed i)
  pub range : AreInRange k n
