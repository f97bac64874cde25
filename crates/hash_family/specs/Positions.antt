-- The positions of a signature in a page.
use Rattle.std.specs.Prelude.{ℕ, ◌+◌, ◌-◌, ◌*◌, ◌/◌, ◌%◌, ◌^◌, List, ◌++◌, map, replicate, slice_range, sum, bit_xor}
use Rattle.std.specs.Int.{w32, from_be_bytes}
use Rattle.std.specs.List.{range_with_len}
use Rattle.spie_base.specs.declared.Marks.{Marks}
use Rattle.spie_base.specs.declared.PageShape.{PageShape}
use Rattle.spie_base.specs.declared.Sig.{Sig}
use Rattle.hash_family.specs.SplitMix.{word}

-- the seed of a page of a router, by their numbers
unfoldable pub page_seed_of : (base router page : ℕ) → ℕ
page_seed_of base router page = word (bit_xor base (router * 2 ^ 32 + page)) 0

-- coefficient j of position i
abbrev pub coefficient : (seed i j : ℕ) → ℕ
coefficient seed i j = word seed (8 * i + j)

-- the big-endian 32-bit word number j of a signature, counted from 1
abbrev pub sig_word : Sig → (j : ℕ) → ℕ
sig_word sig j = from_be_bytes w32 (slice_range sig.bytes (4 * (j - 1)) (4 * j))

-- position i, of n bits: a sum of the signature's seven words by coefficients, and its top n bits
unfoldable pub position_by : (seed n : ℕ) → Sig → (i : ℕ) → ℕ
position_by seed n sig i =
    (coefficient seed i 0 + sum (map (λ j. coefficient seed i j * sig_word sig j) (range_with_len 1 7))) % 2 ^ 64
    / 2 ^ (64 - n)

-- a family: a page's seed, how many marks a signature has, and the bits of a position
pub record Drawn : Type 0 where
  pub seed : ℕ
  pub k : ℕ
  pub n : ℕ

-- the positions of a signature in order
abbrev pub positions_by : Drawn → Sig → List ℕ
positions_by family sig = map (position_by family.seed family.n sig) (range_with_len 0 family.k)

-- the same in their places, with 0 behind them
abbrev pub placed_by : Drawn → Sig → Marks
placed_by family sig = record { at = positions_by family sig ++ replicate (8 - family.k) 0; count = family.k }

-- the family of a page
abbrev pub family_of : PageShape → (page : ℕ) → Drawn
family_of shape page = record { seed = page_seed_of shape.base shape.router.number page; k = shape.k; n = shape.n }

-- position i of a signature in a page of a router
unfoldable pub position : PageShape → (page : ℕ) → Sig → (i : ℕ) → ℕ
position shape page sig i = position_by (page_seed_of shape.base shape.router.number page) shape.n sig i

-- the marks of a signature in a page of a router
unfoldable pub marks_of : PageShape → (page : ℕ) → Sig → List ℕ
marks_of shape page sig = map (position shape page sig) (range_with_len 0 shape.k)
