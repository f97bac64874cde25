-- Bits of words: position p is bit p % 64 of word p / 64.
use Rattle.std.specs.Prelude.{ℕ, ◌*◌, ◌/◌, ◌%◌, ◌^◌, ◌==◌, Bool, List, [], ◌∷◌, length, filter, slice_index, slice_set, bit_or}
use Rattle.std.specs.List.{range_with_len}
use Rattle.std.specs.Int.{bit_at}

-- the bit at position p, 0 past the last word
abbrev pub bit_in : List ℕ → (p : ℕ) → ℕ
bit_in words p = bit_at (slice_index words (p / 64)) (p % 64)

abbrev pub is_set : List ℕ → (p : ℕ) → Bool
is_set words p = bit_in words p == 1

-- the positions that are set, ascending
unfoldable pub members_of : List ℕ → List ℕ
members_of words = filter (is_set words) (range_with_len 0 (64 * length words))

-- the words with position p set
abbrev pub with_bit : List ℕ → (p : ℕ) → List ℕ
with_bit words p = slice_set words (p / 64) (bit_or (slice_index words (p / 64)) (2 ^ (p % 64)))

-- the words with these positions set
abbrev pub with_bits : List ℕ → List ℕ → List ℕ
with_bits words [] = words
with_bits words (p ∷ ps) = with_bits (with_bit words p) ps
