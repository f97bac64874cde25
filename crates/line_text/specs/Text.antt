-- Lines and fields of a text.
use Rattle.std.specs.Prelude.{ℕ, ◌≡◌, ◌<◌, List, [], ◌∷◌, length, ◌==◌}
use Rattle.std.specs.List.{slice_split}

-- the parts between line feeds. A line feed ends a line, so the last part is what stands behind the last line
abbrev pub lines : List ℕ → List (List ℕ)
lines text = slice_split (λ b. b == 10) text

-- one space stands between two fields
abbrev pub fields : List ℕ → List (List ℕ)
fields line = slice_split (λ b. b == 32) line

-- a text is cut at the first such byte: what stands before it is its first part, and the others stand behind it
pub record HasCut (byte : ℕ) (text front after : List ℕ) : Type 0 where
  pub cut : slice_split (λ b. b == byte) text ≡ front ∷ slice_split (λ b. b == byte) after
  pub shorter : length after < length text

-- a text without such a byte is not cut
abbrev pub IsUncut : (byte : ℕ) → List ℕ → Type 0
IsUncut byte text = slice_split (λ b. b == byte) text ≡ text ∷ []
