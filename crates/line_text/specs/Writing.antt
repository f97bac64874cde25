-- How a line is written.
use Rattle.std.specs.Prelude.{ℕ, ◌≡◌, List, [], ◌∷◌, ◌++◌, codes, decimal}
use Rattle.std.specs.List.{flat_map}

-- a field behind a space
abbrev pub spaced : List ℕ → List ℕ
spaced field = 32 ∷ field

-- a line's number, its fields, and a line feed
abbrev pub line_text : ℕ → List (List ℕ) → List ℕ
line_text line fields = decimal line ++ flat_map spaced fields ++ 10 ∷ []

-- the texts of some things with a comma between each two, or a dash where there are none
abbrev pub listed : {X : Type 0} → (X → List ℕ) → List X → List ℕ
listed text [] = codes "-"
listed text (first ∷ more) = text first ++ flat_map (λ x. 44 ∷ text x) more

-- this, and something behind it
pub record BeginsWith (text front : List ℕ) : Type 0 where
  pub rest : List ℕ
  pub is : text ≡ front ++ rest
