-- Texts in which a byte does not stand. No public clause cites this module.
use Rattle.std.specs.Prelude.{ℕ, ◌≡◌, List, [], ◌∷◌, Bool, true, false, ◌&&◌, ◌==◌, nat_le}
use Rattle.std.specs.List.{All}

-- none of the text's bytes is this one
abbrev pub LeavesOut : (byte : ℕ) → (text : List ℕ) → Type 0
LeavesOut byte text = All (λ x. (x == byte) ≡ false) text

-- bytes from `a` on, as those of small letters are
abbrev pub is_word : List ℕ → Bool
is_word [] = true
is_word (b ∷ more) = nat_le 97 b && is_word more
