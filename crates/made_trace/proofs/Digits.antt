-- Hex digits of bytes, one part after another.
use Rattle.std.proofs.Common.{◌≡◌, ◌++◌, ◌∷◌, [], List, ℕ, refl, ap}
use Rattle.hex.specs.Hex.{encode_lower, encode_with}

pub encode_append : (a b : List ℕ) → encode_lower (a ++ b) ≡ encode_lower a ++ encode_lower b
unfolding encode_with
encode_append [] b = refl
encode_append (x ∷ a) b = ap (λ (t : List ℕ). encode_lower (x ∷ []) ++ t) (encode_append a b)
