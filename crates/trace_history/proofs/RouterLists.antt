-- Lists that have something of each router.
use Rattle.std.proofs.Common.{ℕ, zero, suc, ◌≡◌, ◌≤◌, ◌<◌, ◌+◌, ◌∷◌, ◌++◌, ◌∙◌, List, map, ap, refl, arith}
use Rattle.std.specs.List.{flat_map, range_with_len}

pub flat_map_same : {X : Type 0} (f g : ℕ → List X) (first len n : ℕ) → first + len ≤ n → ((r : ℕ) → r < n → f r ≡ g r) → flat_map f (range_with_len first len) ≡ flat_map g (range_with_len first len)
flat_map_same f g first zero n l e = refl
flat_map_same f g first (suc len) n l e =
    ap (λ xs. xs ++ flat_map f (range_with_len (first + 1) len)) (e first (omega arith)) ∙ ap (λ xs. g first ++ xs) (flat_map_same f g (first + 1) len n (omega arith) e)

pub map_same : {X : Type 0} (f g : ℕ → X) (first len n : ℕ) → first + len ≤ n → ((r : ℕ) → r < n → f r ≡ g r) → map f (range_with_len first len) ≡ map g (range_with_len first len)
map_same f g first zero n l e = refl
map_same f g first (suc len) n l e =
    ap (λ x. x ∷ map f (range_with_len (first + 1) len)) (e first (omega arith)) ∙ ap (λ xs. g first ∷ xs) (map_same f g (first + 1) len n (omega arith) e)
