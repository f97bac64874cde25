-- The states of places, item by item.
use Rattle.std.proofs.Common.{ℕ, zero, suc, ◌≡◌, ◌<◌, ◌∷◌, [], List, length, map, get_or, ap, refl, arith}
use Rattle.std.specs.Prelude.{slice_set}

pub map_set : {X Y : Type 0} (f : X → Y) (xs : List X) (i : ℕ) (x : X) → map f (slice_set xs i x) ≡ slice_set (map f xs) i (f x)
map_set f [] i x = refl
map_set f (y ∷ ys) zero x = refl
map_set f (y ∷ ys) (suc i) x = ap (λ zs. f y ∷ zs) (map_set f ys i x)

pub read_map : {X Y : Type 0} (f : X → Y) (xs : List X) (i : ℕ) (d : X) (e : Y) → i < length xs → get_or (map f xs) i e ≡ f (get_or xs i d)
read_map f [] i d e h = absurd (omega arith)
read_map f (x ∷ xs) zero d e h = refl
read_map f (x ∷ xs) (suc i) d e h = read_map f xs i d e (omega arith)
