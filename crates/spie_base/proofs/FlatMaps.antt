-- Loops that append what a function gives of each element.
use Rattle.std.proofs.lemmas.List.{take_more}
use Rattle.std.proofs.lemmas.List.Concat.{flat_map-append}
use Rattle.std.proofs.Math.Seq.{take-length}
use Rattle.std.proofs.Common.{◌≡◌, ◌+◌, ◌<◌, ◌∷◌, [], ◌++◌, ◌∙◌, ℕ, List, length, take, get_or, append-nil, sym, ap}
use Rattle.std.specs.List.{flat_map}

-- one more turn
pub flat_map_next : {X Y : Type 0} (f : X → List Y) (xs : List X) (i : ℕ) (x d : X) → i < length xs → x ≡ get_or xs i d → flat_map f (take (i + 1) xs) ≡ flat_map f (take i xs) ++ f x
flat_map_next {X} f xs i x d l is =
    ap (flat_map f) (take_more xs i d l) ∙ flat_map-append f (take i xs) (get_or xs i d ∷ [])
    ∙ ap (λ ys. flat_map f (take i xs) ++ ys) (append-nil (f (get_or xs i d)))
    ∙ ap (λ (y : X). flat_map f (take i xs) ++ f y) (sym is)

-- after the last turn
pub flat_map_done : {X Y : Type 0} (f : X → List Y) (xs : List X) (i : ℕ) → i ≡ length xs → flat_map f (take i xs) ≡ flat_map f xs
flat_map_done f xs i e = ap (λ n. flat_map f (take n xs)) e ∙ ap (flat_map f) (take-length xs)
