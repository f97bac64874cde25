-- A list whose places are filled one after another.
use Rattle.std.proofs.Common.{ℕ, suc, ◌+◌, ◌-◌, ◌<◌, ◌≤◌, ◌≡◌, List, [], ◌∷◌, ◌++◌, length, map, replicate, set, refl, ap, sym, ◌∙◌, arith, append_assoc}
use Rattle.std.proofs.Common.{Some, slice_get, get_or, length-append, take}
use Rattle.std.proofs.Math.ListN.{get_or-append}
use Rattle.std.proofs.lemmas.Option.{slice_get-get_or}
use Rattle.std.specs.List.{range_with_len}
use Rattle.std.proofs.lemmas.List.{set-append_right, append-nil, take_at}
use Rattle.std.proofs.lemmas.List.FromFn.{map-range_with_len_more, length-map-range_with_len, get_or-map-range_with_len}

-- the first i of m places have the values of f, and the others still have z
abbrev pub filled : {X : Type 0} → (ℕ → X) → (m : ℕ) → X → (i : ℕ) → List X
filled f m z i = map f (range_with_len 0 i) ++ replicate (m - i) z

-- the next place gets its value
pub fill_more : {X : Type 0} (f : ℕ → X) (m : ℕ) (z : X) (i : ℕ) (xs : List X) (y : X) → i < m → xs ≡ filled f m z i → y ≡ f i → set xs i y ≡ filled f m z (i + 1)
fill_more {X} f m z i xs y within so_far value =
    let rest : replicate (m - i) z ≡ z ∷ replicate (m - (i + 1)) z = ap (λ k. replicate k z) (let e : m - i ≡ suc (m - (i + 1)) = omega arith in e) in
    let done : List X = map f (range_with_len 0 i) in
    let start : xs ≡ done ++ z ∷ replicate (m - (i + 1)) z = so_far ∙ ap (λ t. done ++ t) rest in
    ap (λ l. set l i y) start
    ∙ set-append_right done (z ∷ replicate (m - (i + 1)) z) i i y (length-map-range_with_len f 0 i) (omega arith)
    ∙ ap (λ k. done ++ set (z ∷ replicate (m - (i + 1)) z) k y) (let e : i - i ≡ 0 = omega arith in e)
    ∙ ap (λ v. done ++ v ∷ replicate (m - (i + 1)) z) value
    ∙ sym (append_assoc done (f i ∷ []) (replicate (m - (i + 1)) z))
    ∙ ap (λ l. l ++ replicate (m - (i + 1)) z) (sym (map-range_with_len_more f 0 i i (omega arith)))

-- all places have theirs
pub fill_all : {X : Type 0} (f : ℕ → X) (m : ℕ) (z : X) (i : ℕ) (xs : List X) → m ≤ i → i ≤ m → xs ≡ filled f m z i → xs ≡ map f (range_with_len 0 m)
fill_all f m z i xs least most so_far =
    so_far ∙ ap (λ k. filled f m z k) (let e : i ≡ m = omega arith in e)
    ∙ ap (λ k. map f (range_with_len 0 m) ++ replicate k z) (let e : m - m ≡ 0 = omega arith in e) ∙ append-nil _

-- the places that have theirs
pub filled_front : {X : Type 0} (f : ℕ → X) (m : ℕ) (z : X) (i n : ℕ) (xs : List X) → i ≤ n → n ≤ i → xs ≡ filled f m z i → take n xs ≡ map f (range_with_len 0 n)
filled_front f m z i n xs least most so_far =
    ap (take n) (so_far ∙ ap (λ k. filled f m z k) (let e : i ≡ n = omega arith in e))
    ∙ take_at (map f (range_with_len 0 n)) (replicate (m - n) z) n (length-map-range_with_len f 0 n)

-- a place that is filled
pub filled_at : {X : Type 0} (f : ℕ → X) (m : ℕ) (z : X) (count : ℕ) (xs : List X) (i : ℕ) → xs ≡ filled f m z count → i < count → slice_get xs i ≡ Some (f i)
filled_at f m z count xs i so_far within =
    let done : length (map f (range_with_len 0 count)) ≡ count = length-map-range_with_len f 0 count in
    let all : length xs ≡ length (map f (range_with_len 0 count)) + length (replicate (m - count) z) = ap length so_far ∙ length-append _ _ in
    slice_get-get_or xs i (f i) (omega arith)
    ∙ ap (λ l. Some (get_or l i (f i))) so_far
    ∙ ap Some (get_or-append _ _ (f i) i (omega arith) ∙ get_or-map-range_with_len f 0 count i i (f i) within (omega arith))

-- functions that agree give one list
pub map_same : {X : Type 0} (f g : ℕ → X) → ((k : ℕ) → f k ≡ g k) → (ks : List ℕ) → map f ks ≡ map g ks
map_same f g same [] = refl
map_same f g same (k ∷ ks) = ap (λ v. v ∷ map f ks) (same k) ∙ ap (λ t. g k ∷ t) (map_same f g same ks)
