-- Lists that ascend, put together from parts that do.
use Rattle.std.proofs.Common.{◌≡◌, ◌<◌, ◌++◌, ◌∷◌, [], subst, suc, ⊎_elim, sym, ℕ, List, length, map, take, drop, get_or, drop-cons}
use Rattle.std.specs.List.{Contains, AllByRecursion, flat_map}
use Rattle.std.specs.List.Sorted.{IsStrictlySortedBy}
use Rattle.std.specs.declared.cmp.Ordering.{Ordering}
use Rattle.std.specs.declared.cmp.Ordering.TheVariants.{Less}
use Rattle.std.proofs.lemmas.List.Elements.{Contains-append_cases, Contains-append_right}
use Rattle.std.proofs.lemmas.List.{take-append-drop}
use Rattle.spie_base.proofs.Membership.{has_none, has_first, has_later, has_cases, from_map, from_flat_map}
use Rattle.spie_base.proofs.SortedLists.{of_each}

-- what holds of each item
pub for_each : {K : Type 0} (P : K → Type 0) (xs : List K) → ((z : K) → Contains xs z → P z) → AllByRecursion P xs
for_each P [] all = tt
for_each P (x ∷ xs) all = (all x (has_first x xs), for_each P xs (λ z h. all z (has_later x xs z h)))

-- no items
pub sorted_none : {K : Type 0} (c : K → K → Ordering) → IsStrictlySortedBy c []
unfolding IsStrictlySortedBy
sorted_none c = tt

-- one item
pub sorted_one : {K : Type 0} (c : K → K → Ordering) (x : K) → IsStrictlySortedBy c (x ∷ [])
unfolding IsStrictlySortedBy
sorted_one c x = (tt, tt)

-- one ascending list after another, where each item of the first is below each of the second
pub sorted_append : {K : Type 0} (c : K → K → Ordering) (xs ys : List K) → IsStrictlySortedBy c xs → IsStrictlySortedBy c ys → ((x y : K) → Contains xs x → Contains ys y → c x y ≡ Less) → IsStrictlySortedBy c (xs ++ ys)
unfolding IsStrictlySortedBy
sorted_append c [] ys s t below = t
sorted_append c (x ∷ xs) ys s t below = (
  for_each (λ y. c x y ≡ Less) (xs ++ ys) (λ y h. ⊎_elim (of_each (λ z. c x z ≡ Less) xs y s.0) (below x y (has_first x xs)) (Contains-append_cases xs ys y h)),
  sorted_append c xs ys s.1 t (λ a b h. below a b (has_later x xs a h)),
)

-- a list made item by item, by a function that keeps the order
pub sorted_map : {X Y : Type 0} (r : X → X → Ordering) (c : Y → Y → Ordering) (f : X → Y) (xs : List X) → ((a b : X) → r a b ≡ Less → c (f a) (f b) ≡ Less) → IsStrictlySortedBy r xs → IsStrictlySortedBy c (map f xs)
unfolding IsStrictlySortedBy
sorted_map r c f [] keeps s = tt
sorted_map {X} r c f (x ∷ xs) keeps s = (
  for_each (λ y. c (f x) y ≡ Less) (map f xs) (λ y h. let i = from_map f xs y h in subst (λ z. c (f x) z ≡ Less) i.is (keeps x i.of (of_each (λ z. r x z ≡ Less) xs i.of s.0 i.has))),
  sorted_map r c f xs keeps s.1,
)

-- a list made part by part
pub sorted_parts : {X Y : Type 0} (r : X → X → Ordering) (c : Y → Y → Ordering) (f : X → List Y) (xs : List X) → ((x : X) → IsStrictlySortedBy c (f x)) → ((x z : X) (a b : Y) → r x z ≡ Less → Contains (f x) a → Contains (f z) b → c a b ≡ Less) → IsStrictlySortedBy r xs → IsStrictlySortedBy c (flat_map f xs)
unfolding IsStrictlySortedBy
sorted_parts r c f [] each apart s = tt
sorted_parts r c f (x ∷ xs) each apart s =
    sorted_append c (f x) (flat_map f xs) (each x) (sorted_parts r c f xs each apart s.1)
    (λ a b h k. let i = from_flat_map f xs b k in apart x i.of a b (of_each (λ z. r x z ≡ Less) xs i.of s.0 i.has) h i.in_piece)

-- an item of the first part is below each of the second
pub sorted_split : {K : Type 0} (c : K → K → Ordering) (xs ys : List K) → IsStrictlySortedBy c (xs ++ ys) → (x y : K) → Contains xs x → Contains ys y → c x y ≡ Less
unfolding IsStrictlySortedBy
sorted_split c [] ys s x y h k = absurd (has_none x h)
sorted_split c (z ∷ xs) ys s x y h k =
    ⊎_elim
    (λ (e : z ≡ x). subst (λ a. c a y ≡ Less) e (of_each (λ b. c z b ≡ Less) (xs ++ ys) y s.0 (Contains-append_right xs ys y k)))
    (λ later. sorted_split c xs ys s.1 x y later k)
    (has_cases z xs x h)

-- an item is above those before it
pub sorted_before : {K : Type 0} (c : K → K → Ordering) (xs : List K) (i : ℕ) (x d y : K) → IsStrictlySortedBy c xs → i < length xs → x ≡ get_or xs i d → Contains (take i xs) y → c y x ≡ Less
sorted_before {K} c xs i x d y s l is h =
    let Sorted : List K → Type 0 = λ zs. IsStrictlySortedBy c zs in
    let Has : List K → Type 0 = λ zs. Contains zs x in
    let First : K → Type 0 = λ z. Contains (z ∷ drop (suc i) xs) x in
    sorted_split c (take i xs) (drop i xs) (subst Sorted (sym (take-append-drop i xs)) s) y x h
    (subst Has (sym (drop-cons xs i d l)) (subst First is (has_first x (drop (suc i) xs))))
