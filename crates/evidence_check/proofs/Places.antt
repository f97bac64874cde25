-- Places in lists, and lists that ascend item by item.
use Rattle.std.proofs.Common.{◌≡◌, ◌∙◌, ℕ, zero, suc, ◌<◌, ◌∷◌, [], ⊎_elim, List, map, take, slice_get, unwrap_or, Option, Some, None, refl, subst, ap, arith}
use Rattle.std.specs.Cmp.{IsTotalOrder}
use Rattle.std.specs.List.{Contains}
use Rattle.std.specs.List.Sorted.{IsStrictlySortedBy}
use Rattle.std.specs.declared.cmp.Ordering.{Ordering}
use Rattle.std.specs.declared.cmp.Ordering.TheVariants.{Less}
use Rattle.std.proofs.lemmas.Option.{slice_get_within, get_or_from_slice_get, slice_get-get_or}
use Rattle.spie_base.proofs.Membership.{has_none, has_first, has_later, has_cases}
use Rattle.spie_base.proofs.SortedLists.{of_each}
use Rattle.reverse_flood.proofs.Ascents.{for_each}
use Rattle.evidence_check.specs.Judging.{IsAbove}

pub some_same : {X : Type 0} (a b : X) → Some a ≡ Some b → a ≡ b
some_same {X} a b e = ap (λ (o : Option X). unwrap_or o a) e

pub none_some : {X : Type 0} (b : X) → None ≡ Some b → ⊥
none_some b e = absurd (cc)

-- an item at a place is one of the list, and each of the list is at some place
pub at_place : {X : Type 0} (xs : List X) (place : ℕ) (x : X) → slice_get xs place ≡ Some x → Contains xs x
at_place xs place x e = (place, slice_get_within xs place x e, get_or_from_slice_get xs place x x e)

pub placed : {X : Type 0} (xs : List X) (x : X) → Contains xs x → (place : ℕ) × (slice_get xs place ≡ Some x)
placed {X} xs x (k, l, e) = let S : X → Option X = λ y. Some y in (k, slice_get-get_or xs k x l ∙ ap S e)

-- what a list made of another has before a place
pub record IsEarlier {X Y : Type 0} (f : X → Y) (xs : List X) (place : ℕ) (y : Y) : Type 0 where
  pub before : ℕ
  pub below : before < place
  pub item : X
  pub at : slice_get xs before ≡ Some item
  pub is : f item ≡ y

pub earlier : {X Y : Type 0} (f : X → Y) (xs : List X) (place : ℕ) (y : Y) → Contains (take place (map f xs)) y → IsEarlier f xs place y
earlier f [] zero y h = absurd (has_none y h)
earlier f [] (suc place) y h = absurd (has_none y h)
earlier f (x ∷ xs) zero y h = absurd (has_none y h)
earlier f (x ∷ xs) (suc place) y h =
    ⊎_elim
    (λ e. record { before = 0; below = omega arith; item = x; at = refl; is = e })
    (λ later. let i = earlier f xs place y later in record { before = suc i.before; below = omega (arith, i.below); item = i.item; at = i.at; is = i.is })
    (has_cases (f x) (take place (map f xs)) y h)

pub before_place : {X Y : Type 0} (f : X → Y) (xs : List X) (before place : ℕ) (x : X) → before < place → slice_get xs before ≡ Some x → Contains (take place (map f xs)) (f x)
before_place f [] before place x l e = absurd (none_some x e)
before_place f (y ∷ ys) before zero x l e = let no : ⊥ = omega (arith, l) in absurd no
before_place {X} {Y} f (y ∷ ys) zero (suc place) x l e =
    let P : X → Type 0 = λ z. Contains (f y ∷ take place (map f ys)) (f z) in
    subst P (some_same y x e) (has_first (f y) (take place (map f ys)))
before_place f (y ∷ ys) (suc before) (suc place) x l e = has_later (f y) (take place (map f ys)) (f x) (before_place f ys before place x (omega (arith, l)) e)

-- ---- ascending

rest_above : {X : Type 0} (cmp : X → X → Ordering) (x : X) (xs : List X) → ((place : ℕ) (y : X) → slice_get (x ∷ xs) place ≡ Some y → IsAbove cmp (x ∷ xs) place y) → (place : ℕ) (y : X) → slice_get xs place ≡ Some y → IsAbove cmp xs place y
rest_above cmp x xs each zero y e = tt
rest_above cmp x xs each (suc place) y e = λ before at. each (suc (suc place)) y e before at

first_below : {X : Type 0} (cmp : X → X → Ordering) → IsTotalOrder cmp → (x : X) (xs : List X) → IsStrictlySortedBy cmp xs → ((y : X) → slice_get xs 0 ≡ Some y → cmp x y ≡ Less) → (y : X) → Contains xs y → cmp x y ≡ Less
unfolding IsStrictlySortedBy
first_below cmp total x [] s least y h = absurd (has_none y h)
first_below {X} cmp total x (z ∷ zs) s least y h =
    let S : X → Option X = λ w. Some w in
    ⊎_elim
    (λ e. least y (ap S e))
    (λ later. total.trans x z y (least z refl) (of_each (λ w. cmp z w ≡ Less) zs y s.0 later))
    (has_cases z zs y h)

-- the items ascend where each is greater than the one before
pub above_sorted : {X : Type 0} (cmp : X → X → Ordering) → IsTotalOrder cmp → (xs : List X) → ((place : ℕ) (x : X) → slice_get xs place ≡ Some x → IsAbove cmp xs place x) → IsStrictlySortedBy cmp xs
unfolding IsStrictlySortedBy
above_sorted cmp total [] each = tt
above_sorted {X} cmp total (x ∷ xs) each =
    let rest : IsStrictlySortedBy cmp xs = above_sorted cmp total xs (rest_above cmp x xs each) in
    (for_each (λ y. cmp x y ≡ Less) xs (first_below cmp total x xs rest (λ y e. each 1 y e x refl)), rest)

-- and each is greater than the one before where they ascend
sorted_next : {X : Type 0} (cmp : X → X → Ordering) (xs : List X) (place : ℕ) (before x : X) → IsStrictlySortedBy cmp xs → slice_get xs place ≡ Some before → slice_get xs (suc place) ≡ Some x → cmp before x ≡ Less
unfolding IsStrictlySortedBy
sorted_next cmp [] place before x s b e = absurd (none_some before b)
sorted_next {X} cmp (y ∷ ys) zero before x s b e =
    let P : X → Type 0 = λ z. cmp z x ≡ Less in
    subst P (some_same y before b) (of_each (λ z. cmp y z ≡ Less) ys x s.0 (at_place ys 0 x e))
sorted_next cmp (y ∷ ys) (suc place) before x s b e = sorted_next cmp ys place before x s.1 b e

pub sorted_above : {X : Type 0} (cmp : X → X → Ordering) (xs : List X) (place : ℕ) (x : X) → IsStrictlySortedBy cmp xs → slice_get xs place ≡ Some x → IsAbove cmp xs place x
sorted_above cmp xs zero x s e = tt
sorted_above cmp xs (suc place) x s e = λ before at. sorted_next cmp xs place before x s at e
