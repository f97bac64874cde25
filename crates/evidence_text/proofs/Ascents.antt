-- Lists that ascend, with one item more or with another last one.
use Rattle.std.proofs.Common.{◌≡◌, List, [], ◌∷◌, ◌++◌, refl, true}
use Rattle.std.specs.List.{AllByRecursion}
use Rattle.std.specs.List.Sorted.{IsStrictlySortedBy}
use Rattle.std.specs.Ordering.{is_lt}
use Rattle.std.specs.declared.cmp.Ordering.{Ordering}
use Rattle.std.specs.declared.cmp.Ordering.TheVariants.{Less, Equal, Greater}

pub less_is : (o : Ordering) → is_lt o ≡ true → o ≡ Less
less_is Less e = refl
less_is Equal e = absurd (cc)
less_is Greater e = absurd (cc)

all_last : {K : Type 0} (P : K → Type 0) (xs : List K) (x : K) → AllByRecursion P (xs ++ x ∷ []) → P x
all_last P [] x h = h.0
all_last P (y ∷ ys) x h = all_last P ys x h.1

all_push : {K : Type 0} (P : K → Type 0) (xs : List K) (x : K) → AllByRecursion P xs → P x → AllByRecursion P (xs ++ x ∷ [])
all_push P [] x h p = (p, tt)
all_push P (y ∷ ys) x h p = (h.0, all_push P ys x h.1 p)

all_swap : {K : Type 0} (P : K → Type 0) (xs : List K) (x z : K) → AllByRecursion P (xs ++ x ∷ []) → (P x → P z) → AllByRecursion P (xs ++ z ∷ [])
all_swap P [] x z h p = (p h.0, tt)
all_swap P (y ∷ ys) x z h p = (h.0, all_swap P ys x z h.1 p)

pub sorted_none : {K : Type 0} (c : K → K → Ordering) → IsStrictlySortedBy c []
unfolding IsStrictlySortedBy
sorted_none c = tt

pub sorted_first : {K : Type 0} (c : K → K → Ordering) (x : K) → IsStrictlySortedBy c (x ∷ [])
unfolding IsStrictlySortedBy
sorted_first c x = (tt, tt)

pub sorted_push : {K : Type 0} (c : K → K → Ordering) → ((x y z : K) → c x y ≡ Less → c y z ≡ Less → c x z ≡ Less) → (xs : List K) (last x : K) → IsStrictlySortedBy c (xs ++ last ∷ []) → c last x ≡ Less → IsStrictlySortedBy c ((xs ++ last ∷ []) ++ x ∷ [])
unfolding IsStrictlySortedBy
sorted_push c trans [] last x s less = ((less, tt), (tt, tt))
sorted_push {K = K} c trans (y ∷ ys) last x s less =
    let P : K → Type 0 = λ z. c y z ≡ Less in
    (all_push P (ys ++ last ∷ []) x s.0 (trans y last x (all_last P ys last s.0) less), sorted_push c trans ys last x s.1 less)

-- the last item is replaced by one above the same items
pub sorted_swap : {K : Type 0} (c : K → K → Ordering) (xs : List K) (x z : K) → ((y : K) → c y x ≡ Less → c y z ≡ Less) → IsStrictlySortedBy c (xs ++ x ∷ []) → IsStrictlySortedBy c (xs ++ z ∷ [])
unfolding IsStrictlySortedBy
sorted_swap c [] x z same s = (tt, tt)
sorted_swap {K = K} c (y ∷ ys) x z same s =
    let P : K → Type 0 = λ v. c y v ≡ Less in
    (all_swap P ys x z s.0 (same y), sorted_swap c ys x z same s.1)
