-- A binary search in items that ascend tells whether an item is among them.
use Rattle.std.proofs.Common.{◌≡◌, ◌∙◌, ◌≤◌, ℕ, Bool, true, false, ◌⊎◌, inl, inr, ⊎_elim, refl, sym, subst, ap, List, Result, Ok, Err, length, get_or, arith, nat_lt, is_ok}
use Rattle.std.specs.List.{list_any}
use Rattle.std.specs.List.Sorted.{IsStrictlySortedBy, IsBinarySearchResult, IsNonDecreasingBy, IsSearchInRange}
use Rattle.std.specs.Cmp.{IsEquivalence}
use Rattle.std.specs.Ordering.{is_eq, ordering_index}
use Rattle.std.specs.declared.cmp.Ordering.{Ordering}
use Rattle.std.specs.declared.cmp.Ordering.TheVariants.{Less, Equal, Greater}
use Rattle.std.proofs.lemmas.Bool.{false≢true, ltb-true, ltb-false}
use Rattle.std.proofs.lemmas.Map.Keys.{Less-from_sorted}
use Rattle.std.proofs.lemmas.Map.Views.{list_any-from_Contains, Contains-from_any}
use Rattle.agent_wire.proofs.SetFacts.{IsExactOrder}

either : (b : Bool) → (b ≡ true) ⊎ (b ≡ false)
either true = inl refl
either false = inr refl

at_most : (o : Ordering) → ordering_index o ≤ 2
at_most Less = omega arith
at_most Equal = omega arith
at_most Greater = omega arith

at_least : (o p : Ordering) → o ≡ Less → ordering_index o ≤ ordering_index p
at_least o p e = let P : Ordering → Type 0 = λ z. ordering_index z ≤ ordering_index p in
    let zero_first : 0 ≤ ordering_index p = omega arith in
    subst P (sym e) zero_first

rise : {K : Type 0} (R : K → K → Ordering) → IsExactOrder R → (a b x : K) (o : Ordering) → R b x ≡ o → R a b ≡ Less → ordering_index (R a x) ≤ ordering_index o
rise R order a b x Less e below = at_least (R a x) Less (order.total.trans a b x below e)
rise R order a b x Equal e below = at_least (R a x) Equal (ap (R a) (sym (order.exact b x e)) ∙ below)
rise R order a b x Greater e below = at_most (R a x)

rises : {K : Type 0} (R : K → K → Ordering) → IsExactOrder R → (xs : List K) (x : K) → IsStrictlySortedBy R xs → IsNonDecreasingBy (λ y. ordering_index (R y x)) xs
rises {K} R order xs x sorted i j d l m =
    ⊎_elim
    (λ (e : nat_lt i j ≡ true). rise R order (get_or xs i d) (get_or xs j d) x (R (get_or xs j d) x) refl (Less-from_sorted R xs i j d sorted (ltb-true i j e) m))
    (λ (e : nat_lt i j ≡ false).
    let back = ltb-false i j e in
    let same : i ≡ j = omega (arith, l, back) in
    let P : ℕ → Type 0 = λ k. ordering_index (R (get_or xs i d) x) ≤ ordering_index (R (get_or xs k d) x) in
    let itself : ordering_index (R (get_or xs i d) x) ≤ ordering_index (R (get_or xs i d) x) = omega arith in
    subst P same itself)
    (either (nat_lt i j))

not_itself : {K : Type 0} (R : K → K → Ordering) → IsExactOrder R → (x : K) (o : Ordering) → R x x ≡ o → is_eq o ≡ false → ⊥
not_itself R order x o e other = false≢true (sym other ∙ ap is_eq (sym e) ∙ order.same x)

pub among : {K : Type 0} (E : K → K → Bool) (R : K → K → Ordering) → IsExactOrder R → IsEquivalence E → ((x y : K) → E x y ≡ true → x ≡ y) → (xs : List K) (x : K) (r : Result ℕ ℕ)
    → IsStrictlySortedBy R xs → IsSearchInRange r (length xs) → IsBinarySearchResult (λ y. R y x) xs r → is_ok r ≡ list_any (E x) xs
among E R order laws exact xs x (Ok i) sorted range found = sym (list_any-from_Contains laws x xs (i, range, order.exact (get_or xs i x) x (found x)))
among {K} E R order laws exact xs x (Err i) sorted range found =
    let point = found (rises R order xs x sorted) in
    ⊎_elim
    (λ (e : list_any (E x) xs ≡ true).
    let has = Contains-from_any exact x xs e in
    let k = has.0 in
    let is : get_or xs k x ≡ x = has.2 in
    ⊎_elim
    (λ (b : nat_lt k i ≡ true).
    let below : R (get_or xs k x) x ≡ Less = point.0 k x (omega arith) (ltb-true k i b) in
    absurd (not_itself R order x Less (ap (λ (z : K). R z x) (sym is) ∙ below) refl))
    (λ (b : nat_lt k i ≡ false).
    let above : R (get_or xs k x) x ≡ Greater = point.1 k x (ltb-false k i b) has.1 in
    absurd (not_itself R order x Greater (ap (λ (z : K). R z x) (sym is) ∙ above) refl))
    (either (nat_lt k i)))
    (λ (e : list_any (E x) xs ≡ false). sym e)
    (either (list_any (E x) xs))
