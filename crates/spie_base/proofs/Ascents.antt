-- Items in ascending order, each once: there is one such list of given members.
use Rattle.std.proofs.Common.{◌≡◌, ◌∷◌, [], ◌∙◌, ◌↔◌, ◌⊎◌, ⊎_elim, List, sym, ap, refl, subst, inl, inr}
use Rattle.std.specs.Cmp.{IsTotalOrder}
use Rattle.std.specs.List.{Contains, AllByRecursion}
use Rattle.std.specs.List.Sorted.{IsStrictlySortedBy}
use Rattle.std.specs.Ordering.{ordering_reverse}
use Rattle.std.specs.declared.cmp.Ordering.{Ordering}
use Rattle.std.specs.declared.cmp.Ordering.TheVariants.{Less, Equal, Greater}
use Rattle.spie_base.proofs.Membership.{has_none, has_first, has_later, has_cases, has_one}
use Rattle.spie_base.proofs.SortedLists.{of_each, sorted_same}
use Rattle.spie_base.specs.Ascending.{put_at, put_in, in_order}

-- items that compare as equal are one
abbrev pub IsExact : {T : Type 0} → (T → T → Ordering) → Type 0
IsExact {T} cmp = (a b : T) → cmp a b ≡ Equal → a ≡ b

-- ---- one more item

at_has : {T : Type 0} (cmp : T → T → Ordering) → IsExact cmp → (o : Ordering) (item other : T) (others with_it : List T) → cmp item other ≡ o → ((z : T) → Contains with_it z ↔ ((item ≡ z) ⊎ Contains others z)) → (z : T)
    → Contains (put_at o item other others with_it) z ↔ ((item ≡ z) ⊎ Contains (other ∷ others) z)
at_has cmp exact Less item other others with_it e rest z = ((λ h. has_cases item (other ∷ others) z h), λ h. ⊎_elim (λ s. subst (Contains (item ∷ other ∷ others)) s (has_first item (other ∷ others))) (λ later. has_later item (other ∷ others) z later) h)
at_has cmp exact Equal item other others with_it e rest z = (
  (λ h. inr h),
  λ h. ⊎_elim (λ s. subst (Contains (other ∷ others)) (sym (exact item other e) ∙ s) (has_first other others)) (λ later. later) h,
)
at_has cmp exact Greater item other others with_it e rest z = (
  (λ h. ⊎_elim (λ s. inr (subst (Contains (other ∷ others)) s (has_first other others))) (λ later. ⊎_elim (λ s. inl s) (λ l. inr (has_later other others z l)) ((rest z).0 later)) (has_cases other with_it z h)),
  λ h. ⊎_elim
      (λ s. has_later other with_it z ((rest z).1 (inl s)))
      (λ later. ⊎_elim (λ s. subst (Contains (other ∷ with_it)) s (has_first other with_it)) (λ l. has_later other with_it z ((rest z).1 (inr l))) (has_cases other others z later)) h,
)

put_has : {T : Type 0} (cmp : T → T → Ordering) → IsExact cmp → (item : T) (items : List T) (z : T) → Contains (put_in cmp item items) z ↔ ((item ≡ z) ⊎ Contains items z)
put_has cmp exact item [] z = ((λ h. inl (has_one item z h)), λ h. ⊎_elim (λ s. subst (Contains (item ∷ [])) s (has_first item [])) (λ none. absurd (has_none z none)) h)
put_has cmp exact item (other ∷ others) z = at_has cmp exact (cmp item other) item other others (put_in cmp item others) refl (put_has cmp exact item others) z

-- the members are those of the items
pub order_has : {T : Type 0} (cmp : T → T → Ordering) → IsExact cmp → (items : List T) (z : T) → Contains (in_order cmp items) z ↔ Contains items z
order_has cmp exact [] z = ((λ h. h), λ h. h)
order_has cmp exact (item ∷ items) z = (
  (λ h. ⊎_elim (λ s. subst (Contains (item ∷ items)) s (has_first item items)) (λ later. has_later item items z ((order_has cmp exact items z).0 later)) ((put_has cmp exact item (in_order cmp items) z).0 h)),
  λ h. (put_has cmp exact item (in_order cmp items) z).1 (⊎_elim (λ s. inl s) (λ later. inr ((order_has cmp exact items z).1 later)) (has_cases item items z h)),
)

each_of : {T : Type 0} (P : T → Type 0) (xs : List T) → ((z : T) → Contains xs z → P z) → AllByRecursion P xs
each_of P [] h = tt
each_of P (x ∷ xs) h = (h x (has_first x xs), each_of P xs (λ z has. h z (has_later x xs z has)))

at_sorted : {T : Type 0} (cmp : T → T → Ordering) → IsTotalOrder cmp → (o : Ordering) (item other : T) (others with_it : List T) → cmp item other ≡ o → IsStrictlySortedBy cmp (other ∷ others) → IsStrictlySortedBy cmp with_it
    → ((z : T) → Contains with_it z → (item ≡ z) ⊎ Contains others z) → IsStrictlySortedBy cmp (put_at o item other others with_it)
unfolding IsStrictlySortedBy
at_sorted cmp total Less item other others with_it e sorted rest has = ((e, each_of (λ z. cmp item z ≡ Less) others (λ z h. total.trans item other z e (of_each (λ w. cmp other w ≡ Less) others z sorted.0 h))), sorted)
at_sorted cmp total Equal item other others with_it e sorted rest has = sorted
at_sorted cmp total Greater item other others with_it e sorted rest has =
    let above : cmp other item ≡ Less = total.antisymm other item ∙ ap ordering_reverse e in
    (each_of (λ z. cmp other z ≡ Less) with_it (λ z h. ⊎_elim (λ s. subst (λ w. cmp other w ≡ Less) s above) (λ later. of_each (λ w. cmp other w ≡ Less) others z sorted.0 later) (has z h)), rest)

put_sorted : {T : Type 0} (cmp : T → T → Ordering) → IsTotalOrder cmp → IsExact cmp → (item : T) (items : List T) → IsStrictlySortedBy cmp items → IsStrictlySortedBy cmp (put_in cmp item items)
unfolding IsStrictlySortedBy
put_sorted cmp total exact item [] sorted = (tt, tt)
put_sorted cmp total exact item (other ∷ others) sorted =
    at_sorted cmp total (cmp item other) item other others (put_in cmp item others) refl sorted (put_sorted cmp total exact item others sorted.1) (λ z. (put_has cmp exact item others z).0)

pub order_sorted : {T : Type 0} (cmp : T → T → Ordering) → IsTotalOrder cmp → IsExact cmp → (items : List T) → IsStrictlySortedBy cmp (in_order cmp items)
unfolding IsStrictlySortedBy
order_sorted cmp total exact [] = tt
order_sorted cmp total exact (item ∷ items) = put_sorted cmp total exact item (in_order cmp items) (order_sorted cmp total exact items)

-- what is ascending and has these members
pub order_is : {T : Type 0} (cmp : T → T → Ordering) → IsTotalOrder cmp → IsExact cmp → (found items : List T) → IsStrictlySortedBy cmp found → ((z : T) → Contains found z ↔ Contains items z) → found ≡ in_order cmp items
order_is cmp total exact found items sorted same =
    sorted_same cmp total found (in_order cmp items) sorted (order_sorted cmp total exact items) (λ z. ((λ h. (order_has cmp exact items z).1 ((same z).0 h)), λ h. (same z).1 ((order_has cmp exact items z).0 h)))
