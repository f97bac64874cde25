-- Ascending lists: there is one with given members.
use Rattle.std.proofs.Common.{◌≡◌, ◌∙◌, ◌∷◌, [], ◌↔◌, ⊎_elim, sym, refl, subst, ap, List}
use Rattle.std.specs.Cmp.{IsTotalOrder}
use Rattle.std.specs.List.{Contains, AllByRecursion}
use Rattle.std.specs.List.Sorted.{IsStrictlySortedBy}
use Rattle.std.specs.Ordering.{ordering_reverse}
use Rattle.std.specs.declared.cmp.Ordering.{Ordering}
use Rattle.std.specs.declared.cmp.Ordering.TheVariants.{Less, Greater}
use Rattle.spie_base.proofs.Membership.{has_none, has_first, has_later, has_cases}

-- what holds of all items holds of one
pub of_each : {K : Type 0} (P : K → Type 0) (xs : List K) (z : K) → AllByRecursion P xs → Contains xs z → P z
of_each P [] z all h = absurd (has_none z h)
of_each P (x ∷ xs) z all h = ⊎_elim (λ e. subst P e all.0) (λ later. of_each P xs z all.1 later) (has_cases x xs z h)

-- no two items are below each other
pub not_both : {K : Type 0} (R : K → K → Ordering) → IsTotalOrder R → (x y : K) → R x y ≡ Less → R y x ≡ Less → ⊥
not_both R total x y below above = let e : Less ≡ Greater = sym below ∙ total.antisymm x y ∙ ap ordering_reverse above in cc

pub sorted_same : {K : Type 0} (R : K → K → Ordering) → IsTotalOrder R → (xs ys : List K) → IsStrictlySortedBy R xs → IsStrictlySortedBy R ys
    → ((z : K) → Contains xs z ↔ Contains ys z) → xs ≡ ys
unfolding IsStrictlySortedBy
sorted_same R total [] [] s t same = refl
sorted_same R total [] (y ∷ ys) s t same = absurd (has_none y ((same y).1 (has_first y ys)))
sorted_same R total (x ∷ xs) [] s t same = absurd (has_none x ((same x).0 (has_first x xs)))
sorted_same {K} R total (x ∷ xs) (y ∷ ys) s t same =
    let above_x : (z : K) → Contains xs z → R x z ≡ Less = λ z h. of_each (λ w. R x w ≡ Less) xs z s.0 h in
    let above_y : (z : K) → Contains ys z → R y z ≡ Less = λ z h. of_each (λ w. R y w ≡ Less) ys z t.0 h in
    let head : x ≡ y = ⊎_elim
    (λ e. sym e)
    (λ x_later. ⊎_elim (λ e. e) (λ y_later. absurd (not_both R total x y (above_x y y_later) (above_y x x_later))) (has_cases x xs y ((same y).1 (has_first y ys))))
    (has_cases y ys x ((same x).0 (has_first x xs))) in
    let tails : (z : K) → Contains xs z ↔ Contains ys z = λ z. (
      (λ h. ⊎_elim
          (λ e. let itself : R x x ≡ Less = subst (λ w. R x w ≡ Less) (sym (head ∙ e)) (above_x z h) in absurd (not_both R total x x itself itself))
          (λ later. later)
          (has_cases y ys z ((same z).0 (has_later x xs z h)))),
      (λ h. ⊎_elim
          (λ e. let itself : R y y ≡ Less = subst (λ w. R y w ≡ Less) (sym e ∙ head) (above_y z h) in absurd (not_both R total y y itself itself))
          (λ later. later)
          (has_cases x xs z ((same z).1 (has_later y ys z h)))),
    ) in
    ap (λ v. v ∷ xs) head ∙ ap (λ l. y ∷ l) (sorted_same R total xs ys s.1 t.1 tails)
