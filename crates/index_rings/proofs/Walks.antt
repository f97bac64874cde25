-- A walk gives the chain.
use Rattle.std.proofs.Common.{◌≡◌, ◌≢◌, ℕ, zero, suc, ◌≤◌, List, [], ◌∷◌, length, Option, Some, None, cond, eqb, refl, sym, ap, ◌∙◌, subst, inl, inr, arith}
use Rattle.std.proofs.lemmas.Bool.Decides.{nat_tests}
use Rattle.std.proofs.lemmas.Bool.{cases_eq}
use Rattle.index_rings.specs.Rings.{Run, IsChain, Lacks, Distinct}
use Rattle.index_rings.specs.Orders.{labelled}
use Rattle.index_rings.specs.Walk.{walked}
use Rattle.index_rings.proofs.Parts.{labelled_yes, labelled_no}

ends : (n f : ℕ) → n ≡ f → cond (eqb n f) None (Some n) ≡ None
ends n f e = grind (arith, nat_tests)

goes_on : (n f : ℕ) → n ≢ f → cond (eqb n f) None (Some n) ≡ Some n
goes_on n f e = grind (arith, nat_tests)

walked_none : (next : ℕ → ℕ) (f n : ℕ) → walked next f n None ≡ []
walked_none next f zero = refl
walked_none next f (suc n) = refl

-- from a place on, those of the run that leads back to the first
walked_run : (next : ℕ → ℕ) (f : ℕ) (xs : List ℕ) (x n : ℕ) → Lacks xs f → Run next (next x) xs f → length xs ≤ n → walked next f n (cond (eqb (next x) f) None (Some (next x))) ≡ xs
unfolding Run
walked_run next f [] x n l r h = ap (walked next f n) (ends (next x) f r) ∙ walked_none next f n
walked_run next f (y ∷ ys) x zero l r h = absurd (omega arith)
walked_run next f (y ∷ ys) x (suc n) l r h =
    let at : cond (eqb (next x) f) None (Some (next x)) ≡ Some y = goes_on (next x) f (λ e. l.0 (sym r.0 ∙ e)) ∙ ap (λ z. Some z) r.0 in
    ap (walked next f (suc n)) at ∙ ap (λ zs. y ∷ zs) (walked_run next f ys y n l.1 r.1 (omega arith))

pub walked_chain : (next : ℕ → ℕ) (first : Option ℕ) (f : ℕ) (xs : List ℕ) (n : ℕ) → Distinct xs → IsChain next first xs → ((g : ℕ) → first ≡ Some g → f ≡ g) → length xs ≤ n → walked next f n first ≡ xs
unfolding IsChain
walked_chain next first f [] n d r g h = ap (walked next f n) r ∙ walked_none next f n
walked_chain next first f (x ∷ xs) zero d r g h = absurd (omega arith)
walked_chain next first f (x ∷ xs) (suc n) d r g h =
    let e : f ≡ x = g x r.0 in
    ap (walked next f (suc n)) r.0 ∙ ap (λ zs. x ∷ zs) (walked_run next f xs x n (subst (λ y. Lacks xs y) (sym e) d.0) (subst (λ y. Run next (next x) xs y) (sym e) r.1) (omega arith))

pub labelled_short : (label : ℕ → ℕ) (c : ℕ) (xs : List ℕ) → length (labelled label c xs) ≤ length xs
labelled_short label c [] = omega arith
labelled_short label c (x ∷ xs) =
    elim (cases_eq (label x) c) [
      | inl e ↦ omega (arith, ap length (labelled_yes label c x xs e), labelled_short label c xs)
      | inr ne ↦ omega (arith, ap length (labelled_no label c x xs ne), labelled_short label c xs)
    ]
