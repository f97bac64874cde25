-- Lists that change at one place, read by `get_elem?`, and counts over them.
use Rattle.std.proofs.Common.{◌≡◌, ℕ, zero, suc, ◌+◌, ◌<◌, ◌≤◌, ◌≢◌, ◌⊎◌, List, [], ◌∷◌, ◌++◌, length, set, sym, refl, ap, ◌∙◌, subst, inl, inr, ⊎_elim, arith}
use mathlib.Core.Option.{some, some-injective, some-ne-none}
use mathlib.Core.Logic.{dite}
use native.Mathlib.Decide.{ℕ_discrete}
use lib.ListN.{get_elem?}
use Rattle.gate_core.specs.Views.{View}
use Rattle.gate_core.specs.Invariant.{total}

module _ {A : Type 0} where
  pub at_set : (l : List A) (i j : ℕ) (a b : A) → get_elem? (set l i a) j ≡ some b → ((j ≡ i) × (a ≡ b)) ⊎ ((j ≢ i) × (get_elem? l j ≡ some b))
  at_set [] i j a b e = absurd (some-ne-none b (sym e))
  at_set (x ∷ xs) zero zero a b e = inl (refl, some-injective a b e)
  at_set (x ∷ xs) zero (suc j) a b e = inr ((λ h. omega arith), e)
  at_set (x ∷ xs) (suc i) zero a b e = inr ((λ h. omega arith), e)
  at_set (x ∷ xs) (suc i) (suc j) a b e = ⊎_elim (λ t. inl (ap suc t.0, t.1)) (λ t. let n = t.0 in inr ((λ h. n (omega arith)), t.1)) (at_set xs i j a b e)

  pub at_within : (l : List A) (i : ℕ) (a : A) → get_elem? l i ≡ some a → i < length l
  at_within [] i a e = absurd (some-ne-none a (sym e))
  at_within (x ∷ xs) zero a e = omega arith
  at_within (x ∷ xs) (suc i) a e = omega (arith, at_within xs i a e)

  pub set_here : (l : List A) (i : ℕ) (a b : A) → get_elem? l i ≡ some b → get_elem? (set l i a) i ≡ some a
  set_here [] i a b e = absurd (some-ne-none b (sym e))
  set_here (x ∷ xs) zero a b e = refl
  set_here (x ∷ xs) (suc i) a b e = set_here xs i a b e

  pub set_else : (l : List A) (i j : ℕ) (a : A) → j ≢ i → get_elem? (set l i a) j ≡ get_elem? l j
  set_else [] i j a n = refl
  set_else (x ∷ xs) zero zero a n = absurd (n refl)
  set_else (x ∷ xs) zero (suc j) a n = refl
  set_else (x ∷ xs) (suc i) zero a n = refl
  set_else (x ∷ xs) (suc i) (suc j) a n = set_else xs i j a (λ e. n (ap suc e))

  pub at_longer : (l m : List A) (i : ℕ) (a : A) → get_elem? l i ≡ some a → get_elem? (l ++ m) i ≡ some a
  at_longer [] m i a e = absurd (some-ne-none a (sym e))
  at_longer (x ∷ xs) m zero a e = e
  at_longer (x ∷ xs) m (suc i) a e = at_longer xs m i a e

  pub at_last : (l : List A) (a : A) → get_elem? (l ++ a ∷ []) (length l) ≡ some a
  at_last [] a = refl
  at_last (x ∷ xs) a = at_last xs a

  -- what stands in a list with one more item stood there before, or is that item
  pub at_snoc : (l : List A) (a b : A) (j : ℕ) → get_elem? (l ++ a ∷ []) j ≡ some b → (get_elem? l j ≡ some b) ⊎ ((j ≡ length l) × (a ≡ b))
  at_snoc [] a b zero e = inr (refl, some-injective a b e)
  at_snoc [] a b (suc j) e = absurd (some-ne-none b (sym e))
  at_snoc (x ∷ xs) a b zero e = inl e
  at_snoc (x ∷ xs) a b (suc j) e = ⊎_elim (λ t. inl t) (λ t. inr (ap suc t.0, t.1)) (at_snoc xs a b j e)

  pub same_at : (l : List A) (i : ℕ) (a b : A) → get_elem? l i ≡ some a → get_elem? l i ≡ some b → a ≡ b
  same_at l i a b e f = some-injective a b (sym e ∙ f)

  -- a fact of some item, kept where one item changes
  pub some_set : (P Q : A → Type 0) (l : List A) (i : ℕ) (v w : A) → get_elem? l i ≡ some v → ((u : A) → P u → Q u) → (P v → Q w)
      → (j : ℕ) × (u : A) × (get_elem? l j ≡ some u) × P u → (j : ℕ) × (u : A) × (get_elem? (set l i w) j ≡ some u) × Q u
  some_set P Q l i v w there others mine (j, u, at, p) = dite (ℕ_discrete j i)
      (λ e. let is : u ≡ v = same_at l i u v (subst (λ (k : ℕ). get_elem? l k ≡ some u) e at) there in (i, w, set_here l i w v there, mine (subst P is p)))
      (λ ne. (j, u, set_else l i j w ne ∙ at, others u p))

  -- a fact of some item after the change, brought back
  pub some_unset : (P Q : A → Type 0) (R : Type 0) (l : List A) (i : ℕ) (v w : A) → get_elem? l i ≡ some v → ((u : A) → Q u → P u) → (Q w → P v ⊎ R)
      → (j : ℕ) × (u : A) × (get_elem? (set l i w) j ≡ some u) × Q u → ((j : ℕ) × (u : A) × (get_elem? l j ≡ some u) × P u) ⊎ R
  some_unset P Q R l i v w there others mine (j, u, at, q) = ⊎_elim
      (λ t. ⊎_elim (λ p. inl (i, v, there, p)) (λ r. inr r) (mine (subst Q (sym t.1) q)))
      (λ t. inl (j, u, t.1, others u q)) (at_set l i j w u at)

pub total-set : (g : View → ℕ) (l : List View) (j : ℕ) (v w : View) → get_elem? l j ≡ some v → total g (set l j w) + g v ≡ total g l + g w
total-set g [] j v w e = absurd (some-ne-none v (sym e))
total-set g (x ∷ xs) zero v w e = omega (arith, ap g (some-injective x v e))
total-set g (x ∷ xs) (suc j) v w e = omega (arith, total-set g xs j v w e)

pub term_le : (g : View → ℕ) (l : List View) (j : ℕ) (v : View) → get_elem? l j ≡ some v → g v ≤ total g l
term_le g [] j v e = absurd (some-ne-none v (sym e))
term_le g (x ∷ xs) zero v e = omega (arith, ap g (some-injective x v e))
term_le g (x ∷ xs) (suc j) v e = omega (arith, term_le g xs j v e)

pub terms_le : (g : View → ℕ) (l : List View) (j k : ℕ) (v u : View) → k ≢ j → get_elem? l j ≡ some v → get_elem? l k ≡ some u → g v + g u ≤ total g l
terms_le g [] j k v u n e d = absurd (some-ne-none v (sym e))
terms_le g (x ∷ xs) zero zero v u n e d = absurd (n refl)
terms_le g (x ∷ xs) zero (suc k) v u n e d = omega (arith, ap g (some-injective x v e), term_le g xs k u d)
terms_le g (x ∷ xs) (suc j) zero v u n e d = omega (arith, ap g (some-injective x u d), term_le g xs j v e)
terms_le g (x ∷ xs) (suc j) (suc k) v u n e d = omega (arith, terms_le g xs j k v u (λ h. n (ap suc h)) e d)

pub total_le : (f g h : View → ℕ) (l : List View) → ((j : ℕ) (v : View) → get_elem? l j ≡ some v → f v ≤ g v + h v) → total f l ≤ total g l + total h l
total_le f g h [] k = omega arith
total_le f g h (x ∷ xs) k = omega (arith, k 0 x refl, total_le f g h xs (λ j v e. k (suc j) v e))
