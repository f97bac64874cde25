-- What is gathered from a list of places, and how many of them pass a test.
use Rattle.std.proofs.Common.{◌≡◌, ◌≢◌, ℕ, ◌+◌, Bool, true, false, not, cond, eqb, filter, List, [], ◌∷◌, ◌++◌, length, Option, Some, None, IsSome, refl, sym, ap, ◌∙◌, subst, inl, inr, ◌⊎◌, arith}
use Rattle.std.specs.Prelude.{filter_map}
use Rattle.std.specs.List.{cons_option}
use Rattle.std.proofs.lemmas.Bool.{cases_eq}
use Rattle.std.proofs.lemmas.Bool.Decides.{nat_tests}
use Rattle.index_rings.specs.Rings.{Lacks, Distinct, without}
use Rattle.index_rings.proofs.Runs.{without_here, without_other, without_lacking}
use Rattle.transform_table.specs.Rows.{one_if}

-- a place that the list has
abbrev pub Has : List ℕ → ℕ → Type 0
Has xs x = Lacks xs x → ⊥

pub has_head : (x : ℕ) (xs : List ℕ) → Has (x ∷ xs) x
has_head x xs l = l.0 refl

pub has_tail : (x y : ℕ) (xs : List ℕ) → Has xs y → Has (x ∷ xs) y
has_tail x y xs has l = has l.1

true_or_false : (b : Bool) → (b ≡ true) ⊎ (b ≡ false)
true_or_false true = inl refl
true_or_false false = inr refl

module _ {X : Type 0} where
  pub gathered_same : (f g : ℕ → Option X) (xs : List ℕ) → ((x : ℕ) → Has xs x → f x ≡ g x) → filter_map f xs ≡ filter_map g xs
  gathered_same f g [] same = refl
  gathered_same f g (x ∷ xs) same =
      ap (λ o. cons_option o (filter_map f xs)) (same x (has_head x xs)) ∙ ap (cons_option (g x)) (gathered_same f g xs (λ y has. same y (has_tail x y xs has)))

  -- one element, whether it passes or not
  gathers_one : (p : X → Bool) (f : ℕ → Option X) (o : Option X) (b : Bool) (x : ℕ) (ys : List X) (zs : List ℕ) → f x ≡ o → ((v : X) → o ≡ Some v → p v ≡ b) → filter p ys ≡ filter_map f zs
      → filter p (cons_option o ys) ≡ filter_map f (cond b (x ∷ zs) zs)
  gathers_one p f None true x ys zs e test rest = rest ∙ sym (ap (λ o. cons_option o (filter_map f zs)) e)
  gathers_one p f None false x ys zs e test rest = rest
  gathers_one p f (Some v) true x ys zs e test rest =
      ap (λ b. cond b (v ∷ filter p ys) (filter p ys)) (test v refl) ∙ ap (λ l. v ∷ l) rest ∙ sym (ap (λ o. cons_option o (filter_map f zs)) e)
  gathers_one p f (Some v) false x ys zs e test rest = ap (λ b. cond b (v ∷ filter p ys) (filter p ys)) (test v refl) ∙ rest

  -- a test of what is gathered, and the same test of the places
  pub gathered_filter : (p : X → Bool) (f : ℕ → Option X) (q : ℕ → Bool) (xs : List ℕ) → ((x : ℕ) → Has xs x → (v : X) → f x ≡ Some v → p v ≡ q x) → filter p (filter_map f xs) ≡ filter_map f (filter q xs)
  gathered_filter p f q [] test = refl
  gathered_filter p f q (x ∷ xs) test =
      gathers_one p f (f x) (q x) x (filter_map f xs) (filter q xs) refl (test x (has_head x xs)) (gathered_filter p f q xs (λ y has. test y (has_tail x y xs has)))

  -- a place whose element does not pass may be left out
  skips_one : (p : X → Bool) (o : Option X) (ys : List X) → ((v : X) → o ≡ Some v → p v ≡ false) → filter p (cons_option o ys) ≡ filter p ys
  skips_one p None ys test = refl
  skips_one p (Some v) ys test = ap (λ b. cond b (v ∷ filter p ys) (filter p ys)) (test v refl)

  keeps_one : (p : X → Bool) (o : Option X) (ys zs : List X) → filter p ys ≡ filter p zs → filter p (cons_option o ys) ≡ filter p (cons_option o zs)
  keeps_one p None ys zs e = e
  keeps_one p (Some v) ys zs e = ap (λ l. cond (p v) (v ∷ l) l) e

  -- where what is left out does not pass, nothing that passes is left out
  pub gathered_part : (p : X → Bool) (f : ℕ → Option X) (q : ℕ → Bool) (xs : List ℕ) → ((x : ℕ) (v : X) → f x ≡ Some v → q x ≡ false → p v ≡ false) → filter p (filter_map f (filter q xs)) ≡ filter p (filter_map f xs)
  gathered_part p f q [] test = refl
  gathered_part p f q (x ∷ xs) test = elim (true_or_false (q x)) [
    | inl passes ↦
        ap (λ b. filter p (filter_map f (cond b (x ∷ filter q xs) (filter q xs)))) passes ∙ keeps_one p (f x) (filter_map f (filter q xs)) (filter_map f xs) (gathered_part p f q xs test)
    | inr fails ↦
        ap (λ b. filter p (filter_map f (cond b (x ∷ filter q xs) (filter q xs)))) fails ∙ gathered_part p f q xs test ∙ sym (skips_one p (f x) (filter_map f xs) (λ v h. test x v h fails))
  ]

  pub gathered_without : (p : X → Bool) (f : ℕ → Option X) (i : ℕ) (xs : List ℕ) → ((v : X) → f i ≡ Some v → p v ≡ false) → filter p (filter_map f (without i xs)) ≡ filter p (filter_map f xs)
  gathered_without p f i xs test = gathered_part p f (λ x. not (eqb x i)) xs (λ x v h out. test v (sym (ap f (is_i x i out)) ∙ h))
    where
      is_i : (x i : ℕ) → not (eqb x i) ≡ false → x ≡ i
      is_i x i e = grind (arith, nat_tests)

  longer_by_one : (o : Option X) (ys : List X) → IsSome o → length (cons_option o ys) ≡ length ys + 1
  longer_by_one None ys s = absurd (cc)
  longer_by_one (Some v) ys s = omega arith

  pub gathered_length : (f : ℕ → Option X) (xs : List ℕ) → ((x : ℕ) → Has xs x → IsSome (f x)) → length (filter_map f xs) ≡ length xs
  gathered_length f [] some = refl
  gathered_length f (x ∷ xs) some =
      omega (arith, longer_by_one (f x) (filter_map f xs) (some x (has_head x xs)), gathered_length f xs (λ y has. some y (has_tail x y xs has)))

  -- where nothing passes, the others are all
  pub filter_whole : (p : X → Bool) (xs : List X) → filter p xs ≡ [] → filter (λ x. not (p x)) xs ≡ xs
  filter_whole p [] e = refl
  filter_whole p (x ∷ xs) e = elim (true_or_false (p x)) [
    | inl passes ↦ let bad : x ∷ filter p xs ≡ [] = sym (ap (λ b. cond b (x ∷ filter p xs) (filter p xs)) passes) ∙ e in absurd (cc)
    | inr fails ↦
        ap (λ b. cond (not b) (x ∷ filter (λ y. not (p y)) xs) (filter (λ y. not (p y)) xs)) fails ∙ ap (λ l. x ∷ l) (filter_whole p xs (sym (ap (λ b. cond b (x ∷ filter p xs) (filter p xs)) fails) ∙ e))
  ]

-- ---- how many places pass a test

pub passing_same : (p q : ℕ → Bool) (xs : List ℕ) → ((x : ℕ) → Has xs x → p x ≡ q x) → filter p xs ≡ filter q xs
passing_same p q [] same = refl
passing_same p q (x ∷ xs) same =
    ap (λ b. cond b (x ∷ filter p xs) (filter p xs)) (same x (has_head x xs)) ∙ ap (λ l. cond (q x) (x ∷ l) l) (passing_same p q xs (λ y has. same y (has_tail x y xs has)))

counts_one : (b : Bool) (x : ℕ) (xs : List ℕ) → length (cond b (x ∷ xs) xs) ≡ length xs + one_if b
counts_one true x xs = omega arith
counts_one false x xs = omega arith

pub passing_cons : (p : ℕ → Bool) (x : ℕ) (xs : List ℕ) → length (filter p (x ∷ xs)) ≡ length (filter p xs) + one_if (p x)
passing_cons p x xs = counts_one (p x) x (filter p xs)

pub passing_more : (p : ℕ → Bool) (i : ℕ) (xs : List ℕ) → length (filter p (xs ++ i ∷ [])) ≡ length (filter p xs) + one_if (p i)
passing_more p i [] = passing_cons p i []
passing_more p i (x ∷ xs) = omega (arith, passing_cons p x (xs ++ i ∷ []), passing_cons p x xs, passing_more p i xs)

pub passing_without : (p : ℕ → Bool) (i : ℕ) (xs : List ℕ) → Distinct xs → Has xs i → length (filter p xs) ≡ length (filter p (without i xs)) + one_if (p i)
passing_without p i [] d has = absurd (has tt)
passing_without p i (x ∷ xs) d has =
    elim (cases_eq x i) [
      | inl e ↦
          let rest : without i xs ≡ xs = without_lacking i xs (subst (λ y. Lacks xs y) e d.0) in
          passing_cons p x xs ∙ ap (λ y. length (filter p xs) + one_if (p y)) e ∙ ap (λ l. length (filter p l) + one_if (p i)) (sym (without_here i x xs e ∙ rest))
      | inr ne ↦
          omega (arith, passing_cons p x xs, passing_cons p x (without i xs), ap (λ l. length (filter p l)) (without_other i x xs ne), passing_without p i xs d.1 (λ l. has (ne, l)))
    ]

-- a place that passes is counted
pub passing_some : (p : ℕ → Bool) (i : ℕ) (xs : List ℕ) → Distinct xs → Has xs i → p i ≡ true → length (filter p xs) ≢ 0
passing_some p i xs d has passes zero = omega (arith, passing_without p i xs d has, ap one_if passes, zero)

-- a count that is not nothing counts a place
pub passing_one : (p : ℕ → Bool) (xs : List ℕ) → length (filter p xs) ≢ 0 → (i : ℕ) × (Has xs i × (p i ≡ true))
passing_one p [] some = absurd (some refl)
passing_one p (x ∷ xs) some = elim (true_or_false (p x)) [
  | inl passes ↦ (x, (has_head x xs, passes))
  | inr fails ↦ let r = passing_one p xs (λ z. some (passing_cons p x xs ∙ omega (arith, ap one_if fails, z))) in (r.0, (has_tail x r.0 xs r.1.0, r.1.1))
]
