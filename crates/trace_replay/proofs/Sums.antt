-- Counts of faults, sums over routers, and lists that grow by one.
use Rattle.std.proofs.Common.{ℕ, zero, suc, ◌≡◌, ◌≢◌, ◌≤◌, ◌<◌, ◌+◌, ◌∷◌, [], ◌++◌, ◌∙◌, ◌⊎◌, inl, inr, ⊎_elim, Bool, true, false, ◌==◌, List, length, get_or, sym, ap, refl, subst, arith, add-one, below_more}
use Rattle.std.specs.Prelude.{slice_get, Some}
use Rattle.std.proofs.lemmas.Bool.{eq-eqb, eqb-true, false≢true}
use Rattle.spie_base.specs.Causes.{RoseBy}
use Rattle.trace_history.specs.Routers.{sum_over}

-- ---- counts of faults

pub rose_add : (n m a b c : ℕ) → RoseBy n a b → RoseBy m b c → RoseBy (n + m) a c
rose_add n m a b c r s = omega arith

pub rose_less : (n m a b : ℕ) → RoseBy n a b → m ≤ n → RoseBy m a b
rose_less n m a b r l = omega arith

pub rose_none : (a b : ℕ) → a ≤ b → RoseBy 0 a b
rose_none a b l = omega arith

-- ---- two routers are the same or not

same_by : (b : Bool) (r q : ℕ) → (r == q) ≡ b → (r ≡ q) ⊎ (r ≢ q)
same_by true r q e = inl (eqb-true r q e)
same_by false r q e = inr (λ s. false≢true (sym e ∙ eq-eqb r q s))

pub same_or : (r q : ℕ) → (r ≡ q) ⊎ (r ≢ q)
same_or r q = same_by (r == q) r q refl

-- ---- sums over routers

pub sum_same : (n : ℕ) (g h : ℕ → ℕ) → ((r : ℕ) → r < n → g r ≡ h r) → sum_over n g ≡ sum_over n h
sum_same zero g h e = refl
sum_same (suc n) g h e = ap (λ x. x + g n) (sum_same n g h (λ r l. e r (omega arith))) ∙ ap (λ x. sum_over n h + x) (e n (omega arith))

pub sum_more : (n : ℕ) (g h : ℕ → ℕ) (x : ℕ) → ((r : ℕ) → r < n → g r ≡ h r) → g n ≡ x → sum_over (n + 1) g ≡ sum_over n h + x
sum_more n g h x e last = ap (λ k. sum_over k g) (add-one n) ∙ ap (λ y. y + g n) (sum_same n g h e) ∙ ap (λ y. sum_over n h + y) last

pub sum_none : (n : ℕ) → sum_over n (λ r. 0) ≡ 0
sum_none zero = refl
sum_none (suc n) = let e = sum_none n in omega (arith, e)

pub sum_less : (n : ℕ) (g h : ℕ → ℕ) → ((r : ℕ) → r < n → g r ≤ h r) → sum_over n g ≤ sum_over n h
sum_less zero g h l = omega arith
sum_less (suc n) g h l = let a = sum_less n g h (λ r m. l r (omega arith)) in let b = l n (omega arith) in omega (arith, a, b)

pub sum_add : (n : ℕ) (g h : ℕ → ℕ) → sum_over n (λ r. g r + h r) ≡ sum_over n g + sum_over n h
sum_add zero g h = refl
sum_add (suc n) g h = let e = sum_add n g h in omega (arith, e)

pub sum_update : (n : ℕ) (g h : ℕ → ℕ) (q x : ℕ) → q < n → h q ≡ g q + x → ((r : ℕ) → r ≢ q → h r ≡ g r) → sum_over n h ≡ sum_over n g + x
sum_update zero g h q x l e more = absurd (omega (arith, l))
sum_update (suc n) g h q x l e more =
    ⊎_elim
    (λ (s : q ≡ n).
    let a = sum_same n h g (λ r m. more r (let P : ℕ → Type 0 = λ k. r ≢ k in subst P (sym s) (let ne : r ≢ n = omega (arith, m) in ne))) in
    let b : h n ≡ g n + x = (let P : ℕ → Type 0 = λ k. h k ≡ g k + x in subst P s e) in omega (arith, a, b))
    (λ (ne : q ≢ n).
    let a = sum_update n g h q x (let m : q < n = omega (arith, l, ne) in m) e more in
    let b = more n (λ s. ne (sym s)) in omega (arith, a, b))
    (same_or q n)

-- ---- lists

pub get_push_same : {X : Type 0} (xs : List X) (x d : X) (i : ℕ) → length xs ≡ i → get_or (xs ++ x ∷ []) i d ≡ x
get_push_same [] x d i e = subst (λ (n : ℕ). get_or (x ∷ []) n d ≡ x) e refl
get_push_same (y ∷ xs) x d i e = subst (λ (n : ℕ). get_or (y ∷ (xs ++ x ∷ [])) n d ≡ x) e (get_push_same xs x d (length xs) refl)

pub get_push_other : {X : Type 0} (xs : List X) (x d : X) (i : ℕ) → i < length xs → get_or (xs ++ x ∷ []) i d ≡ get_or xs i d
get_push_other [] x d i l = absurd (omega arith)
get_push_other (y ∷ xs) x d zero l = refl
get_push_other (y ∷ xs) x d (suc i) l = get_push_other xs x d i (omega arith)

-- what holds of each item, holds with one more
pub each_push : {X : Type 0} (P : ℕ → X → Type 0) (xs : List X) (x : X) (n : ℕ) → length xs ≡ n → ((i : ℕ) (d : X) → i < n → P i (get_or xs i d)) → P n x
    → (i : ℕ) (d : X) → i < n + 1 → P i (get_or (xs ++ x ∷ []) i d)
each_push {X = X} P xs x n count before last i d l = below_more (λ k. P k (get_or (xs ++ x ∷ []) k d)) n
    (λ k m. let Q : X → Type 0 = λ y. P k y in subst Q (sym (get_push_other xs x d k (omega (arith, count, m)))) (before k d m))
    (let Q : X → Type 0 = λ y. P n y in subst Q (sym (get_push_same xs x d n count)) last) i l

pub slice_push_same : {X : Type 0} (xs : List X) (x : X) (i : ℕ) → length xs ≡ i → slice_get (xs ++ x ∷ []) i ≡ Some x
slice_push_same [] x i e = subst (λ (n : ℕ). slice_get (x ∷ []) n ≡ Some x) e refl
slice_push_same (y ∷ xs) x i e = subst (λ (n : ℕ). slice_get (y ∷ (xs ++ x ∷ [])) n ≡ Some x) e (slice_push_same xs x (length xs) refl)

pub slice_push_other : {X : Type 0} (xs : List X) (x : X) (i : ℕ) → i < length xs → slice_get (xs ++ x ∷ []) i ≡ slice_get xs i
slice_push_other [] x i l = absurd (omega arith)
slice_push_other (y ∷ xs) x zero l = refl
slice_push_other (y ∷ xs) x (suc i) l = slice_push_other xs x i (omega arith)

pub get_at : {X : Type 0} (xs : List X) (i : ℕ) (d : X) → i < length xs → slice_get xs i ≡ Some (get_or xs i d)
get_at [] i d h = absurd (omega arith)
get_at (x ∷ xs) zero d h = refl
get_at (x ∷ xs) (suc i) d h = get_at xs i d (omega arith)

-- a list with an item has one to begin with
pub some_of : {X : Type 0} (xs : List X) (i : ℕ) → i < length xs → X
some_of [] i h = absurd (omega arith)
some_of (x ∷ xs) i h = x
