-- Lists of numbers that rise.
use Rattle.std.proofs.Common.{ℕ, ◌≡◌, ◌≤◌, ◌<◌, ◌∷◌, [], ◌++◌, List, map, filter, cond, Bool, true, false, sym, subst, inl, inr, arith, ◌∙◌}
use Rattle.std.specs.Cmp.{nat_cmp_is}
use Rattle.std.specs.List.{Contains, AllByRecursion}
use Rattle.std.specs.List.Sorted.{IsStrictlySortedBy}
use Rattle.std.specs.Ordering.{nat_cmp}
use Rattle.std.specs.declared.cmp.Ordering.TheVariants.{Less, Equal, Greater}
use Rattle.std.proofs.lemmas.Bool.{cases_lt}
use Rattle.spie_base.proofs.Membership.{has_none, has_first, has_later, has_cases}

pub less_is : (x y : ℕ) → x < y → nat_cmp x y ≡ Less
less_is x y lt = sym (nat_cmp_is x y Less lt)

all_more : {X : Type 0} (key : X → ℕ) (x : X) (xs : List X) (y : X) → AllByRecursion (λ z. nat_cmp (key x) (key z) ≡ Less) xs → nat_cmp (key x) (key y) ≡ Less → AllByRecursion (λ z. nat_cmp (key x) (key z) ≡ Less) (xs ++ y ∷ [])
all_more key x [] y all last = (last, tt)
all_more key x (z ∷ zs) y all last = (all.0, all_more key x zs y all.1 last)

-- one element more behind all others
pub rising_by : {X : Type 0} (key : X → ℕ) (xs : List X) (y : X) → IsStrictlySortedBy (λ a b. nat_cmp (key a) (key b)) xs → ((x : X) → Contains xs x → key x < key y) → IsStrictlySortedBy (λ a b. nat_cmp (key a) (key b)) (xs ++ y ∷ [])
unfolding IsStrictlySortedBy
rising_by key [] y s lt = (tt, tt)
rising_by key (x ∷ xs) y s lt = (all_more key x xs y s.0 (less_is (key x) (key y) (lt x (has_first x xs))), rising_by key xs y s.1 (λ z has. lt z (has_later x xs z has)))

pub rising_push : (xs : List ℕ) (y : ℕ) → IsStrictlySortedBy nat_cmp xs → ((x : ℕ) → Contains xs x → x < y) → IsStrictlySortedBy nat_cmp (xs ++ y ∷ [])
rising_push xs y s lt = rising_by (λ n. n) xs y s lt

all_where : {X : Type 0} (key : X → ℕ) (x : X) (xs : List X) (P : ℕ → Type 0) (b : Bool) → P (key x) → AllByRecursion P (map key xs) → AllByRecursion P (map key (cond b (x ∷ xs) xs))
all_where key x xs P true first rest = (first, rest)
all_where key x xs P false first rest = rest

all_keep : {X : Type 0} (key : X → ℕ) (p : X → Bool) (P : ℕ → Type 0) (xs : List X) → AllByRecursion P (map key xs) → AllByRecursion P (map key (filter p xs))
all_keep key p P [] all = tt
all_keep key p P (x ∷ xs) all = all_where key x (filter p xs) P (p x) all.0 (all_keep key p P xs all.1)

rising_keep : {X : Type 0} (key : X → ℕ) (p : X → Bool) (x : X) (xs : List X) (b : Bool) → AllByRecursion (λ y. nat_cmp (key x) y ≡ Less) (map key xs) → IsStrictlySortedBy nat_cmp (map key (filter p xs)) → IsStrictlySortedBy nat_cmp (map key (cond b (x ∷ filter p xs) (filter p xs)))
unfolding IsStrictlySortedBy
rising_keep key p x xs true all s = (all_keep key p (λ y. nat_cmp (key x) y ≡ Less) xs all, s)
rising_keep key p x xs false all s = s

-- a test keeps lists that rise
pub rising_filter : {X : Type 0} (key : X → ℕ) (p : X → Bool) (xs : List X) → IsStrictlySortedBy nat_cmp (map key xs) → IsStrictlySortedBy nat_cmp (map key (filter p xs))
unfolding IsStrictlySortedBy
rising_filter key p [] s = tt
rising_filter key p (x ∷ xs) s = rising_keep key p x xs (p x) s.0 (rising_filter key p xs s.1)

not_less : (x y : ℕ) → y ≤ x → nat_cmp x y ≡ Less → ⊥
not_less x y ge e = elim (cases_lt y x) [
  | inl lt ↦ let f : Less ≡ Greater = sym e ∙ sym (nat_cmp_is x y Greater lt) in cc
  | inr le ↦ let f : Less ≡ Equal = sym e ∙ sym (nat_cmp_is x y Equal (let g : x ≡ y = omega arith in g)) in cc
]

is_less : (x y : ℕ) → nat_cmp x y ≡ Less → x < y
is_less x y e = elim (cases_lt x y) [
  | inl lt ↦ lt
  | inr ge ↦ absurd (not_less x y ge e)
]

-- what stands behind a number is greater
pub each_less : (x : ℕ) (xs : List ℕ) → AllByRecursion (λ y. nat_cmp x y ≡ Less) xs → (y : ℕ) → Contains xs y → x < y
each_less x [] all y has = absurd (has_none y has)
each_less x (z ∷ zs) all y has = elim (has_cases z zs y has) [
  | inl here ↦ subst (λ n. x < n) here (is_less x z all.0)
  | inr later ↦ each_less x zs all.1 y later
]
