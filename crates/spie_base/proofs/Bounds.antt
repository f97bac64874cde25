-- Tests of numbers by a bound, and what they tell.
use Rattle.std.proofs.Common.{◌≡◌, ℕ, ◌<◌, ◌≤◌, ◌==◌, true, false, nat_lt, ⊎_elim, arith, List, ◌∷◌, length}
use Rattle.std.proofs.lemmas.Bool.{cases_Bool}
use Rattle.std.proofs.lemmas.Bool.Decides.{nat_tests, Decides-eqb}

-- whether a number is past a bound
pub past : (most n : ℕ) → most < n → nat_lt most n ≡ true
past most n h = grind (arith, nat_tests)

pub is_past : (most n : ℕ) → nat_lt most n ≡ true → most < n
is_past most n e = grind (arith, nat_tests)

pub within : (most n : ℕ) → n ≤ most → nat_lt most n ≡ false
within most n h = grind (arith, nat_tests)

pub is_within : (most n : ℕ) → nat_lt most n ≡ false → n ≤ most
is_within most n e = grind (arith, nat_tests)

-- two numbers differ
pub differ : (a b : ℕ) → (a ≡ b → ⊥) → (a == b) ≡ false
differ a b n = ⊎_elim (λ e. absurd (n ((Decides-eqb a b).0 e))) (λ e. e) (cases_Bool (a == b))

-- a list with a first item is not empty
pub some_items : {X : Type 0} (x : X) (xs : List X) → (length (x ∷ xs) == 0) ≡ false
some_items x xs = differ (length (x ∷ xs)) 0 (λ e. omega arith)
