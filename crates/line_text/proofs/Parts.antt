-- A text that is cut has a first part.
use Rattle.std.proofs.Common.{ℕ, ◌≡◌, ◌+◌, ◌≤◌, List, [], ◌∷◌, length, refl, arith, Bool, true, false, cond, ◌==◌, lit≤}
use Rattle.std.specs.List.{onto_first}
use Rattle.line_text.specs.Text.{lines}

-- there is always a part
pub record Parts (parts : List (List ℕ)) : Type 0 where
  pub first : List ℕ
  pub more : List (List ℕ)
  pub are : parts ≡ first ∷ more

onto : (x : ℕ) (parts : List (List ℕ)) → Parts (onto_first x parts)
onto x [] = record { first = x ∷ []; more = []; are = refl }
onto x (p ∷ ps) = record { first = x ∷ p; more = ps; are = refl }

chosen : (b : Bool) (xs ys : List (List ℕ)) → Parts xs → Parts ys → Parts (cond b xs ys)
chosen true xs ys p q = p
chosen false xs ys p q = q

pub some_part : (xs : List ℕ) → Parts (lines xs)
some_part [] = record { first = []; more = []; are = refl }
some_part (x ∷ xs) = chosen (x == 10) _ _ (record { first = []; more = lines xs; are = refl }) (onto x (lines xs))

onto_length : (x : ℕ) (parts : List (List ℕ)) (n : ℕ) → length parts ≤ n → 1 ≤ n → length (onto_first x parts) ≤ n
onto_length x [] n h one = one
onto_length x (p ∷ ps) n h one = h

either_length : (b : Bool) (xs ys : List (List ℕ)) (n : ℕ) → length xs ≤ n → length ys ≤ n → length (cond b xs ys) ≤ n
either_length true xs ys n p q = p
either_length false xs ys n p q = q

-- and at most one more than there are bytes
pub few_parts : (text : List ℕ) → length (lines text) ≤ length text + 1
few_parts [] = lit≤ tt
few_parts (x ∷ xs) =
    let h = few_parts xs in
    either_length (x == 10) ([] ∷ lines xs) (onto_first x (lines xs)) (length (x ∷ xs) + 1) (omega (arith, h)) (onto_length x (lines xs) _ (omega (arith, h)) (omega arith))
