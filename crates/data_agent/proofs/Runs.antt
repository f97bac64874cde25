-- Runs of numbers: what a test keeps of one, and tests along one.
use Rattle.std.proofs.Common.{ℕ, zero, suc, ◌≡◌, ◌≤◌, ◌<◌, ◌+◌, ◌∙◌, ◌∷◌, [], List, length, get_or, map, filter, cond, Bool, true, false, ◌||◌, sym, ap, refl, subst, inl, inr, arith}
use Rattle.std.specs.List.{list_any, range_with_len}
use Rattle.std.proofs.lemmas.Bool.{cases_lt}

-- a test holds of these numbers, and of no others from start on below an end
pub record IsRun (p : ℕ → Bool) (start end first count : ℕ) : Type 0 where
  pub from : start ≤ first
  pub to : first + count ≤ end
  pub inside : (i : ℕ) → first ≤ i → i < first + count → p i ≡ true
  pub before : (i : ℕ) → start ≤ i → i < first → p i ≡ false
  pub behind : (i : ℕ) → first + count ≤ i → i < end → p i ≡ false

run_at : (p : ℕ → Bool) (start n first count : ℕ) → IsRun p start (start + n) first count → filter p (range_with_len start n) ≡ range_with_len first count
run_at p start zero first count r = subst (λ c. [] ≡ range_with_len first c) (let e : 0 ≡ count = let a = r.from in let b = r.to in omega arith in e) refl
run_at p start (suc n) first zero r =
    let one : p start ≡ false = elim (cases_lt start first) [ inl lt ↦ r.before start (omega arith) lt | inr ge ↦ r.behind start (omega arith) (omega arith) ] in
    ap (λ b. cond b (start ∷ filter p (range_with_len (start + 1) n)) (filter p (range_with_len (start + 1) n))) one
    ∙ run_at p (start + 1) n (start + 1) zero (record {
      from = omega arith;
      to = omega arith;
      inside = λ i le lt. absurd (omega arith);
      before = λ i le lt. absurd (omega arith);
      behind = λ i le lt. elim (cases_lt i first) [ inl early ↦ r.before i (omega arith) early | inr late ↦ r.behind i (omega arith) (omega arith) ];
    })
run_at p start (suc n) first (suc count) r =
    elim (cases_lt start first) [
      | inl early ↦
          ap (λ b. cond b (start ∷ filter p (range_with_len (start + 1) n)) (filter p (range_with_len (start + 1) n))) (r.before start (omega arith) early)
          ∙ run_at p (start + 1) n first (suc count) (record {
            from = omega arith;
            to = let t = r.to in omega arith;
            inside = λ i le lt. r.inside i le lt;
            before = λ i le lt. r.before i (omega arith) lt;
            behind = λ i le lt. r.behind i le (omega arith);
          })
      | inr late ↦
          let at : start ≡ first = let f = r.from in omega arith in
          ap (λ b. cond b (start ∷ filter p (range_with_len (start + 1) n)) (filter p (range_with_len (start + 1) n))) (r.inside start (omega arith) (omega arith))
          ∙ ap (λ xs. start ∷ xs) (run_at p (start + 1) n (start + 1) count (record {
            from = omega arith;
            to = let t = r.to in omega arith;
            inside = λ i le lt. r.inside i (omega arith) (omega arith);
            before = λ i le lt. absurd (omega arith);
            behind = λ i le lt. r.behind i (omega arith) (omega arith);
          }))
          ∙ ap (λ f. range_with_len f (suc count)) at
    ]

pub filter_run : (p : ℕ → Bool) (start n end first count : ℕ) → start + n ≡ end → IsRun p start end first count → filter p (range_with_len start n) ≡ range_with_len first count
filter_run p start n end first count e r = run_at p start n first count (subst (λ m. IsRun p start m first count) (sym e) r)

-- tests that agree along a list and a run of numbers
pub any_along : {X : Type 0} (f : X → Bool) (g : ℕ → Bool) (xs : List X) (first : ℕ) → ((i : ℕ) (d : X) → i < length xs → f (get_or xs i d) ≡ g (first + i)) → list_any f xs ≡ list_any g (range_with_len first (length xs))
any_along f g [] first each = refl
any_along f g (x ∷ xs) first each =
    ap (λ b. b || list_any f xs) (each 0 x (omega arith) ∙ ap g (let e : first + 0 ≡ first = omega arith in e))
    ∙ ap (λ b. g first || b) (any_along f g xs (first + 1) (λ i d lt. each (suc i) d (omega arith) ∙ ap g (let e : first + suc i ≡ first + 1 + i = omega arith in e)))

pub any_map : {X Y : Type 0} (p : Y → Bool) (f : X → Y) (xs : List X) → list_any p (map f xs) ≡ list_any (λ x. p (f x)) xs
any_map p f [] = refl
any_map p f (x ∷ xs) = ap (λ b. p (f x) || b) (any_map p f xs)
