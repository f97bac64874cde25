-- Numbers from one up to another: joined, shifted, counted and summed.
use Rattle.std.proofs.Common.{ℕ, zero, suc, ◌+◌, ◌<◌, ◌≡◌, Bool, cond, List, [], ◌∷◌, ◌++◌, map, filter, sum, count_by, All, refl, sym, ap, ◌∙◌, subst, arith}
use Rattle.std.specs.List.{range_with_len}
use Rattle.std.specs.List.Sorted.{IsStrictlyIncreasing}
use Rattle.std.proofs.lemmas.List.Elements.{All-head, All-tail, All-from_get_or}
use Rattle.std.proofs.lemmas.List.FromFn.{length-range_with_len, get_or-range_with_len, sum_by-map-range_with_len_more}
use Rattle.std.proofs.lemmas.List.Sums.{sum_by-cons, sum_by_push}

pub range-append : (a m n : ℕ) → range_with_len a (m + n) ≡ range_with_len a m ++ range_with_len (a + m) n
range-append a zero n = ap (range_with_len a) (let e : zero + n ≡ n = omega arith in e) ∙ ap (λ k. range_with_len k n) (let e : a ≡ a + zero = omega arith in e)
range-append a (suc m) n =
    ap (range_with_len a) (let e : suc m + n ≡ suc (m + n) = omega arith in e)
    ∙ ap (λ rest. a ∷ rest) (range-append (a + 1) m n)
    ∙ ap (λ k. a ∷ (range_with_len (a + 1) m ++ range_with_len k n)) (let e : a + 1 + m ≡ a + suc m = omega arith in e)

pub range-more : (m : ℕ) → range_with_len 0 (suc m) ≡ range_with_len 0 m ++ m ∷ []
range-more m =
    ap (range_with_len 0) (let e : suc m ≡ m + 1 = omega arith in e) ∙ range-append 0 m 1
    ∙ ap (λ k. range_with_len 0 m ++ k ∷ []) (let e : 0 + m ≡ m = omega arith in e)

-- what holds of each number below m
pub All-range : (P : ℕ → Type 0) (m : ℕ) → ((p : ℕ) → p < m → P p) → All P (range_with_len 0 m)
All-range P m each = All-from_get_or P (range_with_len 0 m) 0
    (λ i within.
    let below : i < m = rw (sym (length-range_with_len 0 m)) within in
    subst P (sym (get_or-range_with_len 0 m i 0 below)) (each (0 + i) (omega arith)))

-- tests that agree on a list keep the same of it
pub filter_agree_on : (f g : ℕ → Bool) (xs : List ℕ) → All (λ x. f x ≡ g x) xs → filter f xs ≡ filter g xs
filter_agree_on f g [] agree = refl
filter_agree_on f g (x ∷ xs) agree =
    ap (λ b. cond b (x ∷ filter f xs) (filter f xs)) (All-head (λ y. f y ≡ g y) x xs agree)
    ∙ ap (λ rest. cond (g x) (x ∷ rest) rest) (filter_agree_on f g xs (All-tail (λ y. f y ≡ g y) x xs agree))

pub filter_agree_below : (f g : ℕ → Bool) (m : ℕ) → ((p : ℕ) → p < m → f p ≡ g p) → filter f (range_with_len 0 m) ≡ filter g (range_with_len 0 m)
filter_agree_below f g m agree = filter_agree_on f g (range_with_len 0 m) (All-range (λ p. f p ≡ g p) m agree)

-- a count over shifted numbers
pub count_shift : (p q : ℕ → Bool) (a c n : ℕ) → ((b : ℕ) → b < c + n → p (a + b) ≡ q b) → count_by p (range_with_len (a + c) n) ≡ count_by q (range_with_len c n)
count_shift p q a c zero agree = refl
count_shift p q a c (suc n) agree =
    let one : ℕ → Bool → ℕ = λ rest b. cond b 1 0 + rest in
    sum_by-cons (λ x. cond (p x) 1 0) (a + c) (range_with_len (a + c + 1) n)
    ∙ ap (one (count_by p (range_with_len (a + c + 1) n))) (agree c (omega arith))
    ∙ ap (λ rest. cond (q c) 1 0 + rest)
    (ap (λ k. count_by p (range_with_len k n)) (let e : a + c + 1 ≡ a + (c + 1) = omega arith in e)
    ∙ count_shift p q a (c + 1) n (λ b within. agree b (omega arith)))
    ∙ sym (sum_by-cons (λ x. cond (q x) 1 0) c (range_with_len (c + 1) n))

-- one more term of a sum, and of a count
pub sum-more : (f : ℕ → ℕ) (m : ℕ) → sum (map f (range_with_len 0 (suc m))) ≡ sum (map f (range_with_len 0 m)) + f m
sum-more f m =
    ap (λ k. sum (map f (range_with_len 0 k))) (let e : suc m ≡ m + 1 = omega arith in e)
    ∙ sum_by-map-range_with_len_more (λ x. x) f 0 m m (omega arith)

pub count-more : (p : ℕ → Bool) (m : ℕ) → count_by p (range_with_len 0 (suc m)) ≡ count_by p (range_with_len 0 m) + cond (p m) 1 0
count-more p m = ap (count_by p) (range-more m) ∙ sum_by_push (λ x. cond (p x) 1 0) (range_with_len 0 m) m

pub range-ascending : (m : ℕ) → IsStrictlyIncreasing (range_with_len 0 m)
range-ascending m k within =
    let after : k + 1 < m = rw (sym (length-range_with_len 0 m)) within in
    rw (get_or-range_with_len 0 m k 0 (omega arith), get_or-range_with_len 0 m (k + 1) 0 after) (omega arith)
