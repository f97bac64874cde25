-- Bits of words that stand one behind another, and the slot in which a page stands.
use Rattle.std.proofs.Common.{◌≡◌, ℕ, ◌+◌, ◌*◌, ◌<◌, ◌≤◌, ◌==◌, ◌⊎◌, Bool, true, false, cond, List, ◌++◌, length, get_or, count_by, sym, ap, ◌∙◌, inl, inr, ⊎_elim, arith, length-append, lt-ltb, le-ltb}
use Rattle.std.specs.Prelude.{Some, None, position}
use Rattle.std.specs.List.{range_with_len, position_or_len}
use Rattle.std.proofs.lemmas.Bool.{cases_lt}
use Rattle.std.proofs.lemmas.List.Sums.{sum_by-append, length-filter, count_by-le-length, fails_before_first, passes_at_first}
use Rattle.std.proofs.lemmas.List.FromFn.{length-range_with_len}
use Rattle.bloom_page.specs.Bits.{bit_in, is_set, members_of}
use Rattle.bloom_page.proofs.BitFacts.{bit_in-append_front, bit_in-append_back}
use Rattle.bloom_page.proofs.Ranges.{range-append, count_shift}

-- ---- how many bits are set

counted : (words : List ℕ) → length (members_of words) ≡ count_by (is_set words) (range_with_len 0 (64 * length words))
unfolding members_of
counted words = length-filter (is_set words) (range_with_len 0 (64 * length words))

pub members_most : (words : List ℕ) → length (members_of words) ≤ 64 * length words
members_most words =
    omega (arith, counted words, count_by-le-length (is_set words) (range_with_len 0 (64 * length words)), length-range_with_len 0 (64 * length words))

pub length-members_of-append : (xs ys : List ℕ) → length (members_of (xs ++ ys)) ≡ length (members_of xs) + length (members_of ys)
length-members_of-append xs ys =
    let a : ℕ = 64 * length xs in
    let b : ℕ = 64 * length ys in
    let both = is_set (xs ++ ys) in
    counted (xs ++ ys)
    ∙ ap (λ (n : ℕ). count_by both (range_with_len 0 n)) (let e : 64 * length (xs ++ ys) ≡ a + b = omega (arith, length-append xs ys) in e)
    ∙ ap (count_by both) (range-append 0 a b)
    ∙ sum_by-append (λ (p : ℕ). cond (both p) 1 0) (range_with_len 0 a) (range_with_len (0 + a) b)
    ∙ ap (λ (n : ℕ). n + count_by both (range_with_len (0 + a) b))
    (count_shift both (is_set xs) 0 0 a (λ i lt. ap (λ (x : ℕ). x == 1) (ap (bit_in (xs ++ ys)) (let e : 0 + i ≡ i = omega arith in e) ∙ bit_in-append_front xs ys i (omega arith))) ∙ sym (counted xs))
    ∙ ap (λ (n : ℕ). length (members_of xs) + n)
    (ap (λ (n : ℕ). count_by both (range_with_len n b)) (let e : 0 + a ≡ a + 0 = omega arith in e)
    ∙ count_shift both (is_set ys) a 0 b (λ i lt. ap (λ (x : ℕ). x == 1) (bit_in-append_back xs ys i))
    ∙ sym (counted ys))

-- ---- the first item that passes

pub first_passing : {X : Type 0} → (p : X → Bool) (xs : List X) (d : X)
    → ((i : ℕ) × (position p xs ≡ Some i) × (i < length xs) × (p (get_or xs i d) ≡ true)) ⊎ ((position p xs ≡ None) × ((i : ℕ) → i < length xs → p (get_or xs i d) ≡ false))
first_passing p xs d =
    let n : ℕ = position_or_len p xs in
    ⊎_elim
    (λ lt. inl (n, ap (λ (b : Bool). cond b (Some n) None) (lt-ltb n (length xs) lt), lt, passes_at_first p xs d lt))
    (λ le. inr (ap (λ (b : Bool). cond b (Some n) None) (le-ltb n (length xs) le), λ i lt. fails_before_first p xs i d (omega arith)))
    (cases_lt n (length xs))
