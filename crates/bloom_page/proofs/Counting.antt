-- The set bits of words are as many as the members of the set.
use Rattle.std.proofs.Common.{ℕ, zero, suc, ◌+◌, ◌*◌, ◌%◌, ◌^◌, ◌<◌, ◌≤◌, ◌≡◌, ◌==◌, cond, List, length, get_or, take, sum_by, count_by, count_ones, All, ⊎_elim, refl, sym, ap, ◌∙◌, arith, add_comm}
use Rattle.std.specs.Int.{bit_at}
use Rattle.std.specs.Int.Count.{ones}
use Rattle.std.specs.List.{range_with_len}
use Rattle.std.proofs.Math.Nat.{mod-eq_of_lt}
use Rattle.std.proofs.Math.Seq.{take-length}
use Rattle.std.proofs.lemmas.Bool.{cases_eq}
use Rattle.std.proofs.lemmas.List.Elements.{All-get_or}
use Rattle.std.proofs.lemmas.List.Sums.{sum_by-append, sum_by_more, length-filter}
use Rattle.std.proofs.lemmas.Nat.{mod_below, mod-pow-add, ones-le, ones_cat, ones_le_self, pow_pos}
use Rattle.std.proofs.lemmas.Nat.Bits.{bit_at-lt}
use Rattle.bloom_page.specs.Bits.{is_set, members_of}
use Rattle.bloom_page.proofs.BitFacts.{bit_in-place}
use Rattle.bloom_page.proofs.Ranges.{range-append, count_shift, count-more}

-- a number's low bits, and the next of them
pub low_bits-more : (w k : ℕ) → w % 2 ^ suc k ≡ bit_at w k * 2 ^ k + w % 2 ^ k
low_bits-more w k = ap (λ m. w % 2 ^ m) (let e : suc k ≡ 1 + k = omega arith in e) ∙ mod-pow-add w 1 k

ones_zero : count_ones 0 ≡ 0
ones_zero = omega (arith, ones_le_self 0)

ones_one : count_ones 1 ≡ 1
unfolding ones
ones_one = refl

ones_of_bit : (x : ℕ) → x < 2 → count_ones x ≡ cond (x == 1) 1 0
ones_of_bit x small = ⊎_elim
    (λ one. ap (λ v. count_ones v) one ∙ ones_one ∙ sym (ap (λ v. cond (v == 1) 1 0) one))
    (λ other. let none : x ≡ 0 = omega arith in ap (λ v. count_ones v) none ∙ ones_zero ∙ sym (ap (λ v. cond (v == 1) 1 0) none))
    (cases_eq x 1)

-- the set bits of a number, one by one
pub count_ones-by_bits : (w k : ℕ) → count_ones (w % 2 ^ k) ≡ count_by (λ b. bit_at w b == 1) (range_with_len 0 k)
count_ones-by_bits w zero = ap (λ v. count_ones v) (let e : w % 1 ≡ 0 = omega arith in e) ∙ ones_zero
count_ones-by_bits w (suc k) =
    ap (λ v. count_ones v) (low_bits-more w k)
    ∙ ones_cat k (bit_at w k) (w % 2 ^ k) (mod_below w (2 ^ k) (pow_pos k))
    ∙ ap (λ v. v + count_ones (w % 2 ^ k)) (ones_of_bit (bit_at w k) (bit_at-lt w k))
    ∙ ap (λ v. cond (bit_at w k == 1) 1 0 + v) (count_ones-by_bits w k)
    ∙ add_comm (cond (bit_at w k == 1) 1 0) (count_by (λ b. bit_at w b == 1) (range_with_len 0 k))
    ∙ sym (count-more (λ b. bit_at w b == 1) k)

-- the set bits of one of the words
word_counted : (words : List ℕ) (j : ℕ) → get_or words j 0 < 2 ^ 64 → count_by (is_set words) (range_with_len (64 * j) 64) ≡ count_ones (get_or words j 0)
word_counted words j fits =
    ap (λ a. count_by (is_set words) (range_with_len a 64)) (let e : 64 * j ≡ 64 * j + 0 = omega arith in e)
    ∙ count_shift (is_set words) (λ b. bit_at (get_or words j 0) b == 1) (64 * j) 0 64 (λ b small. ap (λ v. v == 1) (bit_in-place words j b (omega arith)))
    ∙ sym (count_ones-by_bits (get_or words j 0) 64)
    ∙ ap (λ v. count_ones v) (mod-eq_of_lt fits)

front_counted : (words : List ℕ) (j : ℕ) → j ≤ length words → All (λ w. w < 2 ^ 64) words → count_by (is_set words) (range_with_len 0 (64 * j)) ≡ sum_by count_ones (take j words)
front_counted words zero within fits = refl
front_counted words (suc j) within fits =
    ap (λ m. count_by (is_set words) (range_with_len 0 m)) (let e : 64 * suc j ≡ 64 * j + 64 = omega arith in e)
    ∙ ap (count_by (is_set words)) (range-append 0 (64 * j) 64)
    ∙ sum_by-append (λ p. cond (is_set words p) 1 0) (range_with_len 0 (64 * j)) (range_with_len (0 + 64 * j) 64)
    ∙ ap (λ v. v + count_by (is_set words) (range_with_len (0 + 64 * j) 64)) (front_counted words j (omega arith) fits)
    ∙ ap (λ v. sum_by count_ones (take j words) + v)
    (ap (λ a. count_by (is_set words) (range_with_len a 64)) (let e : 0 + 64 * j ≡ 64 * j = omega arith in e)
    ∙ word_counted words j (All-get_or (λ w. w < 2 ^ 64) words j 0 (omega arith) fits))
    ∙ sym (sum_by_more count_ones words j 0 (omega arith))
    ∙ ap (λ k. sum_by count_ones (take k words)) (let e : j + 1 ≡ suc j = omega arith in e)

-- one more word
pub ones_more : (words : List ℕ) (i total : ℕ) → i < length words → total ≡ sum_by count_ones (take i words) → total + count_ones (get_or words i 0) ≡ sum_by count_ones (take (i + 1) words)
ones_more words i total within so_far = ap (λ t. t + count_ones (get_or words i 0)) so_far ∙ sym (sum_by_more count_ones words i 0 within)

pub ones_within : (i total word : ℕ) → word < 2 ^ 64 → total ≤ 64 * i → total + count_ones word ≤ 64 * (i + 1)
ones_within i total word fits so_far = let most : count_ones word ≤ 64 = ones-le 64 word fits in omega arith

-- all set bits
pub sum_by-count_ones : (words : List ℕ) → All (λ w. w < 2 ^ 64) words → sum_by count_ones words ≡ length (members_of words)
unfolding members_of
sum_by-count_ones words fits = sym (length-filter (is_set words) (range_with_len 0 (64 * length words)) ∙ front_counted words (length words) (omega arith) fits ∙ ap (sum_by count_ones) (take-length words))
