-- From words to a set and back.
use Rattle.std.proofs.Common.{ℕ, zero, suc, ◌+◌, ◌-◌, ◌*◌, ◌/◌, ◌%◌, ◌^◌, ◌<◌, ◌≤◌, ◌≡◌, ◌==◌, Bool, true, false, ◌||◌, cond, List, length, get_or, map, filter, sum, All, ⊎_elim, refl, sym, ap, ◌∙◌, arith, add_comm}
use Rattle.std.specs.Int.{bit_at}
use Rattle.std.specs.List.{range_with_len}
use Rattle.std.proofs.Math.Nat.{mod-eq_of_lt, pow-suc}
use Rattle.std.proofs.lemmas.Bool.{cases_eq}
use Rattle.std.proofs.lemmas.List.Elements.{All-get_or, All-map}
use Rattle.std.proofs.lemmas.List.FromFn.{fill_by_all, length-map-range_with_len, get_or-map-range_with_len}
use Rattle.std.proofs.lemmas.Nat.{pow-add}
use Rattle.std.proofs.lemmas.Nat.Bits.{bit_at-lt, bit_at_cat_low, bit_at_cat_high}
use Rattle.bloom_page.specs.Bits.{is_set, members_of}
use Rattle.bloom_page.specs.Sets.{PageSet, is_in, set_of, united, word_of, words_of}
use Rattle.bloom_page.proofs.BitFacts.{bit_in-place, is_in-members_of}
use Rattle.bloom_page.proofs.Counting.{low_bits-more}
use Rattle.bloom_page.proofs.Ranges.{filter_agree_below, sum-more}
use Rattle.bloom_page.proofs.Members.{is_in-filter_range}

-- the number whose first k bits are given by a test
abbrev pub with_low_bits : (ℕ → Bool) → (k : ℕ) → ℕ
with_low_bits test k = sum (map (λ b. cond (test b) (2 ^ b) 0) (range_with_len 0 k))

-- the bits of a number make the number
bit_by_test : (x k : ℕ) (b : Bool) → x < 2 → b ≡ (x == 1) → cond b (2 ^ k) 0 ≡ x * 2 ^ k
bit_by_test x k b small is = ⊎_elim
    (λ one. ap (λ v. cond v (2 ^ k) 0) (is ∙ ap (λ y. y == 1) one) ∙ (let e : 2 ^ k ≡ 1 * 2 ^ k = omega arith in e) ∙ ap (λ y. y * 2 ^ k) (sym one))
    (λ other.
    let none : x ≡ 0 = omega arith in
    ap (λ v. cond v (2 ^ k) 0) (is ∙ ap (λ y. y == 1) none) ∙ (let e : 0 ≡ 0 * 2 ^ k = omega arith in e) ∙ ap (λ y. y * 2 ^ k) (sym none))
    (cases_eq x 1)

pub low_bits_back : (w : ℕ) (test : ℕ → Bool) (k : ℕ) → ((b : ℕ) → b < k → test b ≡ (bit_at w b == 1)) → with_low_bits test k ≡ w % 2 ^ k
low_bits_back w test zero same = let e : 0 ≡ w % 1 = omega arith in e
low_bits_back w test (suc k) same =
    sum-more (λ b. cond (test b) (2 ^ b) 0) k
    ∙ ap (λ v. v + cond (test k) (2 ^ k) 0) (low_bits_back w test k (λ b within. same b (omega arith)))
    ∙ ap (λ v. w % 2 ^ k + v) (bit_by_test (bit_at w k) k (test k) (bit_at-lt w k) (same k (omega arith)))
    ∙ add_comm (w % 2 ^ k) (bit_at w k * 2 ^ k)
    ∙ sym (low_bits-more w k)

-- a word of the set that words make is the word
pub word_of-members_of : (words : List ℕ) (j : ℕ) → get_or words j 0 < 2 ^ 64 → word_of (members_of words) j ≡ get_or words j 0
word_of-members_of words j fits =
    low_bits_back (get_or words j 0) (λ b. is_in (members_of words) (64 * j + b)) 64
    (λ b small. is_in-members_of words (64 * j + b) ∙ ap (λ v. v == 1) (bit_in-place words j b small))
    ∙ mod-eq_of_lt fits

-- words to a set and back
pub words_of-members_of : (n : ℕ) (words : List ℕ) → length words ≡ 2 ^ (n - 6) → All (λ w. w < 2 ^ 64) words → words_of record { n = n; members = members_of words } ≡ words
unfolding words_of
words_of-members_of n words size fits =
    sym (fill_by_all (word_of (members_of words)) words (2 ^ (n - 6)) 0 size
    (λ j within. sym (word_of-members_of words j (All-get_or (λ w. w < 2 ^ 64) words j 0 (omega arith) fits))))

-- ---- sets that tests make

-- equal tests make one set
pub set_of-same : (n : ℕ) (f g : ℕ → Bool) → ((p : ℕ) → p < 2 ^ n → f p ≡ g p) → set_of n f ≡ set_of n g
unfolding set_of
set_of-same n f g same = ap (λ ms. record { n = n; members = ms }) (filter_agree_below f g (2 ^ n) same)

pub is_in-set_of : (n : ℕ) (test : ℕ → Bool) (p : ℕ) → p < 2 ^ n → is_in (set_of n test).members p ≡ test p
unfolding set_of
is_in-set_of n test p below = is_in-filter_range test (2 ^ n) p (λ past. absurd (omega arith))

-- the union with marks
pub united-set_of : (n : ℕ) (test : ℕ → Bool) (marks : List ℕ) → united (set_of n test) marks ≡ set_of n (λ p. test p || is_in marks p)
unfolding set_of
united-set_of n test marks =
    set_of-same n (λ p. is_in (set_of n test).members p || is_in marks p) (λ p. test p || is_in marks p)
    (λ p below. ap (λ b. b || is_in marks p) (is_in-set_of n test p below))

-- the set of words is that of their bits
pub set_of-words : (n : ℕ) (words : List ℕ) → 64 * length words ≡ 2 ^ n → record { n = n; members = members_of words } ≡ set_of n (is_set words)
unfolding members_of set_of
set_of-words n words size = ap (λ m. record { n = n; members = filter (is_set words) (range_with_len 0 m) }) size

-- words of one set are one
pub same_words : (a b : List ℕ) → length a ≡ length b → All (λ w. w < 2 ^ 64) a → All (λ w. w < 2 ^ 64) b → members_of a ≡ members_of b → a ≡ b
same_words a b size fits_a fits_b same =
    fill_by_all (word_of (members_of a)) a (length b) 0 size
    (λ j within. sym (word_of-members_of a j (All-get_or (λ w. w < 2 ^ 64) a j 0 (omega arith) fits_a)))
    ∙ ap (λ ms. map (word_of ms) (range_with_len 0 (length b))) same
    ∙ sym (fill_by_all (word_of (members_of b)) b (length b) 0 refl
    (λ j within. sym (word_of-members_of b j (All-get_or (λ w. w < 2 ^ 64) b j 0 within fits_b))))

-- ---- a set to words and back

low_bits_grow : (test : ℕ → Bool) (k : ℕ) → with_low_bits test (suc k) ≡ cond (test k) 1 0 * 2 ^ k + with_low_bits test k
low_bits_grow test k =
    sum-more (λ b. cond (test b) (2 ^ b) 0) k
    ∙ ap (λ v. with_low_bits test k + v) (bit_times (test k) (2 ^ k))
    ∙ add_comm (with_low_bits test k) (cond (test k) 1 0 * 2 ^ k)
  where
    bit_times : (b : Bool) (x : ℕ) → cond b x 0 ≡ cond b 1 0 * x
    bit_times true x = omega arith
    bit_times false x = omega arith

grown_fits : (b : Bool) (low half : ℕ) → low < half → cond b 1 0 * half + low < half * 2
grown_fits true low half small = omega arith
grown_fits false low half small = omega arith

low_bits-below : (test : ℕ → Bool) (k : ℕ) → with_low_bits test k < 2 ^ k
low_bits-below test zero = let e : 0 < 1 = omega arith in e
low_bits-below test (suc k) =
    rw (low_bits_grow test k, pow-suc 2 k) (grown_fits (test k) (with_low_bits test k) (2 ^ k) (low_bits-below test k))

own_bit : (b : Bool) → bit_at (cond b 1 0) 0 ≡ cond b 1 0
own_bit true = refl
own_bit false = refl

bit_of_low_bits : (test : ℕ → Bool) (k b : ℕ) → b < k → bit_at (with_low_bits test k) b ≡ cond (test b) 1 0
bit_of_low_bits test zero b within = absurd (omega arith)
bit_of_low_bits test (suc k) b within =
    ap (λ w. bit_at w b) (low_bits_grow test k)
    ∙ ⊎_elim
    (λ last.
    ap (bit_at (cond (test k) 1 0 * 2 ^ k + with_low_bits test k)) last
    ∙ bit_at_cat_high (cond (test k) 1 0) k (with_low_bits test k) k (low_bits-below test k) (omega arith)
    ∙ ap (bit_at (cond (test k) 1 0)) (let e : k - k ≡ 0 = omega arith in e)
    ∙ own_bit (test k) ∙ ap (λ i. cond (test i) 1 0) (sym last))
    (λ other. bit_at_cat_low (cond (test k) 1 0) k (with_low_bits test k) b (omega arith) ∙ bit_of_low_bits test k b (omega arith))
    (cases_eq b k)

-- the words of a set fit
pub words_of-fit : (page : PageSet) → All (λ w. w < 2 ^ 64) (words_of page)
unfolding words_of
words_of-fit page =
    All-map (λ w. w < 2 ^ 64) (word_of page.members) (range_with_len 0 (2 ^ (page.n - 6)))
    (λ i d within. low_bits-below (λ b. is_in page.members (64 * get_or (range_with_len 0 (2 ^ (page.n - 6))) i d + b)) 64)

tested : (b : Bool) → (cond b 1 0 == 1) ≡ b
tested true = refl
tested false = refl

-- their bits are its members
pub is_set-words_of : (page : PageSet) (p : ℕ) → p < 64 * 2 ^ (page.n - 6) → is_set (words_of page) p ≡ is_in page.members p
unfolding words_of
is_set-words_of page p below =
    ap (λ w. bit_at w (p % 64) == 1) (get_or-map-range_with_len (word_of page.members) 0 (2 ^ (page.n - 6)) (p / 64) (p / 64) 0 (omega arith) (omega arith))
    ∙ ap (λ v. v == 1) (bit_of_low_bits (λ b. is_in page.members (64 * (p / 64) + b)) 64 (p % 64) (omega arith))
    ∙ tested (is_in page.members (64 * (p / 64) + p % 64))
    ∙ ap (is_in page.members) (let e : 64 * (p / 64) + p % 64 ≡ p = omega arith in e)

-- so many words have 2 ^ n bits
pub bits_of_words : (n count : ℕ) → 6 ≤ n → count ≡ 2 ^ (n - 6) → 64 * count ≡ 2 ^ n
bits_of_words n count least size =
    ap (λ k. 64 * k) size ∙ sym (pow-add 2 6 (n - 6)) ∙ ap (λ k. 2 ^ k) (let e : 6 + (n - 6) ≡ n = omega arith in e)

pub length-words_of : (page : PageSet) → length (words_of page) ≡ 2 ^ (page.n - 6)
unfolding words_of
length-words_of page = length-map-range_with_len (word_of page.members) 0 (2 ^ (page.n - 6))

-- a set to words and back
pub members_of-words_of : (n : ℕ) (test : ℕ → Bool) → 6 ≤ n → record { n = n; members = members_of (words_of (set_of n test)) } ≡ set_of n test
unfolding set_of
members_of-words_of n test least =
    let page : PageSet = set_of n test in
    let size : 64 * length (words_of page) ≡ 2 ^ n = bits_of_words n (length (words_of page)) least (length-words_of page) in
    let bits : 64 * 2 ^ (n - 6) ≡ 2 ^ n = bits_of_words n (2 ^ (n - 6)) least refl in
    set_of-words n (words_of page) size
    ∙ set_of-same n (is_set (words_of page)) test
    (λ p below. is_set-words_of page p (omega arith) ∙ is_in-set_of n test p below)
