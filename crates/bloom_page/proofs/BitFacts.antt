-- Setting bits of words, and the set that is left.
use Rattle.std.proofs.Common.{ℕ, ◌+◌, ◌*◌, ◌/◌, ◌%◌, ◌^◌, ◌<◌, ◌≤◌, ◌≡◌, ◌≢◌, ◌↔◌, ◌⊎◌, ◌==◌, max, false, ◌||◌, List, [], ◌∷◌, ◌++◌, length, get_or, set, filter, replicate, bit_or, All, inl, inr, ⊎_elim, refl, sym, ap, ◌∙◌, arith, get_or-set_same, get_or-set_other}
use Rattle.std.specs.Int.{bit_at}
use Rattle.std.specs.List.{Contains, list_all, range_with_len}
use Rattle.std.specs.List.Sorted.{IsStrictlyIncreasing}
use mathlib.Core.Path.{fun_ext}
use Rattle.std.proofs.Math.Bool.{or-false, or_assoc}
use Rattle.std.proofs.Math.ListN.{get_or-append}
use Rattle.std.proofs.lemmas.Bool.{cases_eq, cases_lt, eq-eqb, ne_eqb, eqb-true, or_cases, or_left, or_right}
use Rattle.std.proofs.lemmas.List.{get_or_past, get_or-append-add, get_or-replicate, length-replicate, length-set}
use Rattle.std.proofs.lemmas.List.Elements.{All-head, All-tail, All-filter, filter_agree}
use Rattle.std.proofs.lemmas.List.Kept.{IsStrictlyIncreasing-filter}
use Rattle.std.proofs.lemmas.Nat.Bits.{bit_at_or, bit_at-pow_same, bit_at-pow_other, bit_at-lt, bit_at-zero}
use Rattle.bloom_page.specs.Bits.{bit_in, is_set, members_of, with_bit, with_bits}
use Rattle.bloom_page.specs.Sets.{is_in, are_in, set_of, united}
use Rattle.bloom_page.proofs.Ranges.{All-range, range-ascending}
use Rattle.bloom_page.proofs.Members.{is_in-filter_range, is_in-from_Contains, Contains-from_is_in}

-- bit b of word j
pub bit_in-place : (words : List ℕ) (j b : ℕ) → b < 64 → bit_in words (64 * j + b) ≡ bit_at (get_or words j 0) b
bit_in-place words j b small =
    ap (λ i. bit_at (get_or words i 0) ((64 * j + b) % 64)) (let e : (64 * j + b) / 64 ≡ j = omega arith in e)
    ∙ ap (bit_at (get_or words j 0)) (let e : (64 * j + b) % 64 ≡ b = omega arith in e)

-- no bit is set past the last word
pub bit_in-past : (words : List ℕ) (p : ℕ) → 64 * length words ≤ p → bit_in words p ≡ 0
bit_in-past words p past =
    ap (λ w. bit_at w (p % 64)) (get_or_past words (p / 64) 0 (let e : length words ≤ p / 64 = omega arith in e)) ∙ bit_at-zero (p % 64)

-- the members of words are the positions that are set
pub is_in-members_of : (words : List ℕ) (p : ℕ) → is_in (members_of words) p ≡ is_set words p
unfolding members_of
is_in-members_of words p = is_in-filter_range (is_set words) (64 * length words) p (λ past. ap (λ b. b == 1) (bit_in-past words p past))

pub Contains-members_of : (words : List ℕ) (p : ℕ) → Contains (members_of words) p ↔ (bit_in words p ≡ 1)
Contains-members_of words p = (
  (λ has. eqb-true (bit_in words p) 1 (sym (is_in-members_of words p) ∙ is_in-from_Contains (members_of words) p has)),
  λ one. Contains-from_is_in (members_of words) p (is_in-members_of words p ∙ eq-eqb (bit_in words p) 1 one),
)

-- writing one word: its bits are the new word's, and the others stay
pub bit_in-set_same : (words : List ℕ) (i word p : ℕ) → p / 64 ≡ i → i < length words → bit_in (set words i word) p ≡ bit_at word (p % 64)
bit_in-set_same words i word p here within =
    ap (λ j. bit_at (get_or (set words i word) j 0) (p % 64)) here ∙ ap (λ w. bit_at w (p % 64)) (get_or-set_same words i word 0 within)

pub bit_in-set_other : (words : List ℕ) (i word p : ℕ) → p / 64 ≢ i → bit_in (set words i word) p ≡ bit_in words p
bit_in-set_other words i word p elsewhere = ap (λ w. bit_at w (p % 64)) (get_or-set_other words i (p / 64) word 0 elsewhere)

-- words behind words: the bits of the first words are as they were, and the others follow
pub bit_in-append_front : (front back : List ℕ) (p : ℕ) → p < 64 * length front → bit_in (front ++ back) p ≡ bit_in front p
bit_in-append_front front back p within = ap (λ w. bit_at w (p % 64)) (get_or-append front back 0 (p / 64) (omega arith))

pub bit_in-append_back : (front back : List ℕ) (p : ℕ) → bit_in (front ++ back) (64 * length front + p) ≡ bit_in back p
bit_in-append_back front back p =
    ap (λ i. bit_at (get_or (front ++ back) i 0) ((64 * length front + p) % 64)) (let e : (64 * length front + p) / 64 ≡ length front + p / 64 = omega arith in e)
    ∙ ap (bit_at (get_or (front ++ back) (length front + p / 64) 0)) (let e : (64 * length front + p) % 64 ≡ p % 64 = omega arith in e)
    ∙ ap (λ w. bit_at w (p % 64)) (get_or-append-add front back (p / 64) 0)

-- setting a bit: it is set, and every other is as it was
pub length-with_bit : (words : List ℕ) (p : ℕ) → length (with_bit words p) ≡ length words
length-with_bit words p = length-set words (p / 64) _

one_of_two : (x y : ℕ) → x < 2 → y ≡ 1 → max x y ≡ 1
one_of_two x y small one = omega arith

none_more : (x y : ℕ) → y ≡ 0 → max x y ≡ x
none_more x y none = omega arith

pub bit_in-with_bit_same : (words : List ℕ) (p : ℕ) → p < 64 * length words → bit_in (with_bit words p) p ≡ 1
bit_in-with_bit_same words p within =
    let word : ℕ = get_or words (p / 64) 0 in
    let stands : get_or (with_bit words p) (p / 64) 0 ≡ bit_or word (2 ^ (p % 64)) = get_or-set_same words (p / 64) (bit_or word (2 ^ (p % 64))) 0 (omega arith) in
    ap (λ w. bit_at w (p % 64)) stands ∙ bit_at_or word (2 ^ (p % 64)) (p % 64)
    ∙ one_of_two (bit_at word (p % 64)) (bit_at (2 ^ (p % 64)) (p % 64)) (bit_at-lt word (p % 64)) (bit_at-pow_same (p % 64))

pub bit_in-with_bit_other : (words : List ℕ) (p q : ℕ) → q ≢ p → p < 64 * length words → bit_in (with_bit words p) q ≡ bit_in words q
bit_in-with_bit_other words p q other within =
    let word : ℕ = get_or words (p / 64) 0 in
    let stands : get_or (with_bit words p) (p / 64) 0 ≡ bit_or word (2 ^ (p % 64)) = get_or-set_same words (p / 64) (bit_or word (2 ^ (p % 64))) 0 (omega arith) in
    ⊎_elim
    (λ same.
    let apart : q % 64 ≢ p % 64 = λ e. other (omega arith) in
    ap (λ i. bit_at (get_or (with_bit words p) i 0) (q % 64)) same
    ∙ ap (λ w. bit_at w (q % 64)) stands ∙ bit_at_or word (2 ^ (p % 64)) (q % 64)
    ∙ none_more (bit_at word (q % 64)) (bit_at (2 ^ (p % 64)) (q % 64)) (bit_at-pow_other (p % 64) (q % 64) apart)
    ∙ ap (λ i. bit_at (get_or words i 0) (q % 64)) (sym same))
    (λ differs. ap (λ w. bit_at w (q % 64)) (get_or-set_other words (p / 64) (q / 64) (bit_or word (2 ^ (p % 64))) 0 differs))
    (cases_eq (q / 64) (p / 64))

pub is_set-with_bit : (words : List ℕ) (p q : ℕ) → p < 64 * length words → is_set (with_bit words p) q ≡ (is_set words q || (q == p))
is_set-with_bit words p q within = ⊎_elim
    (λ same. ap (is_set (with_bit words p)) same ∙ ap (λ b. b == 1) (bit_in-with_bit_same words p within) ∙ sym (or_right (is_set words q) (q == p) (eq-eqb q p same)))
    (λ other. ap (λ b. b == 1) (bit_in-with_bit_other words p q other within) ∙ sym (ap (λ b. is_set words q || b) (ne_eqb q p other) ∙ or-false (is_set words q)))
    (cases_eq q p)

pub bit_in-with_bit : (words : List ℕ) (p q : ℕ) → p < 64 * length words → (bit_in (with_bit words p) q ≡ 1) ↔ ((bit_in words q ≡ 1) ⊎ (q ≡ p))
bit_in-with_bit words p q within = (
  (λ one. ⊎_elim (λ same. inr same) (λ other. inl (sym (bit_in-with_bit_other words p q other within) ∙ one)) (cases_eq q p)),
  λ either. ⊎_elim
      (λ same. ap (bit_in (with_bit words p)) same ∙ bit_in-with_bit_same words p within)
      (λ other. bit_in-with_bit_other words p q other within ∙ ⊎_elim (λ one. one) (λ same. absurd (other same)) either)
      (cases_eq q p),
)

-- setting several: they are set, and every other is as it was
pub length-with_bits : (words ps : List ℕ) → length (with_bits words ps) ≡ length words
length-with_bits words [] = refl
length-with_bits words (p ∷ ps) = length-with_bits (with_bit words p) ps ∙ length-with_bit words p

pub is_set-with_bits : (words ps : List ℕ) (q : ℕ) → All (λ p. p < 64 * length words) ps → is_set (with_bits words ps) q ≡ (is_set words q || is_in ps q)
is_set-with_bits words [] q within = sym (or-false (is_set words q))
is_set-with_bits words (p ∷ ps) q within =
    let first : p < 64 * length words = All-head (λ x. x < 64 * length words) p ps within in
    let rest : All (λ x. x < 64 * length (with_bit words p)) ps = rw (length-with_bit words p) (All-tail (λ x. x < 64 * length words) p ps within) in
    is_set-with_bits (with_bit words p) ps q rest
    ∙ ap (λ b. b || is_in ps q) (is_set-with_bit words p q first)
    ∙ or_assoc (is_set words q) (q == p) (is_in ps q)

-- the set that is left is the union
pub members_of-with_bits : (n : ℕ) (words ps : List ℕ) → 64 * length words ≡ 2 ^ n → All (λ p. p < 64 * length words) ps → record { n = n; members = members_of (with_bits words ps) } ≡ united record { n = n; members = members_of words } ps
unfolding members_of set_of
members_of-with_bits n words ps size within =
    ap (λ ms. record { n = n; members = ms })
    (ap (λ m. filter (is_set (with_bits words ps)) (range_with_len 0 m)) (ap (λ k. 64 * k) (length-with_bits words ps) ∙ size)
    ∙ filter_agree (is_set (with_bits words ps)) (λ p. is_in (members_of words) p || is_in ps p)
    (λ p. is_set-with_bits words ps p within ∙ ap (λ b. b || is_in ps p) (sym (is_in-members_of words p)))
    (range_with_len 0 (2 ^ n)))

-- the members after setting bits, one by one
pub Contains-with_bits : (words ps : List ℕ) (p : ℕ) → All (λ q. q < 64 * length words) ps → Contains (members_of (with_bits words ps)) p ↔ (Contains (members_of words) p ⊎ Contains ps p)
Contains-with_bits words ps p within =
    let both : is_in (members_of (with_bits words ps)) p ≡ (is_in (members_of words) p || is_in ps p) =
    is_in-members_of (with_bits words ps) p ∙ is_set-with_bits words ps p within ∙ ap (λ b. b || is_in ps p) (sym (is_in-members_of words p)) in (
      (λ has. ⊎_elim
          (λ old. inl (Contains-from_is_in (members_of words) p old))
          (λ new. inr (Contains-from_is_in ps p new))
          (or_cases (is_in (members_of words) p) (is_in ps p) (sym both ∙ is_in-from_Contains (members_of (with_bits words ps)) p has))),
      λ either. Contains-from_is_in (members_of (with_bits words ps)) p (both ∙ ⊎_elim
          (λ old. or_left (is_in (members_of words) p) (is_in ps p) (is_in-from_Contains (members_of words) p old))
          (λ new. or_right (is_in (members_of words) p) (is_in ps p) (is_in-from_Contains ps p new))
          either),
    )

-- whether bits are set is whether they are members
pub are_in-members_of : (words ps : List ℕ) → list_all (is_set words) ps ≡ are_in (members_of words) ps
are_in-members_of words ps = ap (λ test. list_all test ps) (fun_ext (λ p. sym (is_in-members_of words p)))

-- words of zeros have no members
pub members_of-zeros : (count : ℕ) → members_of (replicate count 0) ≡ []
unfolding members_of
members_of-zeros count =
    filter_agree (is_set (replicate count 0)) (λ _. false) (λ p. ap (λ w. bit_at w (p % 64) == 1) (zero_at (p / 64)) ∙ ap (λ b. b == 1) (bit_at-zero (p % 64))) (range_with_len 0 (64 * length (replicate count 0)))
    ∙ filter_nothing (range_with_len 0 (64 * length (replicate count 0)))
  where
    zero_at : (i : ℕ) → ◌≡◌ {A = ℕ} (get_or (replicate count 0) i 0) 0
    zero_at i = ⊎_elim (λ within. get_or-replicate count i 0 0 within) (λ past. get_or_past (replicate count 0) i 0 (rw (length-replicate {A = ℕ} count 0) past)) (cases_lt i count)

    filter_nothing : (xs : List ℕ) → filter (λ _. false) xs ≡ []
    filter_nothing [] = refl
    filter_nothing (x ∷ xs) = filter_nothing xs

-- the members ascend, and are below the number of bits
pub members_of-ascending : (words : List ℕ) → IsStrictlyIncreasing (members_of words)
unfolding members_of
members_of-ascending words = IsStrictlyIncreasing-filter (is_set words) (range_with_len 0 (64 * length words)) (range-ascending (64 * length words))

pub members_of-below : (words : List ℕ) → All (λ p. p < 64 * length words) (members_of words)
unfolding members_of
members_of-below words =
    All-filter (is_set words) (λ p. p < 64 * length words) (range_with_len 0 (64 * length words))
    (All-range (λ p. p < 64 * length words) (64 * length words) (λ p below. below))
