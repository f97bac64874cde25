-- The steps of the sum that makes a position, and the words of a signature.
use Rattle.std.proofs.Common.{ℕ, ◌+◌, ◌-◌, ◌*◌, ◌%◌, ◌<◌, ◌≡◌, List, ◌∷◌, [], map, sum, take, drop, get_or, slice_index, ap, ◌∙◌, arith}
use Rattle.std.specs.List.{range_with_len}
use Rattle.std.specs.Int.{w32, from_be_bytes}
use Rattle.std.proofs.Math.Nat.{add-mod-mod, mod-add-mod}
use Rattle.std.proofs.lemmas.List.{get_or-take, get_or-drop}
use Rattle.std.proofs.lemmas.List.FromFn.{sum_by-map-range_with_len_more}
use Rattle.spie_base.specs.declared.Sig.{Sig}
use Rattle.hash_family.specs.Positions.{sig_word}

-- one more term of a sum modulo m
pub sum_more : (m first : ℕ) (f : ℕ → ℕ) (count : ℕ) → ((first + sum (map f (range_with_len 1 count))) % m + f (count + 1) % m) % m ≡ (first + sum (map f (range_with_len 1 (count + 1)))) % m
sum_more m first f count =
    mod-add-mod _ _ _ ∙ add-mod-mod _ _ m
    ∙ ap (λ x. x % m) (omega (arith, sum_by-map-range_with_len_more (λ x. x) f 1 count (count + 1) (omega arith)))

-- one more word by its coefficient
pub weighed_more : (row words : List ℕ) (m j total word : ℕ) → total ≡ (slice_index row 0 + sum (map (λ i. slice_index row i * slice_index words (i - 1)) (range_with_len 1 j))) % m → word ≡ get_or words j 0 → (total + get_or row (j + 1) 0 * word % m) % m ≡ (slice_index row 0 + sum (map (λ i. slice_index row i * slice_index words (i - 1)) (range_with_len 1 (j + 1)))) % m
weighed_more row words m j total word so_far is =
    let term : ℕ → ℕ = λ i. slice_index row i * slice_index words (i - 1) in
    ap (λ t. (t + get_or row (j + 1) 0 * word % m) % m) so_far
    ∙ ap (λ w. ((slice_index row 0 + sum (map term (range_with_len 1 j))) % m + get_or row (j + 1) 0 * w % m) % m)
    (is ∙ ap (λ k. get_or words k 0) (let e : j ≡ j + 1 - 1 = omega arith in e))
    ∙ sum_more m (slice_index row 0) term j

-- a byte of the four from a place on
pub byte_of_four : (bytes : List ℕ) (from to at i p : ℕ) → from ≡ at → to ≡ at + 4 → i < 4 → p ≡ at + i → get_or (take (to - from) (drop from bytes)) i 0 ≡ get_or bytes p 0
byte_of_four bytes from to at i p start end within place =
    get_or-take (to - from) (drop from bytes) i 0 (omega arith) ∙ get_or-drop from bytes i 0
    ∙ ap (λ k. get_or bytes k 0) (let e : from + i ≡ p = omega arith in e)

-- word number j + 1 of a signature, by its bytes
pub word_at : (sig : Sig) (j : ℕ) → from_be_bytes w32 (get_or sig.bytes (4 * j) 0 ∷ get_or sig.bytes (4 * j + 1) 0 ∷ get_or sig.bytes (4 * j + 2) 0 ∷ get_or sig.bytes (4 * j + 3) 0 ∷ []) ≡ sig_word sig (j + 1)
word_at sig j =
    let byte : (i p : ℕ) → i < 4 → p ≡ 4 * j + i → get_or (take (4 * (j + 1) - 4 * (j + 1 - 1)) (drop (4 * (j + 1 - 1)) sig.bytes)) i 0 ≡ get_or sig.bytes p 0 = λ i p within place. byte_of_four sig.bytes (4 * (j + 1 - 1)) (4 * (j + 1)) (4 * j) i p (omega arith) (omega arith) within place in
    omega (arith, byte 0 (4 * j) (omega arith) (omega arith), byte 1 (4 * j + 1) (omega arith) (omega arith), byte 2 (4 * j + 2) (omega arith) (omega arith), byte 3 (4 * j + 3) (omega arith) (omega arith))
