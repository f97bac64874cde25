-- Sums of 16-bit words, and what their carries come to.
use Rattle.std.proofs.Common.{◌≡◌, ℕ, ◌+◌, ◌-◌, ◌%◌, ◌<◌, ◌≤◌, List, [], ◌∷◌, ◌++◌, length, take, drop, slice_range, refl, sym, ap, ◌∙◌, arith}
use Rattle.std.proofs.lemmas.List.{length-append, length-drop, length-take-le, take_all}
use Rattle.ipv4_header.specs.Sums.{word_sum, ones_complement, without_checksum, checksum_of}

-- pairs of bytes stay together behind an even number of bytes
pub word_sum-append : (xs ys : List ℕ) → length xs % 2 ≡ 0 → word_sum (xs ++ ys) ≡ word_sum xs + word_sum ys
word_sum-append [] ys h = omega arith
word_sum-append (a ∷ []) ys h = absurd (let f : ⊥ = omega (arith, h) in f)
word_sum-append (a ∷ b ∷ xs) ys h =
    let e = word_sum-append xs ys (omega (arith, h)) in
    omega (arith, e)

-- the checksum field adds nothing where it is taken as zero
pub word_sum-without_checksum : (header : List ℕ) → 20 ≤ length header → word_sum (without_checksum header) ≡ word_sum (take 10 header) + word_sum (drop 12 header)
word_sum-without_checksum header h =
    let front : length (take 10 header) % 2 ≡ 0 = rw (length-take-le 10 header (omega (arith, h))) refl in
    let even : length (take 10 header ++ (0 ∷ 0 ∷ [])) % 2 ≡ 0 = rw (length-append (take 10 header) (0 ∷ 0 ∷ []), length-take-le 10 header (omega (arith, h))) refl in
    let behind = word_sum-append (take 10 header ++ (0 ∷ 0 ∷ [])) (drop 12 header) even in
    let field = word_sum-append (take 10 header) (0 ∷ 0 ∷ []) front in
    omega (arith, behind, field)

-- the checksum from the sums before and behind its field
pub checksum_of-sums : (header : List ℕ) (before behind folded : ℕ) → 20 ≤ length header → before ≡ word_sum (take 10 header)
    → behind ≡ word_sum (slice_range header 12 (length header)) → folded ≡ ones_complement (before + behind) → 65535 - folded ≡ checksum_of header
unfolding checksum_of
checksum_of-sums header before behind folded h e f g =
    let words = word_sum-without_checksum header h in
    let all = take_all (length header - 12) (drop 12 header) (omega (arith, length-drop 12 header)) in
    rw (words, sym e, sym (f ∙ ap word_sum all), sym g) refl

-- the complement of a sum fills it up to all ones
pub ones_complement-filled : (s : ℕ) → 0 < s → ones_complement (s + (65535 - ones_complement s)) ≡ 65535
ones_complement-filled s h = grind arith
