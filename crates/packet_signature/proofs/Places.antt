-- Bytes at places of a list without end.
use Rattle.std.proofs.Common.{◌≡◌, ℕ, zero, suc, ◌+◌, ◌-◌, ◌≤◌, List, [], ◌∷◌, ◌++◌, length, take, drop, map, min, replicate, slice_index, slice_range, refl, sym, ap, ◌∙◌, arith}
use Rattle.std.proofs.lemmas.List.{append-nil, drop-replicate, get_or-drop, length-drop, take_all}
use Rattle.std.specs.List.{range_with_len}
use Rattle.spie_base.specs.declared.types.Sig.{Sig}
use Rattle.ipv4_header.specs.Grammar.{header_length_of, total_length_of}
use Rattle.packet_signature.specs.Signature.{masked, signature_of}

-- the places behind p are those of the list without its first p bytes
pub places-drop : (n p q : ℕ) (xs : List ℕ) → map (slice_index xs) (range_with_len (p + q) n) ≡ map (slice_index (drop p xs)) (range_with_len q n)
places-drop zero p q xs = refl
places-drop (suc n) p q xs =
    let first = sym (get_or-drop p xs q 0) in
    let next : p + q + 1 ≡ p + (q + 1) = omega arith in
    let rest = ap (λ m. map (slice_index xs) (range_with_len m n)) next ∙ places-drop n p (q + 1) xs in
    rw (first, rest) refl

-- past the end there are zeros
pub places-nil : (n q : ℕ) → replicate n 0 ≡ map (slice_index []) (range_with_len q n)
places-nil zero q = refl
places-nil (suc n) q = ap (λ r. 0 ∷ r) (places-nil n (q + 1))

-- the first n places are the first bytes, and zeros behind them
pub places-front : (n : ℕ) (xs : List ℕ) → take n xs ++ replicate (n - length xs) 0 ≡ map (slice_index xs) (range_with_len 0 n)
places-front zero xs = ap (λ m. replicate m 0) (let none : 0 - length xs ≡ 0 = omega arith in none)
places-front (suc n) [] =
    let left : suc n - 0 ≡ suc n = omega arith in
    ap (λ m. replicate m 0) left ∙ places-nil (suc n) 0
places-front (suc n) (x ∷ xs) =
    let left : suc n - suc (length xs) ≡ n - length xs = omega arith in
    ap (λ m. x ∷ (take n xs ++ replicate m 0)) left ∙ ap (λ r. x ∷ r) (places-front n xs ∙ sym (places-drop n 1 0 (x ∷ xs)))

-- the first n bytes of a list that has them
pub take-places : (n : ℕ) (xs : List ℕ) → n ≤ length xs → take n xs ≡ map (slice_index xs) (range_with_len 0 n)
take-places n xs h =
    let none : n - length xs ≡ 0 = omega (arith, h) in
    sym (append-nil (take n xs)) ∙ ap (λ m. take n xs ++ replicate m 0) (sym none) ∙ places-front n xs

-- no more bytes than a list has
pub take-min : (n count : ℕ) (xs : List ℕ) → count ≡ min (length xs) n → take count xs ≡ take n xs
take-min zero count xs e = ap (λ k. take k xs) (let none : count ≡ 0 = omega (arith, e) in none)
take-min (suc n) count [] e = ap (λ k. take k []) (let none : count ≡ 0 = omega (arith, e) in none)
take-min (suc n) count (x ∷ xs) e =
    let more : count ≡ suc (min (length xs) n) = omega (arith, e) in
    ap (λ k. take k (x ∷ xs)) more ∙ ap (λ r. x ∷ r) (take-min n (min (length xs) n) xs refl)

-- n bytes: as many of a list as there are, and zeros behind them
pub places-padded : (n m count : ℕ) (xs : List ℕ) → count ≡ min (length xs) n → m ≡ count → take count xs ++ drop m (replicate n 0) ≡ map (slice_index xs) (range_with_len 0 n)
places-padded n m count xs e f =
    let left : n - m ≡ n - length xs = omega (arith, e, f) in
    ap (λ l. l ++ drop m (replicate n 0)) (take-min n count xs e)
    ∙ ap (λ z. take n xs ++ z) (drop-replicate m n 0 ∙ ap (λ k. replicate k 0) left)
    ∙ places-front n xs

-- a signature by the packet that was cut at its end
pub signature_of-cut : (packet : List ℕ) (payload end : ℕ) (sig : Sig) → payload ≡ header_length_of packet
    → end ≡ min (length packet) (total_length_of packet)
    → sig.bytes ≡ map (masked (slice_index (take end packet))) (range_with_len 0 20) ++ map (slice_index (slice_range (take end packet) payload (length (take end packet)))) (range_with_len 0 8)
    → sig ≡ signature_of packet
unfolding signature_of
signature_of-cut packet payload end sig e f g =
    let cut = take-min (total_length_of packet) end packet f in
    let rest = take_all (length (take end packet) - payload) (drop payload (take end packet)) (omega (arith, length-drop payload (take end packet))) in
    let behind = ap (λ l. map (slice_index l) (range_with_len 0 8)) rest ∙ sym (places-drop 8 payload 0 (take end packet)) in
    let places = ap (λ p. map (slice_index (take end packet)) (range_with_len p 8)) (let same : payload + 0 ≡ header_length_of packet = omega (arith, e) in same) in
    let head = map (masked (slice_index (take end packet))) (range_with_len 0 20) in
    let bytes = g ∙ ap (λ r. head ++ r) (behind ∙ places)
    ∙ ap (λ l. map (masked (slice_index l)) (range_with_len 0 20) ++ map (slice_index l) (range_with_len (header_length_of packet) 8)) cut in
    λ i. record { bytes = bytes i }
