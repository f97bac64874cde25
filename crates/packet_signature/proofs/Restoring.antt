-- The signature before a transform, from its row and the signature after it.
use Rattle.std.proofs.Common.{◌≡◌, ℕ, ◌-◌, ◌≤◌, Bool, true, false, cond, ◌&&◌, nat_eq, List, [], ◌∷◌, ◌++◌, length, take, drop, map, slice_index, slice_range, refl, sym, ap, subst, ◌∙◌, arith}
use Rattle.std.proofs.Math.Bool.{and_assoc}
use Rattle.std.proofs.lemmas.List.{length-append, length-drop, length-take-le, take-append-drop, take_all}
use Rattle.std.specs.List.{range_with_len}
use Rattle.packet_signature.proofs.Places.{take-places}
use Rattle.spie_base.specs.declared.types.Sig.{Sig}
use Rattle.packet_signature.specs.Row.{agree, other_bytes, fragment_bytes, with_fragment_bytes, restored, data_of, row_of, inverse_of}
use Rattle.packet_signature.specs.Laws.{InverseGivesOld}
use Rattle.packet_signature.specs.declared.rows.Kind.{Kind}
use Rattle.packet_signature.specs.declared.rows.Kind.TheVariants.{Frag, Nat, Icmp, Ipip, Decap}
use Rattle.packet_signature.specs.declared.rows.RowData.TheVariants.{Direct, Indirect}
use Rattle.std.specs.Cmp.Lexicographic.{pointwise, same_text}

-- pieces of equal lengths are compared one by one
pub pointwise-append : (xs ys us vs : List ℕ) → length xs ≡ length ys → pointwise nat_eq (xs ++ us) (ys ++ vs) ≡ (pointwise nat_eq xs ys && pointwise nat_eq us vs)
pointwise-append [] [] us vs h = refl
pointwise-append [] (y ∷ ys) us vs h = absurd (let f : ⊥ = omega (arith, h) in f)
pointwise-append (x ∷ xs) [] us vs h = absurd (let f : ⊥ = omega (arith, h) in f)
pointwise-append (x ∷ xs) (y ∷ ys) us vs h =
    ap (λ b. nat_eq x y && b) (pointwise-append xs ys us vs (omega (arith, h))) ∙ sym (and_assoc (nat_eq x y) (pointwise nat_eq xs ys) (pointwise nat_eq us vs))

-- two signatures of their length: their pieces have equal lengths
pub length-piece : (a b k : ℕ) (xs : List ℕ) → length xs ≡ k → b ≤ k → a ≤ b → length (slice_range xs a b) ≡ b - a
length-piece a b k xs e f g = length-take-le (b - a) (drop a xs) (omega (arith, length-drop a xs, e))

-- the bytes that fragmentation leaves are compared in three pieces
pub agree-pieces : (old new : Sig) → length old.bytes ≡ 28 → length new.bytes ≡ 28
    → agree old new ≡ ((pointwise nat_eq (take 2 old.bytes) (take 2 new.bytes) && pointwise nat_eq (slice_range old.bytes 4 6) (slice_range new.bytes 4 6)) && pointwise nat_eq (drop 8 old.bytes) (drop 8 new.bytes))
agree-pieces old new e f =
    let front : length (take 2 old.bytes) ≡ length (take 2 new.bytes) = omega (arith, length-take-le 2 old.bytes (omega (arith, e)), length-take-le 2 new.bytes (omega (arith, f))) in
    let middle : length (slice_range old.bytes 4 6) ≡ length (slice_range new.bytes 4 6) =
    omega (arith, length-piece 4 6 28 old.bytes e (omega arith) (omega arith), length-piece 4 6 28 new.bytes f (omega arith) (omega arith)) in
    let both : length (take 2 old.bytes ++ slice_range old.bytes 4 6) ≡ length (take 2 new.bytes ++ slice_range new.bytes 4 6) =
    omega (arith, length-append (take 2 old.bytes) (slice_range old.bytes 4 6), length-append (take 2 new.bytes) (slice_range new.bytes 4 6), front, middle) in
    pointwise-append (take 2 old.bytes ++ slice_range old.bytes 4 6) (take 2 new.bytes ++ slice_range new.bytes 4 6) (drop 8 old.bytes) (drop 8 new.bytes) both
    ∙ ap (λ p. p && pointwise nat_eq (drop 8 old.bytes) (drop 8 new.bytes)) (pointwise-append (take 2 old.bytes) (take 2 new.bytes) (slice_range old.bytes 4 6) (slice_range new.bytes 4 6) front)

-- where the first two pieces agree, the third decides
pub agree-last : (old new : Sig) (first second third : Bool) → length old.bytes ≡ 28 → length new.bytes ≡ 28
    → first ≡ pointwise nat_eq (take 2 old.bytes) (take 2 new.bytes) → second ≡ pointwise nat_eq (slice_range old.bytes 4 6) (slice_range new.bytes 4 6)
    → third ≡ pointwise nat_eq (slice_range old.bytes 8 28) (slice_range new.bytes 8 28) → first ≡ true → second ≡ true → third ≡ agree old new
agree-last old new first second third e f p q r is is' =
    let whole = take_all 20 (drop 8 old.bytes) (omega (arith, length-drop 8 old.bytes, e)) in
    let whole' = take_all 20 (drop 8 new.bytes) (omega (arith, length-drop 8 new.bytes, f)) in
    let pieces = agree-pieces old new e f in
    r ∙ ap (λ l. pointwise nat_eq l (slice_range new.bytes 8 28)) whole ∙ ap (pointwise nat_eq (drop 8 old.bytes)) whole'
    ∙ sym (pieces ∙ ap (λ b. (b && pointwise nat_eq (slice_range old.bytes 4 6) (slice_range new.bytes 4 6)) && pointwise nat_eq (drop 8 old.bytes) (drop 8 new.bytes)) (sym p ∙ is)
    ∙ ap (λ b. b && pointwise nat_eq (drop 8 old.bytes) (drop 8 new.bytes)) (sym q ∙ is'))

-- the first eight bytes, one by one
eight : (xs : List ℕ) → 8 ≤ length xs → map (slice_index xs) (range_with_len 0 8) ++ drop 8 xs ≡ xs
eight xs h = ap (λ l. l ++ drop 8 xs) (sym (take-places 8 xs h)) ∙ take-append-drop 8 xs

bytes_of : List ℕ → Sig
bytes_of xs = record { bytes = xs }

-- what stands for the signature that these bytes are
IsOwn : List ℕ → List ℕ → Type 0
IsOwn xs ys = other_bytes (bytes_of xs) ≡ other_bytes (bytes_of ys) → with_fragment_bytes (bytes_of ys) (fragment_bytes (bytes_of xs)) ≡ bytes_of xs

own-listed : (a0 a1 a2 a3 a4 a5 a6 a7 b0 b1 b2 b3 b4 b5 b6 b7 : ℕ) (xs ys : List ℕ)
    → IsOwn (a0 ∷ a1 ∷ a2 ∷ a3 ∷ a4 ∷ a5 ∷ a6 ∷ a7 ∷ xs) (b0 ∷ b1 ∷ b2 ∷ b3 ∷ b4 ∷ b5 ∷ b6 ∷ b7 ∷ ys)
unfolding IsOwn bytes_of
own-listed a0 a1 a2 a3 a4 a5 a6 a7 b0 b1 b2 b3 b4 b5 b6 b7 xs ys h =
    ap (λ l. bytes_of (slice_index l 0 ∷ slice_index l 1 ∷ a2 ∷ a3 ∷ slice_index l 2 ∷ slice_index l 3 ∷ a6 ∷ a7 ∷ drop 4 l)) (sym h)

-- the signature with the fragment bytes of another that agrees with it is that one
pub with_fragment_bytes-own : (old new : Sig) → length old.bytes ≡ 28 → length new.bytes ≡ 28 → other_bytes old ≡ other_bytes new
    → with_fragment_bytes new (fragment_bytes old) ≡ old
unfolding IsOwn bytes_of
with_fragment_bytes-own old new e f h =
    let xs = old.bytes in
    let ys = new.bytes in
    let listed = own-listed (slice_index xs 0) (slice_index xs 1) (slice_index xs 2) (slice_index xs 3) (slice_index xs 4) (slice_index xs 5) (slice_index xs 6) (slice_index xs 7)
    (slice_index ys 0) (slice_index ys 1) (slice_index ys 2) (slice_index ys 3) (slice_index ys 4) (slice_index ys 5) (slice_index ys 6) (slice_index ys 7) (drop 8 xs) (drop 8 ys) in
    let whole = subst (λ l. IsOwn l ys) (eight xs (omega (arith, e))) (subst (IsOwn (map (slice_index xs) (range_with_len 0 8) ++ drop 8 xs)) (eight ys (omega (arith, f))) listed) in
    whole h

-- a direct row restores the old signature
pub restored-direct : (old new : Sig) → length old.bytes ≡ 28 → length new.bytes ≡ 28 → true ≡ agree old new → restored (Direct (fragment_bytes old)) new ≡ old
restored-direct old new e f h = with_fragment_bytes-own old new e f (same_text (other_bytes old) (other_bytes new) h)

-- what a row keeps restores the old signature
restored-kept : (kind : Kind) (old new : Sig) → length old.bytes ≡ 28 → length new.bytes ≡ 28 → restored (data_of kind old new) new ≡ old
restored-kept Frag old new e f = by (agree old new) (λ h. restored-direct old new e f h)
  where
    by : (v : Bool) → (true ≡ v → restored (Direct (fragment_bytes old)) new ≡ old) → restored (cond v (Direct (fragment_bytes old)) (Indirect old)) new ≡ old
    by true h = h refl
    by false h = refl
restored-kept Nat old new e f = refl
restored-kept Icmp old new e f = refl
restored-kept Ipip old new e f = refl
restored-kept Decap old new e f = refl

pub inverse_gives_old : InverseGivesOld
unfolding row_of inverse_of
inverse_gives_old kind old new e f = restored-kept kind old new e f
