-- A packet is judged by its first 68 bytes.
use Rattle.std.proofs.Common.{ℕ, zero, suc, ◌≡◌, ◌≤◌, List, [], ◌∷◌, ◌++◌, length, take, min, refl, ap, arith, sym, ◌∙◌, true, slice_set, Some, None, not}
use Rattle.std.proofs.lemmas.List.{take-take, length-take, length-set}
use Rattle.std.proofs.Math.Seq.{take-append_seam}
use Rattle.std.specs.declared.option.Option.{Option}
use Rattle.ipv4_header.specs.Grammar.{refusal_of, total_length_of}
use Rattle.ipv4_header.specs.declared.fields.HeaderRefused.{HeaderRefused}
use Rattle.packet_signature.proofs.Places.{take-min}
use Rattle.trace_format.proofs.PacketFronts.{StartAlike, refusal_same, total_same}
use Rattle.pcap_intake.specs.Frames.{is_good, is_held_and, is_read, is_refused, front_of, or_nothing, packet_in, packet_of, unset}
use Rattle.pcap_intake.specs.declared.kind.LinkLayer.{LinkLayer}

-- a write at a place of a front
take_set : (n i : ℕ) (l : List ℕ) (a : ℕ) → take n (slice_set l i a) ≡ slice_set (take n l) i a
take_set zero i l a = refl
take_set (suc n) i [] a = refl
take_set (suc n) zero (x ∷ xs) a = refl
take_set (suc n) (suc i) (x ∷ xs) a = ap (λ r. x ∷ r) (take_set n i xs a)

take_unset : (n : ℕ) (l : List ℕ) → take n (slice_set (slice_set l 10 0) 11 0) ≡ slice_set (slice_set (take n l) 10 0) 11 0
take_unset n l = take_set n 11 (slice_set l 10 0) 0 ∙ ap (λ r. slice_set r 11 0) (take_set n 10 l 0)

pub unset_kept : (packet copied zeros : List ℕ) (count : ℕ) → count ≡ min (length packet) 68 → copied ≡ take count packet
    → take (min (length packet) 68) (slice_set (slice_set (copied ++ zeros) 10 0) 11 0) ≡ take 68 (slice_set (slice_set packet 10 0) 11 0)
unset_kept packet copied zeros count e f =
    let n : min (length packet) 68 ≡ length copied = rw f (let l = length-take count packet in omega (arith, e, l)) in
    rw n (take_unset (length copied) (copied ++ zeros)
    ∙ ap (λ r. slice_set (slice_set r 10 0) 11 0) (take-append_seam copied zeros ∙ f ∙ take-min 68 count packet e)
    ∙ sym (take_unset 68 packet))

-- ---- the first 68 bytes

alike : (p : List ℕ) → StartAlike 68 (take 68 p) p
alike p = take-take 68 68 p (omega arith)

total_front : (p : List ℕ) → total_length_of (take 68 p) ≡ total_length_of p
total_front p = total_same 68 (take 68 p) p (alike p) (omega arith)

refusal_front : (p : List ℕ) → refusal_of (take 68 p) ≡ refusal_of p
refusal_front p = refusal_same 68 (take 68 p) p (alike p) (omega arith)

-- ---- what is kept

good_by : (held : Option (List ℕ)) (packet : List ℕ) → held ≡ Some packet → refusal_of (unset packet) ≡ None → is_held_and is_read held ≡ true
good_by held packet e f = rw (e, f) refl

refused_by : (held : Option (List ℕ)) (packet : List ℕ) (why : HeaderRefused) → held ≡ Some packet → refusal_of (unset packet) ≡ Some why → is_held_and (λ p. not (is_read p)) held ≡ true
refused_by held packet why e f = rw (e, f) refl

length_unset : (packet : List ℕ) → length (unset packet) ≡ length packet
length_unset packet = length-set (slice_set packet 10 0) 11 0 ∙ length-set packet 10 0

-- the bytes that were copied are those of the packet
front_same : (packet bytes : List ℕ) (count : ℕ) → count ≡ min (length packet) 68 → take (min (length packet) 68) bytes ≡ take 68 (unset packet) → take count bytes ≡ take 68 (unset packet)
front_same packet bytes count e f = rw e f

pub good_front : (link : LinkLayer) (frame packet bytes : List ℕ) (count n total : ℕ) → packet_in link frame ≡ Some packet → count ≡ min (length packet) 68
    → take (min (length packet) 68) bytes ≡ take 68 (unset packet)
    → refusal_of (take count bytes) ≡ None → total ≡ total_length_of (take count bytes) → n ≡ min count total
    → (is_good link frame ≡ true) × (take n bytes ≡ front_of (packet_of link frame))
good_front link frame packet bytes count n total held e f none t m =
    let same = front_same packet bytes count e f in
    let size = length_unset packet in
    let total_is : total ≡ total_length_of (unset packet) = t ∙ ap (λ b. total_length_of b) same ∙ total_front (unset packet) in
    let most : n ≤ 68 = omega (arith, m, e) in
    let count_is : n ≡ min 68 (min (length (unset packet)) (total_length_of (unset packet))) = omega (arith, m, e, size, total_is) in
    let within : n ≤ count = omega (arith, m) in (
      good_by (packet_in link frame) packet held (sym (refusal_front (unset packet)) ∙ ap refusal_of (sym same) ∙ none),
      sym (take-take n count bytes within) ∙ ap (take n) same ∙ take-take n 68 (unset packet) most ∙ ap (λ k. take k (unset packet)) count_is ∙ ap (λ o. front_of (unset (or_nothing o))) (sym held),
    )

pub refused_front : (link : LinkLayer) (frame packet bytes : List ℕ) (count : ℕ) (why : HeaderRefused) → packet_in link frame ≡ Some packet → count ≡ min (length packet) 68
    → take (min (length packet) 68) bytes ≡ take 68 (unset packet)
    → refusal_of (take count bytes) ≡ Some why → is_refused link frame ≡ true
refused_front link frame packet bytes count why held e f some =
    let same = front_same packet bytes count e f in
    refused_by (packet_in link frame) packet why held (sym (refusal_front (unset packet)) ∙ ap refusal_of (sym same) ∙ some)
