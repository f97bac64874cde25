-- What is written of a packet has its signature.
use Rattle.std.proofs.Common.{ℕ, zero, suc, ◌≡◌, ◌+◌, ◌≤◌, ◌<◌, List, ◌++◌, length, take, map, min, refl, ap, arith, sym, ◌∙◌, Bool, true, false, cond, nat_lt, slice_index, Some, None, is_some, not, ◌||◌, ◌==◌}
use Rattle.std.proofs.lemmas.Bool.Decides.{nat_tests}
use Rattle.std.proofs.lemmas.List.{take-take, get_or-take, get_or_past, length-take}
use Rattle.std.specs.List.{range_with_len}
use Rattle.std.specs.declared.option.Option.{Option}
use Rattle.ipv4_header.specs.Grammar.{refusal_of, header_length_of, total_length_of, version_of, is_short, is_header_cut, is_total_below, is_sum_wrong}
use Rattle.ipv4_header.specs.declared.fields.HeaderRefused.{HeaderRefused}
use Rattle.ipv4_header.specs.declared.fields.HeaderRefused.TheVariants.{Short, Version, HeaderLength, TotalLength, Checksum}
use Rattle.packet_signature.specs.Signature.{masked, endless, signature_of}
use Rattle.trace_format.proofs.PacketFronts.{StartAlike, byte_same, header_same, header_short, total_same, word_same}
use Rattle.pcap_intake.specs.Frames.{is_good, is_held_and, is_read, or_nothing, packet_in, packet_of, unset}
use Rattle.pcap_intake.specs.Laws.{IsWrittenWhole}
use Rattle.pcap_intake.specs.declared.kind.LinkLayer.{LinkLayer}

-- the header of a packet that is read lies within the packet
pub record Fits (p : List ℕ) : Type 0 where
  pub long : 20 ≤ length p
  pub header : 20 ≤ header_length_of p
  pub given : header_length_of p ≤ length p
  pub inside : header_length_of p ≤ total_length_of p

not_below : (a b : ℕ) → nat_lt a b ≡ false → b ≤ a
not_below a b e = grind (arith, nat_tests)

neither : (a b : Bool) → (a || b) ≡ false → (a ≡ false) × (b ≡ false)
neither true b e = absurd (cc)
neither false b e = (refl, e)

-- the rules on lengths that a packet which is read keeps
kept_by : (short version cut total sum : Bool) → cond short (Some Short) (cond version (Some Version) (cond cut (Some HeaderLength) (cond total (Some TotalLength) (cond sum (Some Checksum) None)))) ≡ None
    → (short ≡ false) × (cut ≡ false) × (total ≡ false)
kept_by true version cut total sum e = absurd (cc)
kept_by false true cut total sum e = absurd (cc)
kept_by false false true total sum e = absurd (cc)
kept_by false false false true sum e = absurd (cc)
kept_by false false false false sum e = (refl, refl, refl)

rules_kept : (p : List ℕ) → refusal_of p ≡ None → (is_short p ≡ false) × (is_header_cut p ≡ false) × (is_total_below p ≡ false)
unfolding refusal_of
rules_kept p e = kept_by (is_short p) (not (version_of p == 4)) (is_header_cut p) (is_total_below p) (is_sum_wrong p) e

pub fits : (p : List ℕ) → refusal_of p ≡ None → Fits p
fits p e =
    let rules = rules_kept p e in
    let cut = neither (nat_lt (header_length_of p) 20) (nat_lt (length p) (header_length_of p)) rules.1 in
    record {
      long = not_below (length p) 20 rules.0;
      header = not_below (header_length_of p) 20 cut.0;
      given = not_below (length p) (header_length_of p) cut.1;
      inside = not_below (total_length_of p) (header_length_of p) rules.2;
    }

-- ---- a front with the whole header

alike : (p : List ℕ) (n : ℕ) → StartAlike n (take n p) p
alike p n = take-take n n p (omega arith)

below_front : (a b k : ℕ) → k ≤ a → k ≤ b → nat_lt a k ≡ nat_lt b k
below_front a b k le more = grind (arith, nat_tests)

refusal_front : (p : List ℕ) (n : ℕ) → Fits p → n ≤ length p → header_length_of p ≤ n → refusal_of (take n p) ≡ refusal_of p
unfolding refusal_of
refusal_front p n f le covers =
    let long : 20 ≤ n = let h = f.header in omega (arith, h, covers) in
    let size : length (take n p) ≡ n = omega (arith, length-take n p, le) in
    let first = byte_same n (take n p) p (alike p n) 0 (omega (arith, long)) in
    let short = below_front (length (take n p)) (length p) 20 (omega (arith, size, long)) f.long in
    let cut = below_front (length (take n p)) (length p) (header_length_of p) (omega (arith, size, covers)) f.given in
    let total = word_same n (take n p) p (alike p n) 2 (omega (arith, long)) in
    let check = word_same n (take n p) p (alike p n) 10 (omega (arith, long)) in
    let header = take-take (header_length_of p) n p covers in
    rw (short, first, cut, total, check, header) refl

-- ---- the signature

-- a byte of a front that ends at the packet's end, or behind the bytes that are looked at
byte_by : (p : List ℕ) (n total i : ℕ) (b : Bool) → nat_lt i n ≡ b → n ≡ min 68 (min (length p) total) → i < 68 → slice_index (take total (take n p)) i ≡ slice_index (take total p) i
byte_by p n total i true e m lt =
    let inside : i < n = grind (arith, nat_tests) in
    let below : i < total = omega (arith, inside, m) in
    get_or-take total (take n p) i 0 below ∙ get_or-take n p i 0 inside ∙ sym (get_or-take total p i 0 below)
byte_by p n total i false e m lt =
    let past : n ≤ i = grind (arith, nat_tests) in
    let one = length-take n p in
    let two = length-take total (take n p) in
    let three = length-take total p in
    get_or_past (take total (take n p)) i 0 (omega (arith, one, two, past)) ∙ sym (get_or_past (take total p) i 0 (omega (arith, three, past, m, lt)))

endless_front : (p : List ℕ) (n i : ℕ) → 20 ≤ n → n ≡ min 68 (min (length p) (total_length_of p)) → i < 68 → endless (take n p) i ≡ endless p i
endless_front p n i le m lt = ap (λ t. slice_index (take t (take n p)) i) (total_same n (take n p) p (alike p n) (omega (arith, le))) ∙ byte_by p n (total_length_of p) i (nat_lt i n) refl m lt

masked_by : (f g : ℕ → ℕ) (i : ℕ) → f i ≡ g i → masked f i ≡ masked g i
masked_by f g i e = rw e refl

map_same : (f g : ℕ → ℕ) (n from : ℕ) → ((i : ℕ) → from ≤ i → i < from + n → f i ≡ g i) → map f (range_with_len from n) ≡ map g (range_with_len from n)
map_same f g zero from h = refl
map_same f g (suc n) from h =
    rw (h from (omega arith) (omega arith), map_same f g n (from + 1) (λ i low high. h i (omega arith) (omega arith))) refl

signature_front : (p : List ℕ) (n : ℕ) → 20 ≤ n → n ≡ min 68 (min (length p) (total_length_of p)) → signature_of (take n p) ≡ signature_of p
unfolding signature_of
signature_front p n le m =
    let h = header_short p in
    let head = map_same (masked (endless (take n p))) (masked (endless p)) 20 0 (λ i low high. masked_by (endless (take n p)) (endless p) i (endless_front p n i le m (omega arith))) in
    let tail = map_same (endless (take n p)) (endless p) 8 (header_length_of p) (λ i low high. endless_front p n i le m (omega (arith, h, high))) in
    let tail2 = ap (λ k. map (endless (take n p)) (range_with_len k 8)) (header_same n (take n p) p (alike p n) (omega (arith, le))) ∙ tail in
    λ i. record { bytes = head i ++ tail2 i }

no_refusal : (r : Option HeaderRefused) → not (is_some r) ≡ true → r ≡ None
no_refusal None e = refl
no_refusal (Some why) e = absurd (cc)

good_by : (held : Option (List ℕ)) → is_held_and is_read held ≡ true → refusal_of (unset (or_nothing held)) ≡ None
good_by None e = absurd (cc)
good_by (Some packet) e = no_refusal (refusal_of (unset packet)) e

pub good_refusal : (link : LinkLayer) (frame : List ℕ) → is_good link frame ≡ true → refusal_of (packet_of link frame) ≡ None
good_refusal link frame e = good_by (packet_in link frame) e

pub written_whole : (p : List ℕ) → refusal_of p ≡ None → IsWrittenWhole p
written_whole p none =
    let f = fits p none in
    let n : ℕ = min 68 (min (length p) (total_length_of p)) in
    let short = header_short p in
    let header = f.header in
    let given = f.given in
    let inside = f.inside in
    let covers : header_length_of p ≤ min 68 (min (length p) (total_length_of p)) = omega (arith, short, given, inside) in
    record {
      accepted = refusal_front p (min 68 (min (length p) (total_length_of p))) f (omega arith) covers ∙ none;
      signature = signature_front p (min 68 (min (length p) (total_length_of p))) (omega (arith, header, covers)) refl;
    }
