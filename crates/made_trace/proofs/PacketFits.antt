-- The packets of a made trace keep all rules on headers, and are bytes.
use Rattle.std.proofs.Common.{ℕ, zero, suc, ◌≡◌, ◌∙◌, ◌+◌, ◌%◌, ◌<◌, List, [], ◌∷◌, ◌++◌, refl, sym, ap, subst, arith, length, take, length-append, lit<, lit≤, None}
use Rattle.std.specs.Int.{byte_at, bytes_high_first, w64, to_be_bytes}
use Rattle.byteorder.specs.Endian.{big_bytes}
use Rattle.hex.specs.Hex.{IsBytes}
use Rattle.ipv4_header.proofs.Reread.{IsWritable, length-spelled_with, ones_sum-spelled, refusal_of-kept}
use Rattle.ipv4_header.specs.Grammar.{refusal_of}
use Rattle.ipv4_header.specs.Spelling.{fields_of, right_checksum, spelled, spelled_with}
use Rattle.ipv4_header.specs.Sums.{ones_sum}
use Rattle.ipv4_header.specs.declared.fields.Header.{Header}
use Rattle.made_trace.specs.Draws.{destination}
use Rattle.made_trace.specs.Made.{made_header, packet_of}
use Rattle.made_trace.specs.declared.draws.Draw.{Draw}

-- ---- bytes

get_append : (a b : List ℕ) → IsBytes a → IsBytes b → IsBytes (a ++ b)
get_append [] b h r i = r i
get_append (x ∷ a) b h r zero = h zero
get_append (x ∷ a) b h r (suc i) = get_append a b (λ j. h (suc j)) r i

byte_small : (k x : ℕ) → byte_at k x < 256
byte_small zero x = omega arith
byte_small (suc k) x = omega arith

pub number_bytes : (n x : ℕ) → IsBytes (bytes_high_first n x)
number_bytes zero x i = lit< tt
number_bytes (suc n) x zero = byte_small n x
number_bytes (suc n) x (suc i) = number_bytes n x i

two_small : (x y : ℕ) → x < 256 → y < 256 → IsBytes (x ∷ y ∷ [])
two_small x y h k zero = h
two_small x y h k (suc zero) = k
two_small x y h k (suc (suc i)) = lit< tt

none_small : IsBytes []
none_small i = lit< tt

-- ---- a packet

module _ (i source : ℕ) (d : Draw) where
  abbrev h : Header
  h = made_header i source (destination d)

  writable : IsWritable h
  writable = record { whole_words = refl; most = lit≤ tt; unused = refl; total = lit≤ tt; room = refl }

  abbrev header : List ℕ
  header = spelled_with h (right_checksum h)

  abbrev payload : List ℕ
  payload = to_be_bytes w64 d.payload

  spelled_is : spelled h ≡ header
  unfolding spelled
  spelled_is = refl

  header_bytes : IsBytes header
  header_bytes =
      let sum = right_checksum h in
      let a = get_append (69 ∷ 0 ∷ []) (big_bytes 2 28) (two_small 69 0 (lit< tt) (lit< tt)) (number_bytes 2 28) in
      let l1 = (69 ∷ 0 ∷ []) ++ big_bytes 2 28 in
      let b = get_append l1 (big_bytes 2 (i % 65536)) a (number_bytes 2 (i % 65536)) in
      let l2 = l1 ++ big_bytes 2 (i % 65536) in
      let c = get_append l2 (big_bytes 2 0) b (number_bytes 2 0) in
      let l3 = l2 ++ big_bytes 2 0 in
      let e = get_append l3 (64 ∷ 17 ∷ []) c (two_small 64 17 (lit< tt) (lit< tt)) in
      let l4 = l3 ++ (64 ∷ 17 ∷ []) in
      let f = get_append l4 (big_bytes 2 sum) e (number_bytes 2 sum) in
      let l5 = l4 ++ big_bytes 2 sum in
      let g = get_append l5 (big_bytes 4 source) f (number_bytes 4 source) in
      let l6 = l5 ++ big_bytes 4 source in
      let all = get_append l6 (big_bytes 4 (destination d)) g (number_bytes 4 (destination d)) in
      get_append (fields_of h sum) [] all none_small

  pub packet_bytes : IsBytes (packet_of i source d)
  packet_bytes = get_append (spelled h) payload (subst IsBytes (sym spelled_is) header_bytes) (number_bytes 8 d.payload)

  header_long : length header ≡ 20
  header_long = length-spelled_with h (right_checksum h) writable

  pub packet_long : length (packet_of i source d) ≡ 28
  packet_long = length-append (spelled h) payload ∙ ap (λ (n : ℕ). n + 8) (ap (λ (x : List ℕ). length x) spelled_is ∙ header_long)

  -- the header breaks no rule, whatever stands behind it
  pub packet_read : refusal_of (packet_of i source d) ≡ None
  packet_read =
      let P : List ℕ → Type 0 = λ x. refusal_of (x ++ payload) ≡ None in
      let long = length-append header payload in
      let here = header_long in
      let front : take 20 (header ++ payload) ≡ header = refl in
      let sum : ones_sum (take 20 (header ++ payload)) ≡ 65535 = ap ones_sum (front ∙ sym spelled_is) ∙ ones_sum-spelled h in
      subst P (sym spelled_is)
      (refusal_of-kept (header ++ payload) (omega (arith, long, here)) refl (lit≤ tt) (omega (arith, long, here)) (lit≤ tt) sum)
