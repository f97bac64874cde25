-- A header that was written keeps every rule, and its fields are read back.
use Rattle.std.proofs.Common.{◌≡◌, ℕ, ◌+◌, ◌-◌, ◌%◌, ◌^◌, ◌<◌, ◌≤◌, List, [], ◌++◌, length, take, drop, replicate, None, false, not, ◌==◌, refl, sym, ap, ◌∙◌, arith}
use Rattle.std.proofs.Math.Seq.{take-append-add, drop-append-add}
use Rattle.std.proofs.lemmas.List.{length-append, length-take-le, take-append-drop, take_all}
use Rattle.std.proofs.lemmas.Bool.{le-ltb}
use Rattle.std.proofs.Math.Bool.{and-false}
use Rattle.byteorder.specs.Endian.{big_bytes, big_number}
use Rattle.byteorder.specs.Numbers.{big_number-reads_back}
use Rattle.ipv4_header.specs.Sums.{word_sum, ones_sum, ones_complement, checksum_of}
use Rattle.ipv4_header.specs.Grammar.{refusal_of, header_in, is_sum_wrong, options_of, version_of, header_length_of, total_length_of, checksum_field_of}
use Rattle.ipv4_header.specs.Spelling.{fields_of, spelled_with, right_checksum, spelled, corrected}
use Rattle.ipv4_header.specs.declared.fields.Header.{Header}
use Rattle.ipv4_header.proofs.Words.{ones_complement-filled}

-- the rules that a packet keeps are all that there are
pub refusal_of-kept : (packet : List ℕ) → 20 ≤ length packet → version_of packet ≡ 4 → 20 ≤ header_length_of packet
    → header_length_of packet ≤ length packet → header_length_of packet ≤ total_length_of packet
    → ones_sum (take (header_length_of packet) packet) ≡ 65535 → refusal_of packet ≡ None
unfolding refusal_of
refusal_of-kept packet long version least given total sum =
    let long' = le-ltb (length packet) 20 long in
    let least' = le-ltb (header_length_of packet) 20 least in
    let given' = le-ltb (length packet) (header_length_of packet) given in
    let total' = le-ltb (total_length_of packet) (header_length_of packet) total in
    let sum' : is_sum_wrong packet ≡ false = rw sum (and-false (not (checksum_field_of packet == 0))) in
    rw (long', version, least', given', total', sum') refl

-- a header that can be written: what the caller of `write` knows
pub record IsWritable (h : Header) : Type 0 where
  pub whole_words : h.option_length % 4 ≡ 0
  pub most : h.option_length ≤ 40
  pub unused : drop h.option_length h.options ≡ replicate (40 - h.option_length) 0
  pub total : 20 + h.option_length ≤ h.total_length
  pub room : length h.options ≡ 40

-- a number of 16 bits is read from its two bytes
pub two_bytes : (x : ℕ) → x < 2 ^ 16 → big_number 2 (big_bytes 2 x) ≡ x
two_bytes x h = big_number-reads_back 2 x [] h

-- a number of 32 bits is read from its four bytes
pub four_bytes : (x : ℕ) → x < 2 ^ 32 → big_number 4 (big_bytes 4 x) ≡ x
four_bytes x h = big_number-reads_back 4 x [] h

-- how many bytes a header has
pub length-spelled_with : (h : Header) (c : ℕ) → IsWritable h → length (spelled_with h c) ≡ 20 + h.option_length
length-spelled_with h c w =
    length-append (fields_of h c) (take h.option_length h.options)
    ∙ ap (λ n. 20 + n) (length-take-le h.option_length h.options (omega (arith, w.most, w.room)))

-- the first byte tells the length
pub header_length_of-spelled_with : (h : Header) (c : ℕ) → IsWritable h → header_length_of (spelled_with h c) ≡ 20 + h.option_length
header_length_of-spelled_with h c w = omega (arith, w.most, w.whole_words)

-- the checksum field adds its number
pub word_sum-spelled_with : (h : Header) (c : ℕ) → c < 2 ^ 16 → word_sum (spelled_with h c) ≡ word_sum (spelled_with h 0) + c
word_sum-spelled_with h c small = omega (arith, small)

-- the checksum is a number of 16 bits
pub right_checksum-fits : (h : Header) → right_checksum h < 2 ^ 16
unfolding checksum_of
right_checksum-fits h = omega arith

-- a header with its right checksum sums to all ones
pub ones_sum-spelled : (h : Header) → ones_sum (spelled h) ≡ 65535
unfolding spelled checksum_of
ones_sum-spelled h =
    let total = word_sum (spelled_with h 0) in
    let some : 0 < total = omega arith in
    ap ones_complement (word_sum-spelled_with h (right_checksum h) (right_checksum-fits h)) ∙ ones_complement-filled total some

-- the front of the fields and all options
pub take-fields_of : (h : Header) (c : ℕ) → take (20 + h.option_length) (fields_of h c ++ h.options) ≡ spelled_with h c
take-fields_of h c = take-append-add (fields_of h c) h.options h.option_length

-- the options and the zeros behind them
pub options-whole : (h : Header) → IsWritable h → take h.option_length h.options ++ replicate (40 - h.option_length) 0 ≡ h.options
options-whole h w =
    ap (λ r. take h.option_length h.options ++ r) (sym w.unused) ∙ take-append-drop h.option_length h.options

-- behind the header are zeros
pub drop-fields_of : (h : Header) (c : ℕ) → IsWritable h → drop (20 + h.option_length) (fields_of h c ++ h.options) ≡ replicate (40 - h.option_length) 0
drop-fields_of h c w = drop-append-add (fields_of h c) h.options h.option_length ∙ w.unused

-- a header that was written breaks no rule
pub refusal_of-spelled : (h : Header) → h.total_length < 2 ^ 16 → IsWritable h → refusal_of (spelled h) ≡ None
unfolding spelled
refusal_of-spelled h fits w =
    let long = length-spelled_with h (right_checksum h) w in
    let header = header_length_of-spelled_with h (right_checksum h) w in
    let total : total_length_of (spelled h) ≡ h.total_length = two_bytes h.total_length fits in
    let whole : take (header_length_of (spelled h)) (spelled h) ≡ spelled h = take_all (header_length_of (spelled h)) (spelled h) (omega (arith, long, header)) in
    refusal_of-kept (spelled h) (omega (arith, long)) (omega (arith, w.most)) (omega (arith, header)) (omega (arith, header, long)) (omega (arith, header, total, w.total)) (
    ap ones_sum whole ∙ ones_sum-spelled h
    )

-- the fields fit their types
pub record IsInRange (h : Header) : Type 0 where
  pub total_length : h.total_length < 2 ^ 16
  pub identification : h.identification < 2 ^ 16
  pub flags_fragment : h.flags_fragment < 2 ^ 16
  pub source : h.source < 2 ^ 32
  pub destination : h.destination < 2 ^ 32

-- a header that was written is read back, with its right checksum
pub header_in-spelled : (h : Header) → IsInRange h → IsWritable h → header_in (spelled h) ≡ corrected h
unfolding header_in spelled
header_in-spelled h r w =
    let header = header_length_of-spelled_with h (right_checksum h) w in
    let count : header_length_of (spelled h) - 20 ≡ h.option_length = omega (arith, header) in
    let all : take (header_length_of (spelled h) - 20) (take h.option_length h.options) ≡ take h.option_length h.options =
    take_all (header_length_of (spelled h) - 20) (take h.option_length h.options) (omega (arith, count, length-take-le h.option_length h.options (omega (arith, w.most, w.room)))) in
    let padded : options_of (spelled h) ++ replicate (40 - length (options_of (spelled h))) 0 ≡ h.options =
    ap (λ o. o ++ replicate (40 - length o) 0) all
    ∙ ap (λ n. take h.option_length h.options ++ replicate (40 - n) 0) (length-take-le h.option_length h.options (omega (arith, w.most, w.room)))
    ∙ options-whole h w in
    let total = two_bytes h.total_length r.total_length in
    let identification = two_bytes h.identification r.identification in
    let flags_fragment = two_bytes h.flags_fragment r.flags_fragment in
    let checksum : checksum_field_of (spelled h) ≡ right_checksum h = two_bytes (right_checksum h) (right_checksum-fits h) in
    let source = four_bytes h.source r.source in
    let destination = four_bytes h.destination r.destination in
    λ i. record {
      tos = h.tos;
      total_length = total i;
      identification = identification i;
      flags_fragment = flags_fragment i;
      ttl = h.ttl;
      protocol = h.protocol;
      checksum = checksum i;
      source = source i;
      destination = destination i;
      options = padded i;
      option_length = count i;
    }
