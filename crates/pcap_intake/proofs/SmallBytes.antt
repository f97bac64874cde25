-- The packets of a capture are made of bytes.
use Rattle.std.proofs.Common.{ℕ, zero, suc, ◌≡◌, ◌+◌, ◌≤◌, ◌<◌, ◌^◌, List, [], ◌∷◌, ◌++◌, length, take, drop, refl, arith, sym, subst, slice_index, slice_set, Bool, true, false, cond, nat_lt, min, lit<, Some, None}
use Rattle.std.proofs.lemmas.Bool.Decides.{nat_tests}
use Rattle.std.proofs.lemmas.List.{get_or-drop, get_or_past, take-append-drop, get_or-append-add, length-take}
use Rattle.std.proofs.Math.ListN.{get_or-append}
use Rattle.hex.specs.Hex.{IsBytes}
use Rattle.ipv4_header.specs.Grammar.{total_length_of}
use Rattle.pcap_intake.proofs.Signatures.{good_refusal, written_whole}
use Rattle.pcap_intake.specs.Capture.{Captured, Begins, second_of}
use Rattle.pcap_intake.specs.Frames.{is_good, is_ethernet_ip, is_raw_ip, or_nothing, packet_in, packet_of, unset, front_of}
use Rattle.pcap_intake.specs.Intake.{goods, taken, is_taken, packet_from}
use Rattle.pcap_intake.specs.Text.{Packet}
use Rattle.pcap_intake.specs.TraceLines.{IsPacket, ArePackets}
use Rattle.pcap_intake.specs.declared.kind.CaptureKind.{CaptureKind}
use Rattle.pcap_intake.specs.declared.kind.LinkLayer.{LinkLayer}
use Rattle.pcap_intake.specs.declared.kind.LinkLayer.TheVariants as link
use Rattle.pcap_intake.specs.declared.kind.Endian.{Endian}
use Rattle.pcap_intake.specs.declared.kind.Endian.TheVariants as order

small_by : (a b : List ℕ) (i : ℕ) (inside : Bool) → nat_lt i (length a) ≡ inside → IsBytes (a ++ b) → slice_index a i < 256
small_by a b i true e h =
    let lt : i < length a = grind (arith, nat_tests) in
    let same = get_or-append a b 0 i lt in
    let small = h i in
    omega (arith, same, small)
small_by a b i false e h =
    let le : length a ≤ i = grind (arith, nat_tests) in
    let past = get_or_past a i 0 le in
    omega (arith, past)

left_bytes : (a b : List ℕ) → IsBytes (a ++ b) → IsBytes a
left_bytes a b h i = small_by a b i (nat_lt i (length a)) refl h

right_bytes : (a b : List ℕ) → IsBytes (a ++ b) → IsBytes b
right_bytes a b h i = let same = get_or-append-add a b i 0 in let small = h (length a + i) in omega (arith, same, small)

pub drop_bytes : (n : ℕ) (xs : List ℕ) → IsBytes xs → IsBytes (drop n xs)
drop_bytes n xs h i = let same = get_or-drop n xs i 0 in let small = h (n + i) in omega (arith, same, small)

take_bytes : (n : ℕ) (xs : List ℕ) → IsBytes xs → IsBytes (take n xs)
take_bytes n xs h = left_bytes (take n xs) (drop n xs) (subst IsBytes (sym (take-append-drop n xs)) h)

set_small : (xs : List ℕ) (i k : ℕ) → IsBytes xs → slice_index (slice_set xs i 0) k < 256
set_small [] i k h = h k
set_small (x ∷ xs) zero zero h = lit< tt
set_small (x ∷ xs) zero (suc k) h = h (suc k)
set_small (x ∷ xs) (suc i) zero h = h zero
set_small (x ∷ xs) (suc i) (suc k) h = set_small xs i k (λ j. h (suc j))

set_bytes : (xs : List ℕ) (i : ℕ) → IsBytes xs → IsBytes (slice_set xs i 0)
set_bytes xs i h k = set_small xs i k h

held_by : (held : Bool) (packet frame : List ℕ) → IsBytes packet → IsBytes frame → IsBytes (or_nothing (cond held (Some packet) None))
held_by true packet frame h f = h
held_by false packet frame h f = take_bytes 0 frame f

held_bytes : (link : LinkLayer) (frame : List ℕ) → IsBytes frame → IsBytes (or_nothing (packet_in link frame))
held_bytes link.Ethernet frame h = held_by (is_ethernet_ip frame) (drop 14 frame) frame (drop_bytes 14 frame h) h
held_bytes link.RawIp frame h = held_by (is_raw_ip frame) frame frame h h

unset_bytes : (packet : List ℕ) → IsBytes packet → IsBytes (unset packet)
unset_bytes packet h = set_bytes (slice_set packet 10 0) 11 (set_bytes packet 10 h)

front_bytes : (link : LinkLayer) (frame : List ℕ) → IsBytes frame → IsBytes (front_of (packet_of link frame))
front_bytes link frame h =
    take_bytes (min 68 (min (length (packet_of link frame)) (total_length_of (packet_of link frame)))) (packet_of link frame)
    (unset_bytes (or_nothing (packet_in link frame)) (held_bytes link frame h))

second_small : (o : Endian) (head : List ℕ) → IsBytes head → second_of o head < 2 ^ 32
second_small order.Big head h = let a = h 0 in let b = h 1 in let c = h 2 in let d = h 3 in omega (arith, a, b, c, d)
second_small order.Little head h = let a = h 0 in let b = h 1 in let c = h 2 in let d = h 3 in omega (arith, a, b, c, d)

is_packet : (kind : CaptureKind) (r : Captured) → is_good kind.link r.frame ≡ true → IsBytes r.head → IsBytes r.frame → IsPacket (packet_from kind r)
is_packet kind r good head frame =
    let whole = written_whole (packet_of kind.link r.frame) (good_refusal kind.link r.frame good) in
    let size = length-take (min 68 (min (length (packet_of kind.link r.frame)) (total_length_of (packet_of kind.link r.frame)))) (packet_of kind.link r.frame) in
    record { second = second_small kind.order r.head head; bytes = front_bytes kind.link r.frame frame; read = whole.accepted; short = omega (arith, size) }

goods_by : (kind : CaptureKind) (r : Captured) (before : List Packet) (good : Bool) → is_good kind.link r.frame ≡ good → IsBytes r.head → IsBytes r.frame → ArePackets before → ArePackets (cond good (packet_from kind r ∷ before) before)
goods_by kind r before true e head frame are = (is_packet kind r e head frame, are)
goods_by kind r before false e head frame are = are

-- the good packets, and what is left, are bytes
record Small (kind : CaptureKind) (records : List Captured) (rest : List ℕ) : Type 0 where
  pub packets : ArePackets (goods kind records)
  pub bytes : IsBytes rest

small : (kind : CaptureKind) (bytes : List ℕ) (records : List Captured) (rest : List ℕ) → Begins kind.order bytes records rest → IsBytes bytes → Small kind records rest
small kind bytes [] rest b h = record { packets = tt; bytes = subst IsBytes b h }
small kind bytes (r ∷ before) rest b h =
    let earlier = small kind bytes before (r.head ++ (r.frame ++ rest)) b.1 h in
    let head = left_bytes r.head (r.frame ++ rest) earlier.bytes in
    let behind = right_bytes r.head (r.frame ++ rest) earlier.bytes in
    let frame = left_bytes r.frame rest behind in
    record { packets = goods_by kind r (goods kind before) (is_good kind.link r.frame) refl head frame earlier.packets; bytes = right_bytes r.frame rest behind }

pub are_packets : (kind : CaptureKind) (bytes : List ℕ) (records : List Captured) (rest : List ℕ) → Begins kind.order bytes records rest → IsBytes bytes → ArePackets (goods kind records)
are_packets kind bytes records rest b h = (small kind bytes records rest b h).packets

taken_by : (p : Packet) (before : List Packet) (b : Bool) → IsPacket p → ArePackets before → ArePackets (cond b (p ∷ before) before)
taken_by p before true is are = (is, are)
taken_by p before false is are = are

pub are_taken : (skip most : ℕ) (packets : List Packet) → ArePackets packets → ArePackets (taken skip most packets)
are_taken skip most [] are = tt
are_taken skip most (p ∷ before) are = taken_by p (taken skip most before) (is_taken skip most (length before)) are.0 (are_taken skip most before are.1)
