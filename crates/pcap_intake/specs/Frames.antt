-- Which frames hold a packet, and which packets are good.
use Rattle.std.specs.Prelude.{ℕ, ◌/◌, ◌==◌, ◌≡◌, Bool, true, false, not, ◌&&◌, List, [], length, take, drop, min, nat_le, slice_index, slice_set, is_some, Some, None, if◌then◌else◌}
use Rattle.std.specs.declared.option.Option.{Option}
use Rattle.byteorder.specs.Endian.{big_number}
use Rattle.ipv4_header.specs.Grammar.{refusal_of, total_length_of}
use Rattle.pcap_intake.specs.declared.frames.FrameKind.{FrameKind}
use Rattle.pcap_intake.specs.declared.frames.FrameKind.TheVariants.{Other, Refused, Good}
use Rattle.pcap_intake.specs.declared.kind.LinkLayer.{LinkLayer}
use Rattle.pcap_intake.specs.declared.kind.LinkLayer.TheVariants as link

-- the type of an Ethernet frame says that it holds a packet of IPv4 (RFC 894)
abbrev pub is_ethernet_ip : List ℕ → Bool
is_ethernet_ip frame = nat_le 14 (length frame) && (big_number 2 (drop 12 frame) == 0x0800)

-- a packet says by its first four bits that it is one of IPv4
abbrev pub is_raw_ip : List ℕ → Bool
is_raw_ip frame = nat_le 1 (length frame) && (slice_index frame 0 / 16 == 4)

-- the packet of IPv4 that a frame holds, if it holds one
abbrev pub packet_in : LinkLayer → List ℕ → Option (List ℕ)
packet_in link.Ethernet frame = if is_ethernet_ip frame then Some (drop 14 frame) else None
packet_in link.RawIp frame = if is_raw_ip frame then Some frame else None

-- a packet with its checksum unset, since a capture at a sender often holds one that is not finished
abbrev pub unset : List ℕ → List ℕ
unset packet = slice_set (slice_set packet 10 0) 11 0

-- whether its header is accepted then
abbrev pub is_read : List ℕ → Bool
is_read packet = not (is_some (refusal_of (unset packet)))

abbrev pub is_held_and : (List ℕ → Bool) → Option (List ℕ) → Bool
is_held_and test None = false
is_held_and test (Some packet) = test packet

-- a frame that holds no packet of IPv4
abbrev pub is_other : LinkLayer → List ℕ → Bool
is_other link frame = not (is_some (packet_in link frame))

abbrev pub is_refused : LinkLayer → List ℕ → Bool
is_refused link frame = is_held_and (λ packet. not (is_read packet)) (packet_in link frame)

abbrev pub is_good : LinkLayer → List ℕ → Bool
is_good link frame = is_held_and is_read (packet_in link frame)

abbrev pub or_nothing : Option (List ℕ) → List ℕ
or_nothing None = []
or_nothing (Some packet) = packet

-- the packet of a frame, with its checksum unset
abbrev pub packet_of : LinkLayer → List ℕ → List ℕ
packet_of link frame = unset (or_nothing (packet_in link frame))

-- as much of a packet as is written: what its signature may look at
abbrev pub front_of : List ℕ → List ℕ
front_of packet = take (min 68 (min (length packet) (total_length_of packet))) packet

-- what a frame holds; of a good packet its front is handed out
abbrev pub IsJudged : LinkLayer → List ℕ → FrameKind → Type 0
IsJudged link frame Other = is_other link frame ≡ true
IsJudged link frame Refused = is_refused link frame ≡ true
IsJudged link frame (Good front) = (is_good link frame ≡ true) × (front ≡ front_of (packet_of link frame))
