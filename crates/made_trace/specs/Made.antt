-- The lines of a made trace. Read `made` first, at the end.
use Rattle.std.specs.Prelude.{ℕ, zero, suc, ◌+◌, ◌-◌, ◌/◌, ◌%◌, ◌==◌, List, [], ◌∷◌, ◌++◌, map, replicate, codes, decimal, bit_xor, if◌then◌else◌}
use Rattle.std.specs.List.{range_with_len}
use Rattle.std.specs.Int.{w64, to_be_bytes}
use Rattle.ipv4_header.specs.Spelling.{spelled}
use Rattle.ipv4_header.specs.declared.Header.{Header}
use Rattle.packet_signature.specs.declared.Kind.TheVariants as kind
use Rattle.spie_base.specs.declared.Rules.{Rules}
use Rattle.trace_format.specs.Before.{known_of}
use Rattle.trace_format.specs.Said.{Said}
use Rattle.trace_format.specs.Said as said
use Rattle.trace_format.specs.Trace.{trace_of}
use Rattle.trace_format.specs.declared.Trace.{Trace}
use Rattle.trace_format.specs.declared.version.Version.TheVariants.{First}
use Rattle.made_trace.specs.declared.draws.Draw.{Draw}
use Rattle.made_trace.specs.Draws.{destination, draw_of, hop_at, hops, is_changed, source, state_at}
use Rattle.made_trace.specs.Lines.{lines_text}

-- ---- the network

abbrev pub router_name : ℕ → List ℕ
router_name r = codes "r" ++ decimal r

abbrev pub made_rules : (seed : ℕ) → Rules
made_rules seed = record { k = 3; n = 16; limit = 4096; span = 500; keep = 2; age = 1500; width = 300; base = seed }

abbrev pub region_name : ℕ → List ℕ
region_name zero = codes "east"
region_name (suc zero) = codes "north"
region_name _ = codes "west"

-- twelve routers in a ring, four in a region, and six links across
abbrev pub router_lines : List Said
router_lines = map (λ r. said.Router (router_name r) (region_name (r / 4))) (range_with_len 0 12)

abbrev pub ring_lines : List Said
ring_lines = map (λ r. said.Link (router_name r) (router_name ((r + 1) % 12)) 0) (range_with_len 0 12)

abbrev pub cross_lines : List Said
cross_lines = map (λ r. said.Link (router_name r) (router_name (r + 6)) 0) (range_with_len 0 6)

abbrev pub network_lines : List Said
network_lines = router_lines ++ (ring_lines ++ cross_lines)

abbrev pub head : (seed : ℕ) → List Said
head seed = said.Version First ∷ said.Shape (made_rules seed) ∷ (network_lines ++ said.Begin ∷ [])

-- ---- a packet

-- a UDP packet of 28 bytes, numbered by its identification
abbrev pub made_header : (i source destination : ℕ) → Header
made_header i source destination = record {
  tos = 0;
  total_length = 28;
  identification = i % 65536;
  flags_fragment = 0;
  ttl = 64;
  protocol = 17;
  checksum = 0;
  source = source;
  destination = destination;
  options = replicate 40 0;
  option_length = 0;
}

abbrev pub packet_of : (i source : ℕ) → Draw → List ℕ
packet_of i source d = spelled (made_header i source (destination d)) ++ to_be_bytes w64 d.payload

-- how many packet lines it has, and the number of the packet at its last hop, where m is the first
abbrev pub used : Draw → ℕ
used d = if is_changed d then 2 else 1

abbrev pub last_packet : (m : ℕ) → Draw → ℕ
last_packet m d = if is_changed d then m + 1 else m

-- it is forwarded at some hops, one after another
abbrev pub forward_at : Draw → (packet : ℕ) → (j : ℕ) → Said
forward_at d packet j = said.Fwd (router_name (hop_at d j)) packet

abbrev pub forwards : Draw → (packet from count : ℕ) → List Said
forwards d packet from zero = []
forwards d packet from (suc count) = forwards d packet from count ++ forward_at d packet (from + count) ∷ []

-- it crosses the network as it is
abbrev pub plain : (i m : ℕ) → Draw → List Said
plain i m d = said.Packet (packet_of i (source d) d) ∷ forwards d m 0 (hops d)

-- or its second hop gives it another source
abbrev pub changed : (i m : ℕ) → Draw → List Said
changed i m d =
    said.Packet (packet_of i (source d) d) ∷ said.Packet (packet_of i (bit_xor (source d) 1) d) ∷ forward_at d m 0
    ∷ said.Xf (router_name (hop_at d 1)) kind.Nat m (m + 1) ∷ forwards d (m + 1) 2 (hops d - 2)

abbrev pub crossing : (i m : ℕ) → Draw → List Said
crossing i m d = if is_changed d then changed i m d else plain i m d

-- behind each hundredth packet the clock is set
abbrev pub ticking : (i : ℕ) → List Said
ticking i = if (i + 1) % 100 == 0 then said.Tick ((i + 1) / 10) ∷ [] else []

abbrev pub last_hop : Draw → ℕ
last_hop d = hop_at d (hops d - 1)

-- and behind each thousandth a router's pages are rotated and archived, and its last hop is asked
abbrev pub asking : (i m : ℕ) → Draw → List Said
asking i m d =
    if (i + 1) % 1000 == 0
    then said.Rotate (router_name ((i + 1) / 1000 % 12)) ∷ said.Archive (router_name ((i + 1) / 1000 % 12))
    ∷ said.Watch (router_name (last_hop d)) (last_packet m d) ∷ said.Query (router_name (last_hop d)) (last_packet m d) ((i + 1) / 10) ∷ []
    else []

abbrev pub packet_lines : (i m : ℕ) → Draw → List Said
packet_lines i m d = crossing i m d ++ (ticking i ++ asking i m d)

-- ---- all packets

abbrev pub draw_at : (seed i : ℕ) → Draw
draw_at seed i = draw_of (state_at seed i)

-- how many packet lines there are before a packet's
abbrev pub number_at : (seed i : ℕ) → ℕ
number_at seed zero = 0
number_at seed (suc i) = number_at seed i + used (draw_at seed i)

abbrev pub body : (seed packets : ℕ) → List Said
body seed zero = []
body seed (suc i) = body seed i ++ packet_lines i (number_at seed i) (draw_at seed i)

-- the lines of the trace that so many packets make
abbrev pub made : (seed packets : ℕ) → List Said
made seed packets = head seed ++ (body seed packets ++ said.End ∷ [])

-- its text, and the trace that these lines say
abbrev pub made_text : (seed packets : ℕ) → List ℕ
made_text seed packets = lines_text (made seed packets)

-- the lines with the latest first
abbrev pub behind : List Said → List Said → List Said
behind before [] = before
behind before (s ∷ more) = behind (s ∷ before) more

abbrev pub made_trace : (seed packets : ℕ) → Trace
made_trace seed packets = trace_of (known_of (behind [] (made seed packets)))
