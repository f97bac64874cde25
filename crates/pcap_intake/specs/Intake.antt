-- What a capture is turned into.
use Rattle.std.specs.Prelude.{ℕ, ◌+◌, ◌-◌, ◌==◌, ◌≡◌, Bool, not, ◌&&◌, List, [], ◌∷◌, length, min, nat_le, nat_lt, Ok, Err, if◌then◌else◌}
use Rattle.trace_format.specs.declared.limits.TheConstants.{MOST_PACKETS}
use Rattle.pcap_intake.specs.Capture.{Captured, HasRecords, header_in, second_of}
use Rattle.pcap_intake.specs.Frames.{is_good, is_other, is_refused, front_of, packet_of}
use Rattle.pcap_intake.specs.Text.{Packet, base_of, text_of}
use Rattle.pcap_intake.specs.declared.counts.Counts.{Counts}
use Rattle.pcap_intake.specs.declared.kind.CaptureKind.{CaptureKind}
use Rattle.pcap_intake.specs.declared.kind.LinkLayer.{LinkLayer}
use Rattle.pcap_intake.specs.declared.refused.CaptureRefused.{CaptureRefused}
use Rattle.pcap_intake.specs.declared.refused.CaptureRefused.TheVariants.{NoMemory, Refused}

-- packets are numbered below this
abbrev pub most_packets : ℕ
most_packets = MOST_PACKETS

abbrev pub packet_from : CaptureKind → Captured → Packet
packet_from kind r = record { second = second_of kind.order r.head; front = front_of (packet_of kind.link r.frame) }

-- the good packets, of which the latest stands first, as in the records
abbrev pub goods : CaptureKind → List Captured → List Packet
goods kind [] = []
goods kind (r ∷ before) = if is_good kind.link r.frame then packet_from kind r ∷ goods kind before else goods kind before

-- whether a good packet behind so many others is taken
abbrev pub is_taken : (skip most before : ℕ) → Bool
is_taken skip most before = nat_le skip before && nat_lt (before - skip) most

-- the good packets that are taken: the first ones are skipped, and then there are at most so many
abbrev pub taken : (skip most : ℕ) → List Packet → List Packet
taken skip most [] = []
taken skip most (p ∷ before) = if is_taken skip most (length before) then p ∷ taken skip most before else taken skip most before

-- how many records pass a test on their frames
abbrev pub count_of : (List ℕ → Bool) → List Captured → ℕ
count_of test [] = 0
count_of test (r ∷ before) = if test r.frame then count_of test before + 1 else count_of test before

-- the counts, by the number of good packets
abbrev pub counts_of : LinkLayer → (skip most : ℕ) → List Captured → (good : ℕ) → (left : List ℕ) → Counts
counts_of link skip most records good left = record {
  taken = min (good - skip) most;
  skipped = min skip good;
  left = good - skip - most;
  other = count_of (is_other link) records;
  refused = count_of (is_refused link) records;
  cut = not (length left == 0);
}

-- a text and counts
pub record Lines : Type 0 where
  pub text : List ℕ
  pub counts : Counts

-- the records of a capture with this header are turned into these lines: packets are numbered from the first number on,
-- behind those that are skipped
pub record IsMadeOf (kind : CaptureKind) (bytes name : List ℕ) (first skip : ℕ) (lines : Lines) : Type 0 where
  pub records : List Captured
  pub left : List ℕ
  pub split : HasRecords kind.order bytes records left
  pub text : lines.text ≡ (let packets = taken skip (most_packets - first) (goods kind records) in text_of name first (base_of packets) packets)
  pub counts : lines.counts ≡ counts_of kind.link skip (most_packets - first) records (length (goods kind records)) left

-- these are the lines of a capture
pub record AreLinesOf (bytes name : List ℕ) (first skip : ℕ) (lines : Lines) : Type 0 where
  pub kind : CaptureKind
  pub accepted : header_in bytes ≡ Ok kind
  pub made : IsMadeOf kind bytes name first skip lines

-- why a capture is refused
abbrev pub IsRefusedFor : List ℕ → CaptureRefused → Type 0
IsRefusedFor bytes NoMemory = Unit {0}
IsRefusedFor bytes (Refused place why) = header_in bytes ≡ Err (Refused place why)
