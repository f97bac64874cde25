-- One record, and what was made of those before it. No public clause cites this module.
use Rattle.std.specs.Prelude.{ℕ, ◌-◌, ◌≡◌, ◌<◌, ◌^◌, List, [], ◌∷◌, ◌++◌, length, min, false, Some, None}
use Rattle.std.specs.declared.option.Option.{Option}
use Rattle.pcap_intake.specs.Capture.{Captured, IsRecord, Begins, second_of}
use Rattle.pcap_intake.specs.Frames.{is_other, is_refused}
use Rattle.pcap_intake.specs.Intake.{goods, taken, count_of, most_packets}
use Rattle.pcap_intake.specs.Text.{Packet, base_of, clock_after, text_of}
use Rattle.pcap_intake.specs.declared.counts.Counts.{Counts}
use Rattle.pcap_intake.specs.declared.kind.CaptureKind.{CaptureKind}
use Rattle.pcap_intake.specs.declared.kind.Endian.{Endian}
use Rattle.pcap_intake.specs.declared.writing.Clock.{Clock}

-- these bytes begin with a record
pub record IsNext (order : Endian) (bytes : List ℕ) (second : ℕ) (frame after : List ℕ) : Type 0 where
  pub head : List ℕ
  pub is_record : IsRecord order (record { head = head; frame = frame })
  pub split : bytes ≡ head ++ (frame ++ after)
  pub time : second ≡ second_of order head

-- a text so far, the second of its first packet, and its clock
pub record Page : Type 0 where
  pub text : List ℕ
  pub base : Option ℕ
  pub clock : Clock

-- the second from which times count, once this packet is there
abbrev pub base_or : Option ℕ → (second : ℕ) → ℕ
base_or None second = second
base_or (Some base) second = base

abbrev pub base_in : List Packet → Option ℕ
base_in [] = None
base_in (p ∷ before) = Some (base_of (p ∷ before))

-- the lines of these packets, of which the latest stands first
pub record IsWritten (name : List ℕ) (first : ℕ) (packets : List Packet) (page : Page) : Type 0 where
  pub text : page.text ≡ text_of name first (base_of packets) packets
  pub base : page.base ≡ base_in packets
  pub clock : page.clock ≡ clock_after (base_of packets) packets

-- the lines and counts of these good packets, of which the latest stands first
pub record AreTaken (name : List ℕ) (first skip : ℕ) (packets : List Packet) (page : Page) (counts : Counts) : Type 0 where
  pub lines : IsWritten name first (taken skip (most_packets - first) packets) page
  pub taken_is : counts.taken ≡ min (length packets - skip) (most_packets - first)
  pub skipped_is : counts.skipped ≡ min skip (length packets)
  pub left_is : counts.left ≡ length packets - skip - (most_packets - first)

-- what these records are turned into, of which the latest stands first
pub record AreAdded (kind : CaptureKind) (name : List ℕ) (first skip : ℕ) (records : List Captured) (page : Page) (counts : Counts) : Type 0 where
  pub good : AreTaken name first skip (goods kind records) page counts
  pub other_is : counts.other ≡ count_of (is_other kind.link) records
  pub refused_is : counts.refused ≡ count_of (is_refused kind.link) records
  pub whole : counts.cut ≡ false

-- the records before the rest were added
pub record IsReached (kind : CaptureKind) (name : List ℕ) (first skip : ℕ) (bytes rest : List ℕ) (page : Page) (counts : Counts) : Type 0 where
  pub records : List Captured
  pub begins : Begins kind.order bytes records rest
  pub added : AreAdded kind name first skip records page counts

-- counts that can rise
pub record CanRise (counts : Counts) : Type 0 where
  pub other : counts.other < 2 ^ 32 - 1
  pub refused : counts.refused < 2 ^ 32 - 1
  pub left : counts.left < 2 ^ 32 - 1
