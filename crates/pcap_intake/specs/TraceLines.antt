-- What the lines of a capture say in a trace. No public clause cites this module.
use Rattle.std.specs.Prelude.{ℕ, ◌-◌, ◌≡◌, ◌≤◌, ◌<◌, ◌^◌, Bool, true, false, List, [], ◌∷◌, ◌++◌, length, codes, None}
use Rattle.std.specs.Fmt.{decimal}
use Rattle.hex.specs.Hex.{encode_lower, IsBytes}
use Rattle.ipv4_header.specs.Grammar.{refusal_of}
use Rattle.spie_base.specs.declared.types.Rules.{Rules}
use Rattle.topology.specs.Layout.{empty, with_router}
use Rattle.trace_format.specs.Before.{layout_of, sigs_of, clock_of, count_of, is_tick, is_record}
use Rattle.trace_format.specs.Said.{Said}
use Rattle.trace_format.specs.Said as said
use Rattle.trace_format.specs.declared.version.Version.{Version}
use Rattle.trace_format.specs.Words.{stage_of}
use Rattle.trace_format.specs.declared.words.Stage.TheVariants as stage
use Rattle.pcap_intake.specs.Text.{Packet, clock_after, is_later}
use Rattle.pcap_intake.specs.declared.writing.Clock.{Clock}

abbrev pub tick_line : ℕ → List ℕ
tick_line time = codes "tick" ++ 32 ∷ decimal time

abbrev pub packet_line : List ℕ → List ℕ
packet_line front = codes "packet" ++ 32 ∷ encode_lower front

abbrev pub forward_line : List ℕ → ℕ → List ℕ
forward_line name number = codes "fwd" ++ 32 ∷ name ++ 32 ∷ decimal number

-- a packet that was read from a capture
pub record IsPacket (p : Packet) : Type 0 where
  pub second : p.second < 2 ^ 32
  pub bytes : IsBytes p.front
  pub read : refusal_of p.front ≡ None
  pub short : length p.front ≤ 68

abbrev pub ArePackets : List Packet → Type 0
ArePackets [] = Unit {0}
ArePackets (p ∷ before) = IsPacket p × ArePackets before

abbrev pub tick_said : Bool → ℕ → List Said → List Said
tick_said true time before = said.Tick time ∷ before
tick_said false time before = before

-- what the lines up to these packets say; the latest stands first
abbrev pub said_of : (version : Version) → (rules : Rules) → (name region : List ℕ) → (base : ℕ) → List Packet → List Said
said_of version rules name region base [] = said.Begin ∷ said.Router name region ∷ said.Shape rules ∷ said.Version version ∷ []
said_of version rules name region base (p ∷ before) =
    said.Fwd name (length before) ∷ said.Packet p.front
    ∷ tick_said (is_later (clock_after base before) (p.second - base)) (p.second - base) (said_of version rules name region base before)

-- what is known behind some of the lines
pub record Stands (name region : List ℕ) (packets records : ℕ) (clock : Clock) (before : List Said) : Type 0 where
  pub stage_is : stage_of before ≡ stage.Body
  pub layout_is : layout_of before ≡ with_router empty name region
  pub packets_are : length (sigs_of before) ≡ packets
  pub records_are : count_of is_record before ≡ records
  pub time_is : clock_of before ≡ clock.time
  pub ticks_are : count_of is_tick before ≡ clock.ticks
