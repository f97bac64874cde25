-- What holds of all captures and all packets.
use Rattle.std.specs.Prelude.{ℕ, ◌≡◌, List, true, None}
use Rattle.ipv4_header.specs.Grammar.{refusal_of}
use Rattle.packet_signature.specs.Signature.{signature_of}
use Rattle.pcap_intake.specs.Frames.{is_good, front_of, packet_of}
use Rattle.hex.specs.Hex.{IsBytes}
use Rattle.trace_format.specs.Spelling.{IsName}
use Rattle.pcap_intake.specs.RouterTrace.{MakesTrace, signatures}
use Rattle.pcap_intake.specs.Intake.{AreLinesOf, Lines, taken, goods, most_packets}
use Rattle.pcap_intake.specs.declared.kind.LinkLayer.{LinkLayer}

-- a capture has one text and one set of counts
abbrev pub EachCaptureHasOneText : Type 0
EachCaptureHasOneText = (bytes name : List ℕ) (first skip : ℕ) (one other : Lines) → AreLinesOf bytes name first skip one → AreLinesOf bytes name first skip other → one ≡ other

-- what is written of a packet has the packet's signature
pub record IsWrittenWhole (packet : List ℕ) : Type 0 where
  pub accepted : refusal_of (front_of packet) ≡ None
  pub signature : signature_of (front_of packet) ≡ signature_of packet

-- of each good packet, with its checksum unset
abbrev pub SignaturesStay : Type 0
SignaturesStay = (link : LinkLayer) (frame : List ℕ) → is_good link frame ≡ true → IsWrittenWhole (packet_of link frame)

-- the lines of each capture whose packets are numbered from 0 make a trace, with the signatures of the packets that are taken
abbrev pub EachTextMakesATrace : Type 0
EachTextMakesATrace = (bytes name : List ℕ) (skip : ℕ) (lines : Lines) → IsBytes bytes → IsName name → (are : AreLinesOf bytes name 0 skip lines)
    → MakesTrace name lines.text (signatures (taken skip most_packets (goods are.kind are.made.records)))
