-- A trace of one router around the lines of a capture.
use Rattle.std.specs.Prelude.{ℕ, ◌≡◌, ◌≢◌, ◌≤◌, List, [], ◌∷◌, ◌++◌, length, codes}
use Rattle.std.specs.List.{All}
use Rattle.line_text.specs.Text.{fields}
use Rattle.line_text.specs.Writing.{spaced}
use Rattle.packet_signature.specs.Signature.{signature_of}
use Rattle.spie_base.specs.declared.types.Rules.{Rules}
use Rattle.spie_base.specs.declared.types.Sig.{Sig}
use Rattle.trace_format.specs.Said as said
use Rattle.trace_format.specs.Spelling.{Spells, IsName}
use Rattle.trace_format.specs.Trace.{IsTrace}
use Rattle.trace_format.specs.Versions.{form_of, version_text}
use Rattle.trace_format.specs.declared.items.Trace.{Trace}
use Rattle.trace_format.specs.declared.limits.TheConstants.{MOST_LINE_BYTES}
use Rattle.trace_format.specs.declared.version.Version.{Version}
use Rattle.pcap_intake.specs.Intake.{AreLinesOf, Lines, goods, most_packets, taken}
use Rattle.pcap_intake.specs.Text.{Packet}

-- a `shape` line of this version, without its end
pub record IsShapeLine (version : Version) (line : List ℕ) (rules : Rules) : Type 0 where
  pub short : length line ≤ MOST_LINE_BYTES
  pub one : All (λ byte. byte ≢ 10) line
  pub spelled : Spells (form_of version) (said.Shape rules) (fields line)

abbrev pub version_line : Version → List ℕ
version_line version = codes "spie-trace" ++ 32 ∷ version_text version

abbrev pub router_line : (name region : List ℕ) → List ℕ
router_line name region = codes "router" ++ spaced name ++ spaced region

-- version, shape, the router, `begin`, these lines, `end`
abbrev pub framed : (version : Version) → (shape name region text : List ℕ) → List ℕ
framed version shape name region text =
    version_line version ++ 10 ∷ (shape ++ 10 ∷ (router_line name region ++ 10 ∷ (codes "begin" ++ 10 ∷ (text ++ (codes "end" ++ 10 ∷ [])))))

-- the signatures of packets, of which the latest stands first, in their order
abbrev pub signatures : List Packet → List Sig
signatures [] = []
signatures (p ∷ before) = signatures before ++ signature_of p.front ∷ []

-- in any version, with any shape and region, these lines make a trace
abbrev pub MakesTrace : (name text : List ℕ) → List Sig → Type 0
MakesTrace name text sigs = (version : Version) (shape region : List ℕ) (rules : Rules) → IsShapeLine version shape rules → IsName region
    → (trace : Trace) × IsTrace (framed version shape name region text) trace × (trace.sigs ≡ sigs)

-- the lines of this capture make a trace, with the signatures of the packets that are taken
pub record AreTraceLines (bytes name : List ℕ) (skip : ℕ) (lines : Lines) : Type 0 where
  pub are : AreLinesOf bytes name 0 skip lines
  pub traces : MakesTrace name lines.text (signatures (taken skip most_packets (goods are.kind are.made.records)))
