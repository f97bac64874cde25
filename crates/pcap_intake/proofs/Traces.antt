-- The text of a capture makes a trace.
use Rattle.std.proofs.Common.{ℕ, ◌≡◌, List, arith, sym, subst}
use Rattle.hex.specs.Hex.{IsBytes}
use Rattle.trace_format.specs.Spelling.{IsName}
use Rattle.pcap_intake.proofs.Pages.{length_taken}
use Rattle.pcap_intake.proofs.SmallBytes.{are_packets, are_taken, drop_bytes}
use Rattle.pcap_intake.proofs.TraceLines.{makes_trace}
use Rattle.pcap_intake.specs.RouterTrace.{MakesTrace, AreTraceLines, signatures}
use Rattle.pcap_intake.specs.Intake.{AreLinesOf, IsMadeOf, Lines, goods, taken, most_packets}
use Rattle.pcap_intake.specs.Text.{base_of}
use Rattle.pcap_intake.specs.declared.kind.CaptureKind.{CaptureKind}

made_traces : (kind : CaptureKind) (bytes name : List ℕ) (skip : ℕ) (lines : Lines) → IsBytes bytes → IsName name → (made : IsMadeOf kind bytes name 0 skip lines)
    → MakesTrace name lines.text (signatures (taken skip most_packets (goods kind made.records)))
made_traces kind bytes name skip lines small n made =
    let good = are_packets kind _ made.records made.left made.split.begins (drop_bytes 24 bytes small) in
    let some = are_taken skip most_packets (goods kind made.records) good in
    let count = length_taken skip most_packets (goods kind made.records) in
    let P : List ℕ → Type 0 = λ t. MakesTrace name t (signatures (taken skip most_packets (goods kind made.records))) in
    subst P (sym made.text) (makes_trace name (base_of (taken skip most_packets (goods kind made.records))) (taken skip most_packets (goods kind made.records)) n some (omega (arith, count)))

pub capture_makes_trace : (bytes name : List ℕ) (skip : ℕ) (lines : Lines) → IsBytes bytes → IsName name → (are : AreLinesOf bytes name 0 skip lines)
    → MakesTrace name lines.text (signatures (taken skip most_packets (goods are.kind are.made.records)))
capture_makes_trace bytes name skip lines small n are = made_traces are.kind bytes name skip lines small n are.made

pub from_zero : (bytes name : List ℕ) (first skip : ℕ) (lines : Lines) → IsBytes bytes → IsName name → AreLinesOf bytes name first skip lines → first ≡ 0 → AreTraceLines bytes name skip lines
from_zero bytes name first skip lines small n are zero =
    let P : ℕ → Type 0 = λ f. AreLinesOf bytes name f skip lines in
    let zeroed = subst P zero are in
    record { are = zeroed; traces = capture_makes_trace bytes name skip lines small n zeroed }
