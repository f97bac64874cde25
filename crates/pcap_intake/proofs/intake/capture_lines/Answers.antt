use Rattle.std.proofs.Common.{sym, ◌∙◌, arith}
use Rattle.pcap_intake.proofs.Heads.{header_long}
use Rattle.pcap_intake.proofs.Traces.{from_zero}
use Rattle.pcap_intake.proofs.intake.capture_lines.Goals as goal

pub add_records-requires-clause-least : goal.add_records-requires-clause-least
add_records-requires-clause-least c = header_long c.args.bytes.now c.in_ok-kind.kind (sym c.file_header.ensures ∙ c.in_ok-kind.was)

pub returns-clause-trace : goal.returns-clause-trace
returns-clause-trace c = λ zero.
    from_zero c.args.bytes.now c.args.name.now c.args.first c.args.skip c.in_ok-add_records.field-0 (λ i. let h = c.type_inv.bytes i in omega (arith, h)) c.requires.name
    (record { kind = c.in_ok-kind.kind; accepted = sym c.file_header.ensures ∙ c.in_ok-kind.was; made = c.in_ok-add_records.ensures }) zero
