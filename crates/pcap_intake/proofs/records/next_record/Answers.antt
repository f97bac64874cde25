use Rattle.std.proofs.Common.{refl, ap, ◌∙◌}
use Rattle.pcap_intake.proofs.Heads.{first_by}
use Rattle.pcap_intake.specs.Capture.{microseconds_in}
use Rattle.pcap_intake.proofs.records.next_record.Goals as goal

pub returns-clause-next : goal.returns-clause-next
returns-clause-next c =
    first_by c.args.kind c.args.bytes.now c.number-count.result c.number.result c.microseconds.result _ c.if-bytes-lt-HEAD.false refl c.if-behind-count.false c.number-count.ensures c.number.ensures
    (c.microseconds.ensures ∙ ap (microseconds_in c.args.kind.resolution) c.number-fraction.ensures)
