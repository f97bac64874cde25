use Rattle.std.proofs.Common.{◌≡◌, take, ap, sym, ◌∙◌}
use Rattle.ipv4_header.specs.Grammar.{total_length_of, header_in}
use Rattle.pcap_intake.proofs.Fronts.{good_front, refused_front}
use Rattle.pcap_intake.proofs.frames.judged.Goals as goal

pub returns-in-Ok : goal.returns-in-Ok
unfolding header_in
returns-in-Ok c =
    let total : c.in-Ok.header.total_length ≡ total_length_of (take c.min-count.result c.unset_front-bytes.result) = ap (λ h. h.total_length) c.in-Ok.ensures.fields in
    good_front c.args.link c.args.frame.now c.in-Some.packet.now c.unset_front-bytes.result c.min-count.result c.min.result c.from.result (sym c.in-Some.ensures) c.min-count.ensures c.unset_front-bytes.ensures c.in-Ok.ensures.accepted (c.from.ensures ∙ total) c.min.ensures

pub returns-in-Err : goal.returns-in-Err
returns-in-Err c = refused_front c.args.link c.args.frame.now c.in-Some.packet.now c.unset_front-bytes.result c.min-count.result c.in-Err.field-0 (sym c.in-Some.ensures) c.min-count.ensures c.unset_front-bytes.ensures c.in-Err.ensures.refused
