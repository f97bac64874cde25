use Rattle.std.proofs.Common.{◌≡◌, ◌+◌, length, min, ap, arith}
use Rattle.ipv4_header.specs.Grammar.{header_length_of, total_length_of, header_in}
use Rattle.packet_signature.proofs.Places.{signature_of-cut}
use Rattle.packet_signature.proofs.signatures.signature.Goals as goal

pub returns-clause-masked : goal.returns-clause-masked
unfolding header_in
returns-clause-masked c =
    let total : c.in_ok-header.header.total_length ≡ total_length_of c.args.packet.now = ap (λ h. h.total_length) c.in_ok-header.ensures.fields in
    let payload : 20 + c.from-2.result ≡ header_length_of c.args.packet.now = omega (arith, c.from-2.ensures, c.in_ok-header.ensures.length) in
    let end : c.min.result ≡ min (length c.args.packet.now) (total_length_of c.args.packet.now) = omega (arith, c.min.ensures, c.from.ensures, total) in
    signature_of-cut c.args.packet.now (20 + c.from-2.result) c.min.result c.shown.result payload end c.shown.ensures
