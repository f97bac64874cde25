use Rattle.std.proofs.Common.{◌≡◌, ◌+◌, take, refl, ap, ◌∙◌}
use Rattle.ipv4_header.specs.Sums.{checksum_of}
use Rattle.ipv4_header.specs.Spelling.{right_checksum}
use Rattle.ipv4_header.proofs.Reread.{take-fields_of}
use Rattle.ipv4_header.proofs.writing.summed.Goals as goal

pub returns-clause-exact : goal.returns-clause-exact
returns-clause-exact c =
    let front = ap (λ n. take n c.unsummed-bytes.result) c.requires.counted ∙ ap (take (20 + c.args.header.now.option_length)) c.unsummed-bytes.ensures.exact ∙ take-fields_of c.args.header.now 0 in
    let sum : c.checksum-sum.result ≡ right_checksum c.args.header.now = c.checksum-sum.ensures ∙ ap checksum_of front in
    rw (c.write_u16.ensures, c.unsummed-bytes.ensures.exact, sum) refl
