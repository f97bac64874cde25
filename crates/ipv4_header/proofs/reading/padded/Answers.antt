use Rattle.std.proofs.Common.{◌++◌, length, ap}
use Rattle.std.proofs.lemmas.List.{drop-replicate}
use Rattle.ipv4_header.proofs.reading.padded.Goals as goal

pub returns : goal.returns
returns c = rw c.copy_from_slice.ensures.after (ap (λ rest. c.args.options.now ++ rest) (drop-replicate (length c.args.options.now) 40 0))
