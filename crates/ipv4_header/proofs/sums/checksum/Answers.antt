use Rattle.ipv4_header.proofs.Words.{checksum_of-sums}
use Rattle.ipv4_header.proofs.sums.checksum.Goals as goal

pub returns : goal.returns
returns c = checksum_of-sums c.args.header.now _ _ _ c.requires.least c.sum_of_words.ensures.exact c.sum_of_words-2.ensures.exact c.folded.ensures
