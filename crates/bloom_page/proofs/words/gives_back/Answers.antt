use Rattle.std.proofs.Common.{arith}
use Rattle.bloom_page.proofs.PageFacts.{words_back}
use Rattle.bloom_page.proofs.words.gives_back.Goals as goal

pub returns : goal.returns
returns c = words_back c.args.n c.args.words.now (λ i. omega (arith, c.type_inv.words i)) c.requires
