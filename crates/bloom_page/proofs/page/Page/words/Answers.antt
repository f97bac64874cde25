use Rattle.std.proofs.Common.{ap, sym}
use Rattle.bloom_page.proofs.BitFacts.{members_of-ascending}
use Rattle.bloom_page.proofs.PageFacts.{below_size}
use Rattle.bloom_page.proofs.page.Page.words.Goals as goal

pub returns-clause-ascending : goal.returns-clause-ascending
returns-clause-ascending c = rw (sym (ap (λ page. page.members) c.self.view_is)) (members_of-ascending c.self.inside.words.items)

pub returns-clause-below : goal.returns-clause-below
returns-clause-below c = rw (sym c.self.view_is) (below_size c.self.inside.n c.self.inside.words.items c.self.invariant)
