use Rattle.std.proofs.Common.{None, refl}
use Rattle.evidence_check.proofs.SearchFacts.{knows_none}
use Rattle.evidence_check.proofs.last.LastOrigins.none.Goals as goal

pub returns : goal.returns
returns c = λ net. knows_none net (record { node = None; origins = c.new.result }) refl c.new.ensures.items
