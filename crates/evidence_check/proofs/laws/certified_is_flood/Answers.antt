use Rattle.evidence_check.proofs.YesFacts.{flood_lists}
use Rattle.evidence_check.proofs.laws.certified_is_flood.Goals as goal

pub returns : goal.returns
returns c = flood_lists
