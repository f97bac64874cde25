use Rattle.evidence_check.proofs.YesFacts.{same_verdict}
use Rattle.evidence_check.proofs.laws.one_verdict.Goals as goal

pub returns : goal.returns
returns c = same_verdict
