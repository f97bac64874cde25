use Rattle.evidence_text.proofs.Judging.{certificate_is_judgeable}
use Rattle.evidence_text.proofs.laws.certificates_are_judgeable.Goals as goal

pub returns : goal.returns
returns c = certificate_is_judgeable
