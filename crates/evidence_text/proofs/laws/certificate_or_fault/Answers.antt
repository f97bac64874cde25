use Rattle.line_text.proofs.Readings.{one_of}
use Rattle.evidence_text.proofs.OneReading.{Fit, reads_lines}
use Rattle.evidence_text.specs.Language.{certificates, refusals}
use Rattle.evidence_text.specs.Reading.{reader}
use Rattle.evidence_text.proofs.laws.certificate_or_fault.Goals as goal

pub returns : goal.returns
returns c = one_of certificates refusals reader Fit reads_lines
