use Rattle.std.proofs.Common.{ℕ, List, Ok, Err, Result, IfOk}
use Rattle.evidence_text.specs.Outcomes.{fault_in}
use Rattle.line_text.proofs.Answering.{is_text, is_fault, each_text, each_fault}
use Rattle.evidence_text.proofs.Judging.{certificate_is_judgeable}
use Rattle.evidence_text.proofs.OneReading.{Fit, reads_lines}
use Rattle.evidence_text.specs.Judgeable.{IsJudgeable}
use Rattle.evidence_text.specs.Language.{IsCertificate, certificates, refusals}
use Rattle.evidence_text.specs.Reading.{reader, read_of}
use Rattle.evidence_text.specs.declared.certificates.Certificate.{Certificate}
use Rattle.evidence_text.specs.declared.refused.CheckRefused.{CheckRefused}
use Rattle.evidence_text.proofs.reader.read_certificate.Goals as goal

judgeable_by : (text : List ℕ) (answer : Result Certificate CheckRefused) → IfOk answer (λ c. IsCertificate text c) → IfOk answer IsJudgeable
judgeable_by text (Ok c) h = certificate_is_judgeable text c h
judgeable_by text (Err e) h = tt

pub returns-clause-certificate : goal.returns-clause-certificate
unfolding read_of
returns-clause-certificate c = is_text certificates refusals reader Fit reads_lines fault_in c.args.text.now _ c.read_text.ensures

pub returns-clause-judgeable : goal.returns-clause-judgeable
unfolding read_of
returns-clause-judgeable c = judgeable_by c.args.text.now _ (is_text certificates refusals reader Fit reads_lines fault_in c.args.text.now _ c.read_text.ensures)

pub returns-clause-fault : goal.returns-clause-fault
unfolding read_of
returns-clause-fault c = is_fault certificates refusals reader Fit reads_lines fault_in c.args.text.now _ c.read_text.ensures

pub returns-clause-each_certificate : goal.returns-clause-each_certificate
unfolding read_of
returns-clause-each_certificate c = each_text certificates refusals reader Fit reads_lines fault_in c.args.text.now _ c.read_text.ensures

pub returns-clause-each_fault : goal.returns-clause-each_fault
unfolding read_of
returns-clause-each_fault c = each_fault certificates refusals reader Fit reads_lines fault_in c.args.text.now _ c.read_text.ensures
