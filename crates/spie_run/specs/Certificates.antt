-- What `check` writes, and which texts it refuses.
use Rattle.std.specs.Prelude.{ℕ, ◌≡◌, List, [], ◌∷◌, ◌++◌, length, codes, decimal}
use Rattle.line_text.specs.Writing.{spaced}
use Rattle.evidence_check.specs.Answer.{Certifies}
use Rattle.evidence_check.specs.Evidence.{stated_net}
use Rattle.evidence_check.specs.Judging.{FailsFirst}
use Rattle.evidence_text.specs.Language.{IsCertificate, IsFault}
use Rattle.evidence_text.specs.declared.certificates.Certificate.{Certificate}
use Rattle.evidence_text.specs.declared.refused.CheckFault.{CheckFault}
use Rattle.evidence_text.specs.declared.refused.CheckWhy.{CheckWhy}
use Rattle.evidence_text.specs.declared.refused.CheckWhy.TheVariants.{TooLong, After, Ending, Word, Fields, Field, Order}
use Rattle.spie_run.specs.Captures.{counted}
use Rattle.spie_run.specs.Refusals.{refusal_text}

-- one line: the lengths of the four lists
abbrev pub yes_text : (nodes edges unknown clear : ℕ) → List ℕ
yes_text nodes edges unknown clear = codes "yes" ++ counted (codes "nodes") nodes ++ counted (codes "edges") edges ++ counted (codes "unknown") unknown ++ counted (codes "clear") clear ++ 10 ∷ []

-- one line: the line of the certificate
abbrev pub no_text : (line : ℕ) → List ℕ
no_text line = codes "no" ++ spaced (decimal line) ++ 10 ∷ []

-- the input is a certificate whose lists are those of the flood over its pages, and the output says so
pub record SaysYes (input output : List ℕ) : Type 0 where
  pub certificate : Certificate
  pub read : IsCertificate input certificate
  pub certifies : Certifies (stated_net certificate) certificate
  pub says : output ≡ yes_text (length certificate.nodes) (length certificate.edges) (length certificate.unknown) (length certificate.clear)

-- the input is a certificate whose lists are others, and the output says which line is the first that fails
pub record SaysNo (input output : List ℕ) : Type 0 where
  pub certificate : Certificate
  pub line : ℕ
  pub read : IsCertificate input certificate
  pub others : Certifies (stated_net certificate) certificate → ⊥
  pub first : FailsFirst (stated_net certificate) certificate line
  pub says : output ≡ no_text line

-- the word of a rule on certificates
abbrev pub check_why_word : CheckWhy → List ℕ
check_why_word TooLong = codes "too-long"
check_why_word After = codes "after"
check_why_word Ending = codes "ending"
check_why_word Word = codes "word"
check_why_word Fields = codes "fields"
check_why_word Field = codes "field"
check_why_word Order = codes "order"

-- the input is no certificate, and the output names its first faulty line and the first rule that it breaks
pub record IsCertificateRefusal (input output : List ℕ) : Type 0 where
  pub fault : CheckFault
  pub first : IsFault input fault
  pub says : output ≡ refusal_text fault.line (check_why_word fault.why)
