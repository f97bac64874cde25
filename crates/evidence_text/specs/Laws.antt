-- What holds of every certificate.
use Rattle.std.specs.Prelude.{ℕ, List}
use Rattle.line_text.specs.Language.{IsOneOf}
use Rattle.evidence_text.specs.declared.certificates.Certificate.{Certificate}
use Rattle.evidence_text.specs.Judgeable.{IsJudgeable}
use Rattle.evidence_text.specs.Language.{IsCertificate, IsFault}

-- the text is a certificate, and of one value only, or has a first fault, and no other
abbrev pub IsEither : List ℕ → Type 0
IsEither text = IsOneOf (λ c. IsCertificate text c) (λ fault. IsFault text fault)

-- what a certificate says is in its ranges and in its order
abbrev pub AreJudgeable : Type 0
AreJudgeable = (text : List ℕ) (c : Certificate) → IsCertificate text c → IsJudgeable c
