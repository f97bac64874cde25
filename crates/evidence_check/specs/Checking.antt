-- What a certificate is worth.
use Rattle.std.specs.Prelude.{ℕ, ◌≡◌, Bool, true, false, length}
use Rattle.evidence_text.specs.declared.certificates.Certificate.{Certificate}
use Rattle.evidence_check.specs.declared.verdicts.Verdict.{Verdict}
use Rattle.evidence_check.specs.declared.verdicts.Verdict.TheVariants.{Yes, No}
use Rattle.evidence_check.specs.Answer.{Certifies}
use Rattle.evidence_check.specs.Evidence.{stated_net}
use Rattle.evidence_check.specs.Judging.{FailsFirst}

-- its lists are those of the flood over its pages, and so long
pub record Proves (c : Certificate) (nodes edges unknown clear : ℕ) : Type 0 where
  pub certifies : Certifies (stated_net c) c
  pub nodes_are : nodes ≡ length c.nodes
  pub edges_are : edges ≡ length c.edges
  pub unknown_are : unknown ≡ length c.unknown
  pub clear_are : clear ≡ length c.clear

-- yes says that the lists are those of the flood, and no which line is the first that fails
abbrev pub IsJudged : Certificate → Verdict → Type 0
IsJudged c (Yes nodes edges unknown clear) = Proves c nodes edges unknown clear
IsJudged c (No line) = FailsFirst (stated_net c) c line

abbrev pub is_yes : Verdict → Bool
is_yes (Yes nodes edges unknown clear) = true
is_yes (No line) = false
