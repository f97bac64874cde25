-- What holds of every certificate.
use Rattle.std.specs.Prelude.{ℕ, ◌↔◌, ◌≡◌, Some, true, false, length}
use Rattle.std.specs.List.{Contains}
use Rattle.reverse_flood.specs.Flood.{IsFlood, Net}
use Rattle.reverse_flood.specs.declared.graphs.Graph.{Graph}
use Rattle.reverse_flood.specs.declared.graphs.Node.{Node}
use Rattle.evidence_text.specs.declared.certificates.Certificate.{Certificate}
use Rattle.evidence_check.specs.declared.verdicts.Verdict.{Verdict}
use Rattle.evidence_check.specs.Answer.{Certifies}
use Rattle.evidence_check.specs.Checking.{IsJudged}
use Rattle.evidence_check.specs.Judging.{AllHold, AtClear, AtEdge, AtEnd, AtNode, AtUnknown, EdgeAt, EndHolds, FailsFirst, LeftAt, NodeAt, line_number, named_nodes}
use Rattle.evidence_check.specs.Lines.{IsFirstBad}

-- its lines hold exactly where its lists are those of the flood
abbrev pub HoldingIsCertifying : Type 0
HoldingIsCertifying = (net : Net) (c : Certificate) → AllHold net c ↔ Certifies net c

-- judged part by part, the first line that fails is that of the first part with one
pub record PartsJudge (net : Net) (c : Certificate) : Type 0 where
  pub node : (bad : ℕ) → IsFirstBad (length c.nodes) (NodeAt net c.start c.nodes) (Some bad) → FailsFirst net c (line_number c (AtNode bad))
  pub edge : (bad : ℕ) → ((i : ℕ) → NodeAt net c.start c.nodes i) → IsFirstBad (length c.edges) (EdgeAt net (named_nodes c) c.edges) (Some bad) → FailsFirst net c (line_number c (AtEdge bad))
  pub unknown : (bad : ℕ) → ((i : ℕ) → NodeAt net c.start c.nodes i) → ((i : ℕ) → EdgeAt net (named_nodes c) c.edges i) → IsFirstBad (length c.unknown) (LeftAt net c.start (named_nodes c) true c.unknown) (Some bad) → FailsFirst net c (line_number c (AtUnknown bad))
  pub clear : (bad : ℕ) → ((i : ℕ) → NodeAt net c.start c.nodes i) → ((i : ℕ) → EdgeAt net (named_nodes c) c.edges i) → ((i : ℕ) → LeftAt net c.start (named_nodes c) true c.unknown i) → IsFirstBad (length c.clear) (LeftAt net c.start (named_nodes c) false c.clear) (Some bad) → FailsFirst net c (line_number c (AtClear bad))
  pub all : ((i : ℕ) → NodeAt net c.start c.nodes i) → ((i : ℕ) → EdgeAt net (named_nodes c) c.edges i) → ((i : ℕ) → LeftAt net c.start (named_nodes c) true c.unknown i) → ((i : ℕ) → LeftAt net c.start (named_nodes c) false c.clear i) → EndHolds net c → AllHold net c
  pub end : ((i : ℕ) → NodeAt net c.start c.nodes i) → ((i : ℕ) → EdgeAt net (named_nodes c) c.edges i) → ((i : ℕ) → LeftAt net c.start (named_nodes c) true c.unknown i) → ((i : ℕ) → LeftAt net c.start (named_nodes c) false c.clear i) → (EndHolds net c → ⊥) → FailsFirst net c (line_number c AtEnd)

abbrev pub PartsAreJudged : Type 0
PartsAreJudged = (net : Net) (c : Certificate) → PartsJudge net c

-- ---- what a yes says

-- the nodes are those of a flood, in an order of their own, and the other lists are those of the flood
pub record HasLists (c : Certificate) (graph : Graph) : Type 0 where
  pub nodes : (n : Node) → Contains (named_nodes c) n ↔ Contains graph.nodes n
  pub edges : c.edges ≡ graph.edges
  pub unknown : c.unknown ≡ graph.unknown
  pub clear : c.clear ≡ graph.clear

-- whoever floods the same pages finds the same
abbrev pub CertifiedIsFlood : Type 0
CertifiedIsFlood = (net : Net) (c : Certificate) (graph : Graph) → Certifies net c → IsFlood net c.start graph → HasLists c graph

-- a certificate has one verdict
abbrev pub OneVerdict : Type 0
OneVerdict = (c : Certificate) (one other : Verdict) → IsJudged c one → IsJudged c other → one ≡ other
