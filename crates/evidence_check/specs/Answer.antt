-- What a certificate proves where all its lines hold.
use Rattle.std.specs.Prelude.{ℕ, ◌≡◌, ◌↔◌, [], ◌∷◌, take, slice_get, Some}
use Rattle.std.specs.List.{Contains}
use Rattle.reverse_flood.specs.Flood.{Net, IsNode, IsEdge, IsUnknown, IsClear, IsListOf, everywhere, edge_cmp, node_cmp}
use Rattle.reverse_flood.specs.declared.graphs.Node.{Node}
use Rattle.evidence_text.specs.declared.certificates.Named.{Named}
use Rattle.evidence_text.specs.declared.certificates.Certificate.{Certificate}
use Rattle.evidence_check.specs.Judging.{IsLed, named_nodes}

-- its lists are those of the flood from the start. The nodes stand in an order of their own, each once: the start is the
-- first, and each later one names an earlier node from which it is one step back. The others ascend
pub record Certifies (net : Net) (c : Certificate) : Type 0 where
  pub nodes : (n : Node) → Contains (named_nodes c) n ↔ IsNode net everywhere (c.start ∷ []) n
  pub once : (place : ℕ) (x : Named) → slice_get c.nodes place ≡ Some x → Contains (take place (named_nodes c)) x.node → ⊥
  pub led : (place : ℕ) (x : Named) → slice_get c.nodes place ≡ Some x → IsLed net c.start (take place (named_nodes c)) x
  pub edges : IsListOf edge_cmp (IsEdge net everywhere (c.start ∷ [])) c.edges
  pub unknown : IsListOf node_cmp (IsUnknown net everywhere (c.start ∷ [])) c.unknown
  pub clear : IsListOf node_cmp (IsClear net everywhere (c.start ∷ [])) c.clear
