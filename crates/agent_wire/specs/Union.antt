-- The union of the accepted parts.
use Rattle.std.specs.Prelude.{◌≡◌, ◌<◌, ◌⊎◌, ℕ, length, Bool, not, List, Some, is_some}
use Rattle.std.specs.List.{Contains, position_or_len}
use Rattle.reverse_flood.specs.declared.graphs.Node.{Node}
use Rattle.reverse_flood.specs.declared.graphs.Edge.{Edge}
use Rattle.reverse_flood.specs.declared.graphs.Graph.{Graph}
use Rattle.reverse_flood.specs.declared.graphs.Part.{Part}
use Rattle.reverse_flood.specs.Flood.{Net, IsFlood, IsListOf, node_cmp, edge_cmp}
use Rattle.topology.specs.Layout.{Layout}
use Rattle.agent_wire.specs.Requests.{IsAnswered, AreRequests}
use Rattle.agent_wire.specs.declared.manager.NotYet.{NotYet}
use Rattle.agent_wire.specs.declared.manager.NotYet.TheVariants as not_yet
use Rattle.agent_wire.specs.declared.requests.Asked.{Asked}

-- x stands in a list of an accepted part
pub record IsTold {X : Type 0} (made : List Asked) (list : Part → List X) (x : X) : Type 0 where
  pub of : Asked
  pub has : Contains made of
  pub part : Part
  pub accepted : of.part ≡ Some part
  pub told : Contains (list part) x

abbrev pub IsUnionNode : List Asked → Node → Type 0
IsUnionNode made = IsTold made (λ p. p.nodes)

-- an exit is an edge where it leads to a node
abbrev pub IsUnionEdge : List Asked → Edge → Type 0
IsUnionEdge made e = IsTold made (λ p. p.edges) e ⊎ (IsTold made (λ p. p.exits) e × IsUnionNode made e.up)

pub record IsUnion (made : List Asked) (graph : Graph) : Type 0 where
  pub nodes : IsListOf node_cmp (IsUnionNode made) graph.nodes
  pub edges : IsListOf edge_cmp (IsUnionEdge made) graph.edges
  pub unknown : IsListOf node_cmp (IsTold made (λ p. p.unknown)) graph.unknown
  pub clear : IsListOf node_cmp (IsTold made (λ p. p.clear)) graph.clear

-- whether a part of a request is not accepted, and the least number of one, or how many requests there are
abbrev pub is_open : Asked → Bool
is_open q = not (is_some q.part)

abbrev pub first_open : List Asked → ℕ
first_open made = position_or_len is_open made

-- a part was accepted for each request
abbrev pub AreAnswered : List Asked → Type 0
AreAnswered made = (q : Asked) → Contains made q → IsAnswered q

-- the flood from each start from which these are the requests
abbrev pub IsFloodOf : List Asked → Graph → Type 0
IsFloodOf made graph = (net : Net) (layout : Layout) (start : Node) → AreRequests net layout start made → IsFlood net start graph

-- why there is no graph yet
abbrev pub IsNotYet : List Asked → NotYet → Type 0
IsNotYet made (not_yet.Pending number) = (number ≡ first_open made) × (number < length made)
IsNotYet made not_yet.NoMemory = Unit {0}
