-- The requests of a manager, with the part that it accepted for each, and what always holds of them.
use Rattle.std.specs.Prelude.{◌≡◌, ◌<◌, ℕ, List, [], ◌∷◌, Some, length, IsTrue}
use Rattle.std.specs.List.{Contains}
use Rattle.topology.specs.Layout.{Layout}
use Rattle.reverse_flood.specs.declared.graphs.Node.{Node}
use Rattle.reverse_flood.specs.declared.graphs.Edge.{Edge}
use Rattle.reverse_flood.specs.declared.graphs.Part.{Part}
use Rattle.reverse_flood.specs.Flood.{Net, IsAsked, IsPart, everywhere, in_region}
use Rattle.regional_agent.specs.Answers.{AreHome}
use Rattle.agent_wire.specs.declared.requests.Asked.{Asked}

-- a pair is an entry of a request
pub record IsEntry (made : List Asked) (n : Node) : Type 0 where
  pub of : Asked
  pub has : Contains made of
  pub entry : Contains of.entries n

-- a part was accepted for a request
pub record IsAnswered (q : Asked) : Type 0 where
  pub part : Part
  pub is : q.part ≡ Some part

-- links lead to routers that exist, as those of a topology do
abbrev pub LeadsToRouters : Net → Layout → Type 0
LeadsToRouters net layout = (a b : ℕ) → IsTrue (net.linked a b) → b < length layout.names

-- what holds of the requests from a start, whatever the link does: entries lie in their region and are asked by the
-- flood, an accepted part is the region's, and each pair to which an exit leads is an entry
pub record AreRequests (net : Net) (layout : Layout) (start : Node) (made : List Asked) : Type 0 where
  pub begun : IsEntry made start
  pub home : (q : Asked) → Contains made q → AreHome layout q.region q.entries
  pub asked : (q : Asked) (n : Node) → Contains made q → Contains q.entries n → IsAsked net everywhere (start ∷ []) n
  pub answered : (q : Asked) (p : Part) → Contains made q → q.part ≡ Some p → IsPart net (in_region layout q.region) q.entries p
  pub followed : (q : Asked) (p : Part) (e : Edge) → Contains made q → q.part ≡ Some p → Contains p.exits e → IsEntry made e.up
