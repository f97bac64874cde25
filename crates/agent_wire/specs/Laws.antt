-- What the definitions of requests and of their union imply.
use Rattle.std.specs.Prelude.{◌<◌, ℕ, List, [], ◌∷◌, length}
use Rattle.std.specs.List.{Contains}
use Rattle.topology.specs.Layout.{Layout, IsSound}
use Rattle.reverse_flood.specs.declared.graphs.Node.{Node}
use Rattle.reverse_flood.specs.declared.graphs.Graph.{Graph}
use Rattle.reverse_flood.specs.declared.graphs.Part.{Part}
use Rattle.reverse_flood.specs.Flood.{Net, IsFlood, IsPart, in_region}
use Rattle.agent_wire.specs.Requests.{IsAnswered, AreRequests, LeadsToRouters}
use Rattle.agent_wire.specs.Accepting.{HasAccepted, first_request}
use Rattle.agent_wire.specs.declared.requests.Asked.{Asked}
use Rattle.agent_wire.specs.Union.{IsUnion}

-- where a part was accepted for each request, the union is the flood
abbrev pub UnionIsFlood : Type 0
UnionIsFlood =
    (net : Net) (layout : Layout) (start : Node) (made : List Asked) (graph : Graph) → AreRequests net layout start made
    → ((q : Asked) → Contains made q → IsAnswered q) → IsUnion made graph → IsFlood net start graph

-- request 0 is what the requests from a start may be
abbrev pub FirstIsSound : Type 0
FirstIsSound = (net : Net) (layout : Layout) (start : Node) → start.router.number < length layout.names → AreRequests net layout start (first_request layout start ∷ [])

-- and where the region's part of its request is accepted, the requests are so again
abbrev pub AcceptingIsSound : Type 0
AcceptingIsSound =
    (net : Net) (layout : Layout) (start : Node) (number : ℕ) (part : Part) (before after : List Asked) → IsSound layout → LeadsToRouters net layout
    → AreRequests net layout start before → (accepted : HasAccepted layout number part before after) → IsPart net (in_region layout accepted.of.region) accepted.of.entries part
    → AreRequests net layout start after
