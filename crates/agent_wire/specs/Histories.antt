-- Histories: an event after the other, with what each answered.
use Rattle.std.specs.Prelude.{◌≡◌, ◌<◌, List, [], ◌∷◌, length}
use Rattle.topology.specs.Layout.{Layout, IsSound}
use Rattle.reverse_flood.specs.declared.graphs.Node.{Node}
use Rattle.reverse_flood.specs.declared.graphs.Graph.{Graph}
use Rattle.reverse_flood.specs.Flood.{Net, IsFlood}
use Rattle.agent_wire.specs.declared.wire.Event.{Event}
use Rattle.agent_wire.specs.declared.wire.WireAnswer.{WireAnswer}
use Rattle.agent_wire.specs.Requests.{LeadsToRouters}
use Rattle.agent_wire.specs.Accepting.{first_request}
use Rattle.agent_wire.specs.Union.{AreAnswered, IsUnion}
use Rattle.agent_wire.specs.Link.{HasStepped, IsLink, Link}

-- any events, in any order, with what each answered, lead from one link to another
abbrev pub IsHistory : Net → Layout → List Event → List WireAnswer → (before after : Link) → Type 0
IsHistory net layout [] [] before after = before ≡ after
IsHistory net layout (event ∷ events) (result ∷ results) before after = (mid : Link) × HasStepped net layout event before mid result × IsHistory net layout events results mid after
IsHistory net layout [] (result ∷ results) before after = ⊥
IsHistory net layout (event ∷ events) [] before after = ⊥

-- request 0 alone, and no message
abbrev pub first_link : Layout → (start : Node) → Link
first_link layout start = record { made = first_request layout start ∷ []; sent = [] }

-- whatever the link did, each accepted part is the part of its request, each sent message is that of a request or a
-- reply to one, and once each request has its part the union of the parts is the flood
pub record IsTrusted (net : Net) (layout : Layout) (start : Node) (link : Link) : Type 0 where
  pub link_is : IsLink net layout start link
  pub flood : (graph : Graph) → AreAnswered link.made → IsUnion link.made graph → IsFlood net start graph

abbrev pub AnyHistoryIsTrusted : Type 0
AnyHistoryIsTrusted =
    (net : Net) (layout : Layout) (start : Node) (events : List Event) (results : List WireAnswer) (after : Link) → IsSound layout → LeadsToRouters net layout → start.router.number < length layout.names
    → IsHistory net layout events results (first_link layout start) after → IsTrusted net layout start after
