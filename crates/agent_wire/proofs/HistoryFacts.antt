-- What always holds of a link holds after any events.
use Rattle.std.proofs.Common.{◌<◌, List, [], ◌∷◌, length, subst}
use Rattle.topology.specs.Layout.{Layout, IsSound}
use Rattle.reverse_flood.specs.declared.graphs.Node.{Node}
use Rattle.reverse_flood.specs.Flood.{Net}
use Rattle.agent_wire.specs.declared.wire.Event.{Event}
use Rattle.agent_wire.specs.declared.wire.WireAnswer.{WireAnswer}
use Rattle.agent_wire.specs.Requests.{LeadsToRouters}
use Rattle.agent_wire.specs.Histories.{IsHistory, IsTrusted, first_link}
use Rattle.agent_wire.specs.Link.{IsLink, Link}
use Rattle.agent_wire.proofs.LinkFacts as links
use Rattle.agent_wire.proofs.UnionFacts.{union_flood}

kept : (net : Net) (layout : Layout) (start : Node) (events : List Event) (results : List WireAnswer) (before after : Link) → IsSound layout → LeadsToRouters net layout → IsHistory net layout events results before after → IsLink net layout start before → IsLink net layout start after
kept net layout start [] [] before after sound leads same are = let At : Link → Type 0 = λ l. IsLink net layout start l in subst At same are
kept net layout start (event ∷ events) (result ∷ results) before after sound leads history are =
    kept net layout start events results history.0 after sound leads history.2 (links.step_link net layout start event before history.0 result sound leads history.1 are)
kept net layout start [] (result ∷ results) before after sound leads history are = absurd history
kept net layout start (event ∷ events) [] before after sound leads history are = absurd history

pub trusted : (net : Net) (layout : Layout) (start : Node) (events : List Event) (results : List WireAnswer) (after : Link) → IsSound layout → LeadsToRouters net layout → start.router.number < length layout.names
    → IsHistory net layout events results (first_link layout start) after → IsTrusted net layout start after
trusted net layout start events results after sound leads exists history =
    let are = kept net layout start events results (first_link layout start) after sound leads history (links.first_link net layout start exists) in
    record { link_is = are; flood = λ graph all union. union_flood net layout start after.made graph are.requests all union }
