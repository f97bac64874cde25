use Rattle.std.proofs.Common.{◌<◌, ◌∷◌, [], length, subst}
use Rattle.spie_base.proofs.Membership.{has_one}
use Rattle.reverse_flood.specs.declared.graphs.Node.{Node}
use Rattle.reverse_flood.proofs.floods.graph_of.Goals as goal

pub returns : goal.returns
returns g c = λ start exists way.
    let Exists : Node → Type 0 = λ n. n.router.number < length c.args.topology.now.names in
    let part = c.in_ok-part.ensures (start ∷ []) (λ n h. subst Exists (has_one start n h) exists) way in
    record { nodes = part.nodes; edges = part.edges; unknown = part.unknown; clear = part.clear }
