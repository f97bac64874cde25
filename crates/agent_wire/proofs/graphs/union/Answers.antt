use Rattle.std.proofs.Common.{◌≡◌, ◌∙◌, ◌++◌, ap, List}
use Rattle.std.specs.List.{flat_map}
use Rattle.reverse_flood.specs.declared.graphs.Node.{Node}
use Rattle.reverse_flood.specs.declared.graphs.Edge.{Edge}
use Rattle.reverse_flood.specs.Flood.{node_cmp}
use Rattle.agent_wire.specs.Told.{all_told, exits_among}
use Rattle.agent_wire.proofs.GraphFacts.{edge_list, told_list}
use Rattle.agent_wire.proofs.graphs.union.Goals as goal

pub returns : goal.returns
returns c =
    let made = c.args.made.now in
    let nodes = told_list node_cmp (λ p. p.nodes) made _ c.ascending-nodes.result c.in_ok-told.ensures.nodes c.ascending-nodes.ensures.ordered c.ascending-nodes.ensures.same in
    let found : c.push_all_exits.new.edges.items ≡ all_told (λ p. p.edges) made ++ flat_map (exits_among c.ascending-nodes.result) made =
    c.in_ok-push_all_exits.ensures
    ∙ ap (λ (xs : List Edge). xs ++ flat_map (exits_among c.items.result.now) made) c.in_ok-told.ensures.edges
    ∙ ap (λ (ns : List Node). all_told (λ p. p.edges) made ++ flat_map (exits_among ns) made) c.items.ensures in
    record {
      nodes = nodes;
      edges = edge_list made c.ascending-nodes.result _ c.ascending.result nodes.same found c.ascending.ensures.ordered c.ascending.ensures.same;
      unknown = told_list node_cmp (λ p. p.unknown) made _ c.ascending-2.result c.in_ok-told.ensures.unknown c.ascending-2.ensures.ordered c.ascending-2.ensures.same;
      clear = told_list node_cmp (λ p. p.clear) made _ c.ascending-3.result c.in_ok-told.ensures.clear c.ascending-3.ensures.ordered c.ascending-3.ensures.same;
    }
