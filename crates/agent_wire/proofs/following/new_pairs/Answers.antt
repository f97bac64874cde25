use Rattle.std.proofs.Common.{◌≡◌, ◌∙◌, ap, List, sym, subst}
use Rattle.std.specs.List.{Contains}
use Rattle.reverse_flood.specs.declared.graphs.Node.{Node}
use Rattle.reverse_flood.specs.declared.graphs.Edge.{Edge}
use Rattle.agent_wire.specs.Sets.{news}
use Rattle.agent_wire.proofs.FollowFacts.{news_are}
use Rattle.agent_wire.proofs.following.new_pairs.Goals as goal

pub returns : goal.returns
returns c = record {
  ascending = c.ascending.ensures.ordered;
  same = λ n.
      let At : List Node → Type 0 = λ xs. Contains xs n in
      let are = news_are c.args.topology.now c.args.known.now c.args.part.now n in
      let found = c.ascending.ensures.same n in
      let is : c.in_ok-found.found.items ≡ news c.args.topology.now c.args.known.now c.args.part.now.exits = c.in_ok-found.ensures ∙ ap (λ (xs : List Edge). news c.args.topology.now c.args.known.now xs) c.items.ensures in (
        (λ h. are.0 (subst At is (found.0 h))),
        (λ w. found.1 (subst At (sym is) (are.1 w))),
      );
}
