use Rattle.std.proofs.Common.{◌↔◌, List, IsTrue, subst}
use Rattle.reverse_flood.specs.declared.graphs.Node.{Node}
use Rattle.regional_agent.specs.Answers.{AreHome}
use Rattle.agent_wire.specs.Messages.{IsOwn}
use Rattle.agent_wire.proofs.agents.Agent.is_own.Goals as goal

pub returns-then-request-self : goal.returns-then-request-self
returns-then-request-self c =
    let At : List Node → Type 0 = λ xs. IsTrue c.lie_in.result ↔ AreHome c.args.topology.now c.args.self.now.region xs in
    let lies = subst At c.items.ensures c.lie_in.ensures in (
      (λ h. record { region_is = search; home = lies.0 h }),
      (λ (w : IsOwn c.args.topology.now c.args.self.now.region c.args.request.now). lies.1 w.home),
    )
