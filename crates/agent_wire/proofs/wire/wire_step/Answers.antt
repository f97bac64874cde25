use Rattle.agent_wire.proofs.LinkFacts.{step_begun, step_link}
use Rattle.agent_wire.proofs.wire.wire_step.Goals as goal

pub returns-clause-begun : goal.returns-clause-begun
returns-clause-begun g c = step_begun _ c.args.topology.now c.args.event.now c.args.state.now _ c.in_ok-answer.answer c.in_ok-answer.ensures.stepped c.requires.begun

pub returns-clause-kept : goal.returns-clause-kept
returns-clause-kept g c start link =
    step_link _ c.args.topology.now start c.args.event.now c.args.state.now _ c.in_ok-answer.answer c.topology_is_sound.ensures (λ a b linked. (c.topology_is_sound.ensures.ends a b linked).1) c.in_ok-answer.ensures.stepped link
