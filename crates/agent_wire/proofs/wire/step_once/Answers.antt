use Rattle.std.proofs.Common.{IfOk, subst, sym}
use Rattle.topology.specs.Layout.{Layout}
use Rattle.reverse_flood.specs.Flood.{Net, net_of}
use Rattle.agent_wire.specs.Link.{HasStepped}
use Rattle.agent_wire.specs.declared.wire.Event.{Event}
use Rattle.agent_wire.specs.declared.wire.Event.TheVariants.{Send}
use Rattle.agent_wire.specs.declared.wire.WireAnswer.{WireAnswer}
use Rattle.agent_wire.proofs.LinkFacts.{if_ok}
use Rattle.agent_wire.proofs.wire.step_once.Goals as goal

pub returns-in-Send-clause-stepped : goal.returns-in-Send-clause-stepped
returns-in-Send-clause-stepped g c =
    let net = net_of g.S.Sighting.shown c.args.sights.now c.args.topology.now in
    let layout = c.args.topology.now in
    let At : Event → Type 0 = λ e. IfOk c.send.result (HasStepped net layout e c.args.state.now c.send.new.self) in
    subst At (sym c.in-Send.is) (if_ok c.send.result
    (λ (a : WireAnswer). (n : Net) (l : Layout) → HasStepped n l (Send c.in-Send.number) c.args.state.now c.send.new.self a)
    (HasStepped net layout (Send c.in-Send.number) c.args.state.now c.send.new.self)
    (λ a h. h net layout)
    c.send.ensures.stepped)
