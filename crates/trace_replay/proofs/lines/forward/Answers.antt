use Rattle.std.proofs.Common.{refl}
use Rattle.data_agent.specs.Standing.{StandsFor}
use Rattle.trace_replay.specs.Yards.{by_workers}
use Rattle.trace_replay.proofs.Needs.{forward_stands, forward_in}
use Rattle.trace_replay.proofs.Closes.{first_fits}
use Rattle.trace_replay.proofs.Within.{does_forward}
use Rattle.trace_replay.proofs.Beside.{own_at, beside_at}
use Rattle.trace_replay.proofs.lines.forward.Goals as goal

pub forward-page-requires-clause-stands : goal.forward-page-requires-clause-stands
forward-page-requires-clause-stands c =
    forward_stands (by_workers 1) StandsFor c.args.trace.now c.args.line.now c.args.agents.now c.index-agents-at.result c.args.state.now c.requires.ready.0 c.requires.ready.1 c.args.router c.args.packet c.requires.is

pub returns-clause-does : goal.returns-clause-does
returns-clause-does c = λ now.
    does_forward (by_workers 1) StandsFor c.args.trace.now c.args.line.now c.args.agents.now c.index-agents-at.result c.forward-page.new.self c.args.state.now c.answered.new.state now now refl
    c.args.router c.args.packet c.sig_of-sig.result c.forward-page.result.number c.requires.is c.sig_of-sig.ensures c.forward-page.ensures.page c.forward-page.ensures.recorded c.forward-page.ensures.entries c.in_ok-answered.ensures

pub forward-page-requires-clause-own : goal.forward-page-requires-clause-own
forward-page-requires-clause-own c = own_at c.args.planes.now c.args.agents.now c.args.router.number c.index-planes-at.result c.index-agents-at.result c.requires.beside (forward_in (by_workers 1) StandsFor c.args.trace.now c.args.line.now c.args.agents.now c.index-agents-at.result c.args.state.now c.requires.ready.0 c.requires.ready.1 c.args.router c.args.packet c.requires.is) c.index-planes-at.is

pub returns-clause-beside : goal.returns-clause-beside
returns-clause-beside c = beside_at c.args.planes.now c.args.agents.now c.args.router.number c.index-planes-at.result c.forward-page.new.self c.requires.beside (forward_in (by_workers 1) StandsFor c.args.trace.now c.args.line.now c.args.agents.now c.index-agents-at.result c.args.state.now c.requires.ready.0 c.requires.ready.1 c.args.router c.args.packet c.requires.is) c.index-planes-at.is c.forward-page.ensures.own

pub answered-requires : goal.answered-requires
answered-requires c = first_fits (by_workers 1) StandsFor c.args.trace.now c.args.line.now c.args.agents.now c.args.state.now c.requires.ready.0 c.requires.ready.1
