use Rattle.std.proofs.Common.{refl}
use Rattle.data_agent.specs.Standing.{StandsFor}
use Rattle.trace_replay.specs.Yards.{by_workers}
use Rattle.trace_replay.proofs.Closes.{first_fits}
use Rattle.trace_replay.proofs.Within.{does_rotate}
use Rattle.trace_replay.proofs.Needs.{rotate_ready, rotate_in}
use Rattle.trace_replay.proofs.Beside.{own_at, beside_at}
use Rattle.trace_replay.proofs.lines.rotate.Goals as goal

pub rotate_alone-requires-clause-ready : goal.rotate_alone-requires-clause-ready
rotate_alone-requires-clause-ready c = rotate_ready (by_workers 1) StandsFor c.args.trace.now c.args.line.now c.args.agents.now c.index-agents-at.result c.args.state.now c.requires.ready.0 c.requires.ready.1 c.args.router c.requires.is

pub returns-clause-does : goal.returns-clause-does
returns-clause-does c = λ now.
    does_rotate (by_workers 1) StandsFor c.args.trace.now c.args.line.now c.args.agents.now c.index-agents-at.result c.rotate_alone.new.self c.args.state.now c.answered.new.state now now refl
    c.args.router c.in_ok-page.page.number c.requires.is c.in_ok-page.ensures.page c.in_ok-page.ensures.turned c.rotate_alone.ensures.entries c.in_ok-answered.ensures

pub rotate_alone-requires-clause-own : goal.rotate_alone-requires-clause-own
rotate_alone-requires-clause-own c = own_at c.args.planes.now c.args.agents.now c.args.router.number c.index-planes-at.result c.index-agents-at.result c.requires.beside (rotate_in (by_workers 1) StandsFor c.args.trace.now c.args.line.now c.args.agents.now c.index-agents-at.result c.args.state.now c.requires.ready.0 c.requires.ready.1 c.args.router c.requires.is) c.index-planes-at.is

pub returns-clause-beside : goal.returns-clause-beside
returns-clause-beside c = beside_at c.args.planes.now c.args.agents.now c.args.router.number c.index-planes-at.result c.rotate_alone.new.self c.requires.beside (rotate_in (by_workers 1) StandsFor c.args.trace.now c.args.line.now c.args.agents.now c.index-agents-at.result c.args.state.now c.requires.ready.0 c.requires.ready.1 c.args.router c.requires.is) c.index-planes-at.is c.rotate_alone.ensures.own

pub answered-requires : goal.answered-requires
answered-requires c = first_fits (by_workers 1) StandsFor c.args.trace.now c.args.line.now c.args.agents.now c.args.state.now c.requires.ready.0 c.requires.ready.1
