use Rattle.std.proofs.Common.{refl, inl}
use Rattle.data_agent.specs.Standing.{StandsFor}
use Rattle.trace_replay.specs.Yards.{by_workers}
use Rattle.trace_replay.proofs.Needs.{watch_stands, watch_in}
use Rattle.trace_replay.proofs.Closes.{first_fits}
use Rattle.trace_replay.proofs.Within.{does_watch}
use Rattle.trace_replay.proofs.Beside.{own_at, beside_at}
use Rattle.trace_replay.proofs.lines.watch.Goals as goal

pub watch-seen-requires-clause-stands : goal.watch-seen-requires-clause-stands
watch-seen-requires-clause-stands c =
    let has = watch_stands (by_workers 1) StandsFor c.args.trace.now c.args.line.now c.args.agents.now c.index-agents-at.result c.args.state.now c.requires.ready.0 c.requires.ready.1 c.args.router c.args.packet c.requires.is in
    (has.0, has.1, has.2, inl has.3)

pub returns-clause-does : goal.returns-clause-does
returns-clause-does c = λ now.
    does_watch (by_workers 1) StandsFor c.args.trace.now c.args.line.now c.args.agents.now c.index-agents-at.result c.watch-seen.new.self c.args.state.now c.answered.new.state now now refl
    c.args.router c.args.packet c.sig_of-sig.result c.watch-seen.result c.requires.is c.sig_of-sig.ensures c.watch-seen.ensures.seen c.watch-seen.ensures.same c.watch-seen.ensures.entries c.in_ok-answered.ensures

pub watch-seen-requires-clause-own : goal.watch-seen-requires-clause-own
watch-seen-requires-clause-own c = own_at c.args.planes.now c.args.agents.now c.args.router.number c.index-planes-at.result c.index-agents-at.result c.requires.beside (watch_in (by_workers 1) StandsFor c.args.trace.now c.args.line.now c.args.agents.now c.index-agents-at.result c.args.state.now c.requires.ready.0 c.requires.ready.1 c.args.router c.args.packet c.requires.is) c.index-planes-at.is

pub returns-clause-beside : goal.returns-clause-beside
returns-clause-beside c = beside_at c.args.planes.now c.args.agents.now c.args.router.number c.index-planes-at.result c.watch-seen.new.self c.requires.beside (watch_in (by_workers 1) StandsFor c.args.trace.now c.args.line.now c.args.agents.now c.index-agents-at.result c.args.state.now c.requires.ready.0 c.requires.ready.1 c.args.router c.args.packet c.requires.is) c.index-planes-at.is c.watch-seen.ensures.own

pub answered-requires : goal.answered-requires
answered-requires c = first_fits (by_workers 1) StandsFor c.args.trace.now c.args.line.now c.args.agents.now c.args.state.now c.requires.ready.0 c.requires.ready.1
