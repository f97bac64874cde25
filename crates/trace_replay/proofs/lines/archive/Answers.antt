use Rattle.std.proofs.Common.{refl, inl}
use Rattle.data_agent.specs.Standing.{StandsFor}
use Rattle.trace_replay.specs.Yards.{by_workers}
use Rattle.router_account.specs.Shelves.{view_of}
use Rattle.trace_replay.proofs.Needs.{archive_fresh, archive_in}
use Rattle.trace_replay.proofs.Closes.{first_fits}
use Rattle.trace_replay.proofs.Within.{does_archive}
use Rattle.trace_replay.proofs.Beside.{own_at, beside_at}
use Rattle.trace_replay.proofs.lines.archive.Goals as goal

pub archive-requires-clause-noted : goal.archive-requires-clause-noted
archive-requires-clause-noted g c =
    let view = view_of g.H.Shelf.tells g.H.Shelf.contents g.H.Shelf.faults in
    inl (archive_fresh (by_workers 1) StandsFor c.args.trace.now c.args.line.now c.args.agents.now c.index-agents-at.result c.args.state.now (view c.args.shelf.now) c.requires.ready c.args.router c.requires.is)

pub returns-clause-does : goal.returns-clause-does
returns-clause-does g c =
    let view = view_of g.H.Shelf.tells g.H.Shelf.contents g.H.Shelf.faults in
    let e = c.in_ok-archive.ensures in
    does_archive (by_workers 1) StandsFor c.args.trace.now c.args.line.now c.args.agents.now c.index-agents-at.result c.archive.new.self c.args.state.now c.answered.new.state (view c.args.shelf.now) (view c.archive.new.shelf) refl
    c.args.router c.requires.is e.later e.still e.noted.0 e.noted.1 e.noted.3 c.archive.ensures.entries c.in_ok-answered.ensures

pub archive-requires-clause-own : goal.archive-requires-clause-own
archive-requires-clause-own g c = own_at c.args.planes.now c.args.agents.now c.args.router.number c.index-planes-at.result c.index-agents-at.result c.requires.beside (archive_in (by_workers 1) StandsFor c.args.trace.now c.args.line.now c.args.agents.now c.index-agents-at.result c.args.state.now (view_of g.H.Shelf.tells g.H.Shelf.contents g.H.Shelf.faults c.args.shelf.now) c.requires.ready c.args.router c.requires.is) c.index-planes-at.is

pub returns-clause-beside : goal.returns-clause-beside
returns-clause-beside g c = beside_at c.args.planes.now c.args.agents.now c.args.router.number c.index-planes-at.result c.archive.new.self c.requires.beside (archive_in (by_workers 1) StandsFor c.args.trace.now c.args.line.now c.args.agents.now c.index-agents-at.result c.args.state.now (view_of g.H.Shelf.tells g.H.Shelf.contents g.H.Shelf.faults c.args.shelf.now) c.requires.ready c.args.router c.requires.is) c.index-planes-at.is c.archive.ensures.own

pub answered-requires : goal.answered-requires
answered-requires g c = first_fits (by_workers 1) StandsFor c.args.trace.now c.args.line.now c.args.agents.now c.args.state.now (view_of g.H.Shelf.tells g.H.Shelf.contents g.H.Shelf.faults c.args.shelf.now) c.requires.ready
