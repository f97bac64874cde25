use Rattle.std.proofs.Common.{inr}
use Rattle.router_account.specs.Shelves.{view_of}
use Rattle.trace_replay.specs.Aways.{besides, reads}
use Rattle.trace_replay.proofs.OperatorLines.{may_archive, archives}
use Rattle.trace_replay.proofs.operator.archive.Goals as goal

pub archive-requires-clause-noted : goal.archive-requires-clause-noted
archive-requires-clause-noted g c =
    let view = view_of g.H.Shelf.tells g.H.Shelf.contents g.H.Shelf.faults in
    let has = may_archive besides reads c.args.trace.now c.args.line.now c.args.agents.now c.index-agents-at.result c.requires.ready.0 c.args.answers.now.items (view c.args.shelf.now) c.requires.ready.1 c.args.router c.requires.is in
    inr (has.3, (has.0, has.1, has.2, has.4, has.5))

pub returns-clause-does : goal.returns-clause-does
returns-clause-does g c = λ clock.
    let view = view_of g.H.Shelf.tells g.H.Shelf.contents g.H.Shelf.faults in
    let e = c.in_ok-archive.ensures in
    archives besides reads c.args.trace.now c.args.line.now c.args.agents.now c.index-agents-at.result c.archive.new.self clock c.args.answers.now.items c.push_answer.new.answers.items (view c.args.shelf.now) (view c.archive.new.shelf)
    c.args.router c.requires.is e.later e.still e.noted.0 e.noted.2 e.noted.3 e.reads c.in_ok-push_answer.ensures
