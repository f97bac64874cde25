use Rattle.std.proofs.Common.{◌∙◌, refl, sym}
use Rattle.router_account.specs.Shelves.{view_of}
use Rattle.trace_replay.specs.Aways.{besides, reads}
use Rattle.trace_replay.specs.Segments.{no_line}
use Rattle.trace_replay.proofs.OperatorWalk.{comes_on}
use Rattle.trace_replay.proofs.operator.operate_at.Goals as goal

pub returns-clause-operates : goal.returns-clause-operates
returns-clause-operates g c =
    let view = view_of g.H.Shelf.tells g.H.Shelf.contents g.H.Shelf.faults in
    comes_on besides reads c.args.trace.now c.args.lines.now c.args.i no_line _ c.requires.there refl c.args.agents.now c.operation.new.agents c.args.clock c.args.answers.now.items c.operation.new.answers.items (view c.args.shelf.now) (view c.operation.new.shelf)
    (sym c.is_record.ensures ∙ c.if-is_record.false) c.in_ok-operation.ensures.does
