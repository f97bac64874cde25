use Rattle.std.proofs.Common.{◌∙◌}
use Rattle.router_account.specs.Shelves.{view_of}
use Rattle.trace_replay.specs.Aways.{besides, reads}
use Rattle.trace_replay.proofs.OperatorWalk.{still_at, operates_on}
use Rattle.trace_replay.proofs.operator.operate.Goals as goal

pub operate_at-requires-clause-ready : goal.operate_at-requires-clause-ready
operate_at-requires-clause-ready g c = λ κs lives.
    let view = view_of g.H.Shelf.tells g.H.Shelf.contents g.H.Shelf.faults in
    still_at besides reads c.args.trace.now c.args.lines.now c.loop-i.i c.args.agents.now c.loop-i.agents c.args.clock c.args.answers.now.items c.loop-i.answers.items (view c.args.shelf.now) (view c.loop-i.shelf)
    c.requires.ready c.loop-i.invariant.operates

pub loop-i-preserved : goal.loop-i-preserved
loop-i-preserved g c =
    let view = view_of g.H.Shelf.tells g.H.Shelf.contents g.H.Shelf.faults in
    record {
      beside = c.in_ok-operate_at.ensures.beside;
      entries = λ r d. c.in_ok-operate_at.ensures.entries r d ∙ c.loop-i.invariant.entries r d;
      operates = operates_on besides reads c.args.trace.now c.args.lines.now 0 c.loop-i.i c.args.agents.now c.loop-i.agents c.operate_at.new.agents c.args.clock c.args.answers.now.items c.loop-i.answers.items c.operate_at.new.answers.items
          (view c.args.shelf.now) (view c.loop-i.shelf) (view c.operate_at.new.shelf) c.loop-i.invariant.operates c.in_ok-operate_at.ensures.operates;
    }
