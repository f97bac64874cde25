use Rattle.std.proofs.Common.{◌∙◌, sym}
use Rattle.data_agent.specs.Standing.{StandsFor}
use Rattle.router_account.specs.Shelves.{view_of}
use Rattle.trace_replay.specs.Yards.{by_workers}
use Rattle.trace_replay.proofs.Doing.{proceeds_within, proceeds_closing}
use Rattle.trace_replay.proofs.alone.step.Goals as goal

pub returns-then-is_barrier-clause-proceeds : goal.returns-then-is_barrier-clause-proceeds
returns-then-is_barrier-clause-proceeds g c =
    let view = view_of g.H.Shelf.tells g.H.Shelf.contents g.H.Shelf.faults in
    proceeds_closing (by_workers 1) StandsFor c.args.trace.now c.args.line.now c.args.agents.now c.line_closing.new.agents c.args.state.now c.line_closing.new.state (view c.args.shelf.now) (view c.line_closing.new.shelf)
    (sym c.is_barrier.ensures ∙ c.if-is_barrier.true) (c.in_ok-line_closing.ensures.closes 1)

pub returns-clause-proceeds : goal.returns-clause-proceeds
returns-clause-proceeds g c =
    let view = view_of g.H.Shelf.tells g.H.Shelf.contents g.H.Shelf.faults in
    proceeds_within (by_workers 1) StandsFor c.args.trace.now c.args.line.now c.args.agents.now c.line_within.new.agents c.args.state.now c.line_within.new.state (view c.args.shelf.now) (view c.line_within.new.shelf)
    (sym c.is_barrier.ensures ∙ c.if-is_barrier.false) c.in_ok-line_within.ensures.does
