use Rattle.std.proofs.Common.{◌+◌, ◌∙◌, List, get_or, sym, ap}
use Rattle.trace_format.specs.declared.Line.{Line}
use Rattle.data_agent.specs.Standing.{StandsFor}
use Rattle.router_account.specs.Shelves.{view_of}
use Rattle.trace_replay.specs.Segments.{no_line}
use Rattle.trace_replay.specs.Yards.{by_workers}
use Rattle.trace_replay.proofs.Ending.{segment_there, cut_ended, cut_more}
use Rattle.trace_replay.proofs.segments.advance.Goals as goal

pub segment_and_barrier-requires-clause-is : goal.segment_and_barrier-requires-clause-is
segment_and_barrier-requires-clause-is g c = λ κs lives.
    let view = view_of g.H.Shelf.tells g.H.Shelf.contents g.H.Shelf.faults in
    segment_there (by_workers c.args.workers) StandsFor c.args.trace.now c.requires.ready.0 c.args.from c.args.to c.args.agents.now c.args.state.now (view c.args.shelf.now)
    (get_or c.items.result.now c.args.to no_line) c.requires.there (ap (λ (ls : List Line). get_or ls c.args.to no_line) c.items.ensures) (sym c.is_barrier.ensures ∙ c.if-is_barrier.true) c.requires.ready.1

pub segment_and_barrier-requires-clause-ready : goal.segment_and_barrier-requires-clause-ready
segment_and_barrier-requires-clause-ready g c = λ κs lives. (c.requires.ready.0, c.requires.ready.1.ended)

pub returns-then-is_barrier-clause-cuts : goal.returns-then-is_barrier-clause-cuts
returns-then-is_barrier-clause-cuts g c = λ start cut.
    let view = view_of g.H.Shelf.tells g.H.Shelf.contents g.H.Shelf.faults in
    cut_ended (by_workers c.args.workers) StandsFor c.args.trace.now start (c.args.to + 1) c.segment_and_barrier.new.agents c.segment_and_barrier.new.state (view c.segment_and_barrier.new.shelf)
    (c.in_ok-segment_and_barrier.ensures.ends start cut.ended)

pub returns-clause-cuts : goal.returns-clause-cuts
returns-clause-cuts g c = λ start cut.
    let view = view_of g.H.Shelf.tells g.H.Shelf.contents g.H.Shelf.faults in
    cut_more (by_workers c.args.workers) StandsFor c.args.trace.now start c.args.from c.args.to c.args.agents.now c.args.state.now (view c.args.shelf.now)
    (get_or c.items.result.now c.args.to no_line) c.requires.there (ap (λ (ls : List Line). get_or ls c.args.to no_line) c.items.ensures) (sym c.is_barrier.ensures ∙ c.if-is_barrier.false) cut
