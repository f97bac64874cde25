use Rattle.std.proofs.Common.{true, ◌≡◌, List, get_or, sym, ap, subst}
use Rattle.trace_format.specs.declared.Line.{Line}
use Rattle.data_agent.specs.Standing.{StandsFor}
use Rattle.router_account.specs.Shelves.{view_of}
use Rattle.trace_replay.specs.Segments.{is_barrier_line, no_line}
use Rattle.trace_replay.specs.Standing.{IsNext}
use Rattle.trace_replay.specs.Yards.{by_workers}
use Rattle.trace_replay.proofs.Ending.{at_segment, next_ready, ends_segment}
use Rattle.trace_replay.proofs.segments.segment_and_barrier.Goals as goal

pub segment-requires-clause-ready : goal.segment-requires-clause-ready
segment-requires-clause-ready g c = λ κs lives.
    let view = view_of g.H.Shelf.tells g.H.Shelf.contents g.H.Shelf.faults in
    at_segment (by_workers c.args.workers) StandsFor c.args.trace.now c.requires.ready.0 c.requires.sound c.args.from c.args.to c.requires.is c.args.agents.now c.args.state.now (view c.args.shelf.now) c.requires.ready.1

pub line_closing-requires-clause-ready : goal.line_closing-requires-clause-ready
line_closing-requires-clause-ready g c =
    let view = view_of g.H.Shelf.tells g.H.Shelf.contents g.H.Shelf.faults in
    let way = by_workers c.args.workers in
    let t = c.args.trace.now in
    let P : List Line → Type 0 = λ ls. IsNext way StandsFor t (get_or ls c.args.to no_line) c.segment.new.agents c.segment.new.state (view c.segment.new.shelf) in (
      c.args.workers,
      subst P (sym c.items.ensures) (next_ready way StandsFor t c.requires.ready.0 c.requires.sound c.args.from c.args.to c.requires.is c.args.agents.now c.args.state.now (view c.args.shelf.now) c.requires.ready.1
          c.segment.new.agents c.segment.new.state (view c.segment.new.shelf) c.in_ok-segment.ensures.does),
    )

pub line_closing-requires-clause-barrier : goal.line_closing-requires-clause-barrier
line_closing-requires-clause-barrier g c =
    let P : List Line → Type 0 = λ ls. is_barrier_line (get_or ls c.args.to no_line).what ≡ true in
    subst P (sym c.items.ensures) (c.requires.is.barrier no_line)

pub returns-clause-ends : goal.returns-clause-ends
returns-clause-ends g c =
    let view = view_of g.H.Shelf.tells g.H.Shelf.contents g.H.Shelf.faults in
    ends_segment (by_workers c.args.workers) StandsFor c.args.trace.now c.requires.sound c.args.from c.args.to c.requires.is
    (get_or c.items.result.now c.args.to no_line) (ap (λ (ls : List Line). get_or ls c.args.to no_line) c.items.ensures)
    c.args.agents.now c.segment.new.agents c.line_closing.new.agents c.args.state.now c.segment.new.state c.line_closing.new.state
    (view c.args.shelf.now) (view c.segment.new.shelf) (view c.line_closing.new.shelf)
    c.in_ok-segment.ensures.does (c.in_ok-line_closing.ensures.closes c.args.workers)
