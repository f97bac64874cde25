use Rattle.std.proofs.Common.{sym, subst}
use Rattle.trace_format.specs.declared.Line.{Line}
use Rattle.data_agent.specs.Standing.{StandsFor}
use Rattle.router_account.specs.Shelves.{view_of}
use Rattle.trace_replay.specs.Segments.{no_line}
use Rattle.trace_replay.specs.Standing.{IsNext}
use Rattle.trace_replay.specs.Yards.{by_workers}
use Rattle.trace_replay.proofs.Doing.{ready_at}
use Rattle.trace_replay.proofs.Sighted.{first_within, first_at}
use Rattle.trace_replay.proofs.alone.all_lines.Goals as goal

pub step-requires-clause-ready : goal.step-requires-clause-ready
step-requires-clause-ready g c =
    let view = view_of g.H.Shelf.tells g.H.Shelf.contents g.H.Shelf.faults in
    let i = c.loop-line.line-index in
    let t = c.args.trace.now in
    let P : Line → Type 0 = λ x. IsNext (by_workers 1) StandsFor t x c.loop-line.agents c.loop-line.state (view c.loop-line.shelf) in
    subst P (sym (first_at t.lines c.args.lines.now c.requires.lines i no_line c.loop-line-test.true))
    (ready_at (by_workers 1) StandsFor t (view c.args.shelf.now) c.requires.sound i no_line c.loop-line.agents c.loop-line.state (view c.loop-line.shelf)
    (first_within t.lines c.args.lines.now c.requires.lines i c.loop-line-test.true) c.loop-line.invariant.done)

pub loop-line-preserved : goal.loop-line-preserved
loop-line-preserved g c =
    let view = view_of g.H.Shelf.tells g.H.Shelf.contents g.H.Shelf.faults in
    let i = c.loop-line.line-index in
    let t = c.args.trace.now in
    record {
      beside = c.in_ok-step.ensures.beside;
      done = c.in_ok-step.ensures.proceeds (view c.args.shelf.now) i no_line c.requires.sound (first_within t.lines c.args.lines.now c.requires.lines i c.loop-line-test.true)
          (first_at t.lines c.args.lines.now c.requires.lines i no_line c.loop-line-test.true) c.loop-line.invariant.done;
    }
