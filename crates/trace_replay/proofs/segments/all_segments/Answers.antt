use Rattle.std.proofs.Common.{ℕ, ◌≡◌, length, ap, subst, arith}
use Rattle.data_agent.specs.Standing.{StandsFor}
use Rattle.router_account.specs.Shelves.{view_of}
use Rattle.trace_replay.specs.Segmenting.{HasCut}
use Rattle.trace_replay.specs.Yards.{by_workers}
use Rattle.trace_replay.proofs.Ending.{ended_begun, cut_ended, all_cut}
use Rattle.trace_replay.proofs.segments.all_segments.Goals as goal

pub advance-requires-clause-ready : goal.advance-requires-clause-ready
advance-requires-clause-ready g c = λ κs lives.
    let view = view_of g.H.Shelf.tells g.H.Shelf.contents g.H.Shelf.faults in
    (view c.args.shelf.now, c.loop-to.invariant.cut)

pub loop-to-init : goal.loop-to-init
loop-to-init g c =
    let view = view_of g.H.Shelf.tells g.H.Shelf.contents g.H.Shelf.faults in
    let way = by_workers c.args.workers in
    let t = c.args.trace.now in
    let start = view c.args.shelf.now in
    record {
      crew = c.requires.crew;
      beside = c.requires.beside;
      cut = cut_ended way StandsFor t start 0 c.args.agents.now c.args.state.now start (ended_begun way StandsFor t start c.args.agents.now c.args.state.now start c.requires.begins);
    }

pub loop-to-preserved : goal.loop-to-preserved
loop-to-preserved g c =
    let view = view_of g.H.Shelf.tells g.H.Shelf.contents g.H.Shelf.faults in
    let e = c.in_ok-from.ensures in
    record { crew = e.crew; beside = e.beside; cut = e.cuts (view c.args.shelf.now) c.loop-to.invariant.cut }

pub returns-clause-done : goal.returns-clause-done
returns-clause-done g c =
    let view = view_of g.H.Shelf.tells g.H.Shelf.contents g.H.Shelf.faults in
    let way = by_workers c.args.workers in
    let t = c.args.trace.now in
    let start = view c.args.shelf.now in
    let n = ap length c.items-to-end.ensures in
    let past = c.loop-to-test.false in
    let end = c.loop-to.auto.to-end in
    let last : c.loop-to.to ≡ length t.lines = omega (arith, n, past, end) in
    let P : ℕ → Type 0 = λ k. HasCut way StandsFor t start c.loop-to.from k c.loop-to.agents c.loop-to.state (view c.loop-to.shelf) in
    all_cut way StandsFor t start c.requires.sound c.loop-to.from c.loop-to.agents c.loop-to.state (view c.loop-to.shelf) (subst P last c.loop-to.invariant.cut)
