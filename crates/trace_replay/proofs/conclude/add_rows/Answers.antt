use Rattle.std.proofs.Common.{◌∙◌, ◌≤◌, length, get_or, refl, arith}
use Rattle.data_agent.specs.Standing.{StandsFor}
use Rattle.trace_replay.specs.Concluding.{pages_for, receipts_for}
use Rattle.trace_replay.specs.Segments.{no_line}
use Rattle.trace_replay.proofs.Concluded.{counted_next, order_next, may_row, so_next, adds_none, adds_all, left_none, left_at}
use Rattle.trace_replay.proofs.conclude.add_rows.Goals as goal

pub loop-i-init : goal.loop-i-init
loop-i-init c = record {
  counted = omega arith;
  order = omega arith;
  so = adds_none StandsFor (receipts_for c.args.trace.now c.args.lines.now c.args.jobs.now) c.args.agents.now;
  beside = λ planes so. so;
  entries = λ r d. refl;
}

pub row_at-requires-clause-ready : goal.row_at-requires-clause-ready
row_at-requires-clause-ready c = λ recording.
    let i = c.loop-i.i in
    let inv = c.loop-i.invariant in
    let t = c.loop-i-test.true in
    may_row c.args.trace.now c.args.lines.now c.args.jobs.now i c.loop-i.j no_line (get_or c.args.lines.now i no_line) refl t inv.counted StandsFor c.args.agents.now c.loop-i.agents c.loop-i.agents inv.so
    c.requires.ready (c.requires.within i no_line t) recording

pub loop-i-preserved : goal.loop-i-preserved
loop-i-preserved c =
    let i = c.loop-i.i in
    let inv = c.loop-i.invariant in
    let t = c.loop-i-test.true in
    let line = get_or c.args.lines.now i no_line in
    let e = c.in_ok-j.ensures in
    record {
      counted = counted_next c.args.lines.now c.args.jobs.now i c.loop-i.j no_line line refl t inv.counted c.in_ok-j.j e.next;
      order = order_next c.args.lines.now c.args.jobs.now i c.loop-i.j no_line line refl t inv.counted c.in_ok-j.j inv.order e.next;
      so = so_next c.args.trace.now c.args.lines.now c.args.jobs.now i c.loop-i.j no_line line refl t inv.counted StandsFor c.args.agents.now c.loop-i.agents c.row_at.new.agents inv.so c.in_ok-j.j e.next e.row e.same;
      beside = λ planes so. e.beside planes (inv.beside planes so);
      entries = λ r d. e.entries r d ∙ inv.entries r d;
    }

pub returns-clause-rows : goal.returns-clause-rows
returns-clause-rows c =
    let t = c.args.trace.now in
    let lines = c.args.lines.now in
    let pages = pages_for lines c.args.jobs.now in
    let over = c.loop-i-test.false in
    let past : length lines ≤ c.loop-i.i = omega (arith, over) in
    adds_all StandsFor (receipts_for t lines c.args.jobs.now) (left_at t lines pages c.loop-i.i c.loop-i.j) c.args.agents.now c.loop-i.agents (left_none t lines pages c.loop-i.i c.loop-i.j past) c.loop-i.invariant.so
