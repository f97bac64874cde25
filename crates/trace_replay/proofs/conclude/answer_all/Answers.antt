use Rattle.std.proofs.Common.{◌++◌, get_or, refl}
use Rattle.trace_replay.specs.Concluding.{all_answers}
use Rattle.trace_replay.specs.Segments.{no_line}
use Rattle.trace_replay.proofs.Concluded.{counted_next, order_next, others_next, answers_next}
use Rattle.trace_replay.proofs.conclude.answer_all.Goals as goal

pub loop-i-preserved : goal.loop-i-preserved
loop-i-preserved c =
    let i = c.loop-i.i in
    let inv = c.loop-i.invariant in
    let t = c.loop-i-test.true in
    let lines = c.args.lines.now in
    let jobs = c.args.jobs.now in
    let given = c.args.given.now in
    let line = get_or lines i no_line in
    let e = c.in_ok-j.ensures in
    record {
      counted = counted_next lines jobs i c.loop-i.j no_line line refl t inv.counted c.in_ok-j.j e.next;
      order = order_next lines jobs i c.loop-i.j no_line line refl t inv.counted c.in_ok-j.j inv.order e.next;
      others = others_next lines jobs i c.loop-i.j no_line line refl t inv.counted given inv.order inv.others c.in_ok-j.j e.next;
      answers = answers_next lines jobs i c.loop-i.j no_line line refl t inv.counted given inv.order inv.others c.in_ok-j.j c.loop-i.answers.items c.answer_at.new.answers.items (c.args.answers.now.items ++ all_answers lines jobs given) e.next e.answer inv.answers;
    }
