use Rattle.report_text.specs.Report.{item_text}
use Rattle.trace_replay.specs.Printing.{splits_of}
use Rattle.trace_replay.proofs.Numbered.{lines_more}
use Rattle.trace_replay.proofs.barriers.push_answers.Goals as goal

pub loop-place-preserved : goal.loop-place-preserved
loop-place-preserved c =
    lines_more (item_text c.args.topology.now.names) (splits_of c.args.barriers.now) c.args.lines.now c.args.first c.loop-place.place c.args.answers.now _
    c.args.out.now.items c.loop-place.out.items c.push_one.new.out.items c.loop-place-test.true c.loop-place.invariant c.in_ok-push_one.ensures
