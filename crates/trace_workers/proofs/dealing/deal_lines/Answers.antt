use Rattle.std.proofs.Common.{◌<◌, ◌≤◌, length, arith}
use Rattle.trace_workers.proofs.Dealt.{count_grows, turns_grow, passes_kept}
use Rattle.trace_workers.proofs.dealing.deal_lines.Goals as goal

pub loop-place-preserved : goal.loop-place-preserved
loop-place-preserved c = let was = c.loop-place.invariant in let lines = c.args.lines.now in let from = c.args.from in let place = c.loop-place.place in
    let more = c.in_ok-number.ensures in let le : from ≤ place = omega arith in let small : place < length lines = omega arith in record {
      number = count_grows lines from place c.loop-place.number c.in_ok-number.number le small was.number more.number;
      small = more.small;
      turns = turns_grow lines from place c.loop-place.number c.loop-place.jobs c.deal_line.new.jobs le small was.number was.turns more.dealt;
      passes = passes_kept c.args.jobs.now c.loop-place.jobs c.deal_line.new.jobs was.passes c.deal_line.ensures.passes;
    }
