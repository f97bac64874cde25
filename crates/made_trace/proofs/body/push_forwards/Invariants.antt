use Rattle.std.proofs.Common.{◌≡◌, ◌++◌}
use Rattle.made_trace.specs.Lines.{lines_text}
use Rattle.made_trace.specs.Made.{forwards}
use Rattle.made_trace.proofs.body.push_forwards.Given as goal

abbrev pub invariant-loop-j : goal.invariant-loop-j
invariant-loop-j l = record {
  text : l.out.items ≡ l.fn.out.items ++ lines_text (forwards l.draw l.packet l.from l.j);
}
