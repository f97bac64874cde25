use Rattle.std.proofs.Common.{◌+◌, ◌-◌, ◌≡◌, ◌≤◌, ◌++◌, length, drop}
use Rattle.trace_format.specs.Sound.{records}
use Rattle.trace_replay.specs.Concluding.{all_answers, entered, pages_for}
use Rattle.trace_replay.specs.Merging.{interleaved, operations}
use Rattle.trace_replay.proofs.conclude.answer_all.Given as goal

abbrev pub invariant-loop-i : goal.invariant-loop-i
invariant-loop-i l = record {
  counted : l.j + length (records (drop l.i l.lines)) ≡ length (records l.lines);
  order : l.j ≤ l.i;
  others : (l.i - l.j) + length (operations (drop l.i l.lines)) ≡ length l.given;
  answers : l.answers.items ++ interleaved (drop l.i l.lines) (drop l.j (entered (pages_for l.lines l.jobs))) (drop (l.i - l.j) l.given) ≡ l.fn.answers.items ++ all_answers l.lines l.jobs l.given;
}
