use Rattle.std.proofs.Common.{◌≡◌, ◌++◌, ◌+◌, drop}
use Rattle.play_script.specs.Report.{answers_text}
use Rattle.play_script.proofs.answers.push_answers.Given as goal

abbrev pub invariant-loop-answer : goal.invariant-loop-answer
invariant-loop-answer l = record {
  text : l.out.items ++ answers_text l.line (drop l.answer-index l.answers) ≡ l.fn.out.items ++ answers_text 3 l.answers;
  line : l.line ≡ 3 + l.answer-index;
}
