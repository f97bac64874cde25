use Rattle.std.proofs.Common.{◌<◌, ◌^◌, All}
use Rattle.base_tests.proofs.tests.pages.marks.Given as goal

abbrev pub invariant-loop-i : goal.invariant-loop-i
invariant-loop-i l = All (λ p. p < 2 ^ l.n) l.kept
