use Rattle.std.proofs.Common.{◌≡◌, ◌+◌}
use Rattle.hash_family.specs.Positions.{sig_word}
use Rattle.hash_family.proofs.Filled.{filled}
use Rattle.hash_family.proofs.family.sig_words.Given as goal

abbrev pub invariant-loop-j : goal.invariant-loop-j
invariant-loop-j l = l.words ≡ filled (λ j. sig_word l.sig (j + 1)) 7 0 l.j
