use Rattle.std.proofs.Common.{◌≡◌}
use Rattle.hash_family.specs.SplitMix.{word, state_after}
use Rattle.hash_family.proofs.Filled.{filled}
use Rattle.hash_family.proofs.seeds.next_row.Given as goal

abbrev pub invariant-loop-j : goal.invariant-loop-j
invariant-loop-j l = record {
  row : l.row ≡ filled (word l.initial.generator) 8 0 l.j;
  after : l.generator ≡ state_after l.initial.generator l.j;
}
