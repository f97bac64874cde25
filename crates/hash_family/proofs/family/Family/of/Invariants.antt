use Rattle.std.proofs.Common.{◌≡◌, ◌*◌, replicate}
use Rattle.hash_family.specs.Rows.{row_of}
use Rattle.hash_family.specs.SplitMix.{state_after}
use Rattle.hash_family.proofs.Filled.{filled}
use Rattle.hash_family.proofs.family.Family.of.Given as goal

abbrev pub invariant-loop-i : goal.invariant-loop-i
invariant-loop-i l = record {
  rows : l.rows ≡ filled (row_of l.seed) 8 (replicate 8 0) l.i;
  generator : l.generator ≡ state_after l.seed (8 * l.i);
}
