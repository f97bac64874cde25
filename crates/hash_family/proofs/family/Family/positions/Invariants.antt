use Rattle.std.proofs.Common.{◌≡◌}
use Rattle.hash_family.specs.Positions.{position_by}
use Rattle.hash_family.proofs.Filled.{filled}
use Rattle.hash_family.proofs.family.Family.positions.Given as goal

abbrev pub invariant-loop-i : goal.invariant-loop-i
invariant-loop-i l = record {
  at : l.marks.at ≡ filled (position_by l.self-inside.seed l.self-inside.n l.sig) 8 0 l.i;
  count : l.marks.count ≡ l.self-inside.k;
}
