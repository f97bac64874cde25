use Rattle.std.proofs.Common.{List, Vec, Global, ℕ, arith, subst, sym}
use Rattle.gate_core.specs.Sound.{AreSpare}
use Rattle.gate_core.proofs.Rooms.{spare_push}
use Rattle.gate_core.proofs.reserving.more_lists.Goals as goal

pub missing-preserved : goal.missing-preserved
missing-preserved c = record {
  kept = λ spare. let P : List (Vec ℕ Global) → Type 0 = AreSpare c.args.wide in
      subst P (sym c.in_ok-push.ensures.items)
      (spare_push c.args.wide c.missing.lists.items c.in_ok-words.words (c.missing.invariant.kept spare) c.in_ok-words.ensures.items c.in_ok-words.ensures.capacity);
  more = omega arith;
  most = omega arith;
}
