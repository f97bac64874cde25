use Rattle.std.proofs.Common.{ℕ, ◌<◌}
use Rattle.hash_family.specs.Entries.{IsMarked}
use Rattle.hash_family.specs.Positions.{position}
use Rattle.page_gate.specs.Tried.{StaysWith}
use Rattle.page_gate.proofs.words.Words.are_known.Given as goal

abbrev pub invariant-loop-i : goal.invariant-loop-i
invariant-loop-i l = record {
  seat : StaysWith l.fn.seat l.seat l.fn.seat.me.0;
  known : (j : ℕ) → j < l.i → IsMarked l.self.shape l.fn.seat.me.0.entries l.fn.page.number (position l.self.shape l.fn.page.number l.sig j);
}
