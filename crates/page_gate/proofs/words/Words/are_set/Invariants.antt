use Rattle.std.proofs.Common.{◌<◌, length}
use Rattle.page_gate.specs.Probes.{noting_more, set_reads}
use Rattle.page_gate.specs.Steps.{IsMet}
use Rattle.page_gate.specs.Tried.{StaysWith}
use Rattle.page_gate.proofs.words.Words.are_set.Given as goal

abbrev pub invariant-loop-i : goal.invariant-loop-i
invariant-loop-i l = record {
  seat : StaysWith l.fn.seat l.seat (noting_more l.fn.seat.me.0 (set_reads l.self.shape l.fn.page.number l.sig (length l.fn.seat.me.0.entries) l.i));
  met : 0 < l.i → IsMet l.self.shape l.seat.me.0;
}
