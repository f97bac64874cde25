use Rattle.std.proofs.Common.{◌≡◌, ◌<◌, ◌≤◌, vec_len, vec_capacity}
use Rattle.gate_core.specs.Acts.{drained_to, phase_taken}
use Rattle.gate_core.specs.Marks.{width}
use Rattle.page_gate.specs.Steps.{IsMet}
use Rattle.page_gate.specs.Tried.{StaysWith}
use Rattle.page_gate.proofs.words.Words.drain_all.Given as goal

abbrev pub invariant-loop-next : goal.invariant-loop-next
invariant-loop-next l = record {
  seat : StaysWith l.fn.seat l.seat (drained_to l.fn.seat.me.0 l.slot (phase_taken l.self.shape l.next) l.words.items);
  taken : vec_len l.words ≡ l.next;
  room : width l.self.shape ≤ vec_capacity l.words;
  met : 0 < l.next → IsMet l.self.shape l.seat.me.0;
}
