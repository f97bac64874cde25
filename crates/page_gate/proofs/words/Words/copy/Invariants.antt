use Rattle.std.proofs.Common.{◌≡◌, ◌<◌, ◌≤◌, ℕ, get_or, length, vec_len, vec_capacity}
use Rattle.gate_core.specs.Marks.{width}
use Rattle.page_gate.specs.Probes.{OnlyNotes, IsWordOf}
use Rattle.page_gate.specs.Steps.{IsMet}
use Rattle.page_gate.proofs.words.Words.copy.Given as goal

abbrev pub invariant-loop-j : goal.invariant-loop-j
invariant-loop-j l = record {
  notes : OnlyNotes l.fn.seat l.seat;
  taken : vec_len l.words ≡ l.j;
  room : width l.self.shape ≤ vec_capacity l.words;
  each : (i : ℕ) → i < length l.words.items → IsWordOf l.self.shape l.fn.seat.me.0.entries l.page.number i (get_or l.words.items i 0);
  met : 0 < l.j → IsMet l.self.shape l.seat.me.0;
}
