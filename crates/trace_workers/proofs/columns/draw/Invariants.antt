use Rattle.std.proofs.Common.{◌≡◌, ℕ, ◌<◌, ◌≤◌, All, length, get_or, vec_capacity}
use Rattle.gate_core.specs.Invariant.{IsRising}
use Rattle.page_gate.specs.Held.{PassHeld}
use Rattle.trace_workers.specs.declared.jobs.Job.{Job}
use Rattle.trace_workers.specs.Columns.{Gave}
use Rattle.trace_workers.proofs.columns.draw.Given as goal

abbrev pub invariant-loop-i : goal.invariant-loop-i
invariant-loop-i l = record {
  done : (w : ℕ) (d : Job) (p : PassHeld) → w < l.i → Gave (get_or l.initial.jobs w d) (get_or l.jobs w d) (get_or l.column.items w p);
  left : (w : ℕ) (d : Job) → l.i ≤ w → get_or l.jobs w d ≡ get_or l.initial.jobs w d;
  taken : length l.column.items ≡ l.i;
  room : length l.jobs ≤ vec_capacity l.column;
  rising : All (λ p. IsRising p.floor p.entries) l.column.items;
  capacity : vec_capacity l.column ≡ vec_capacity l.initial.column;
}
