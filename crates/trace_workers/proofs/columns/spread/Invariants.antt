use Rattle.std.proofs.Common.{◌≡◌, ℕ, ◌+◌, ◌<◌, ◌≤◌, All, length, get_or, vec_capacity}
use Rattle.page_gate.specs.Held.{PassHeld}
use Rattle.trace_workers.specs.declared.jobs.Job.{Job}
use Rattle.trace_workers.specs.Columns.{Got}
use Rattle.trace_workers.proofs.columns.spread.Given as goal

abbrev pub invariant-loop-i : goal.invariant-loop-i
invariant-loop-i l = record {
  many : length l.column.items + l.i ≡ length l.jobs;
  same : length l.jobs ≡ length l.initial.jobs;
  alike : (p : PassHeld) → All (λ q. q ≡ p) l.initial.column.items → All (λ q. q ≡ p) l.column.items;
  done : (p : PassHeld) → All (λ q. q ≡ p) l.initial.column.items → (w : ℕ) (d : Job) → w < l.i → Got (get_or l.initial.jobs w d) (get_or l.jobs w d) p;
  left : (w : ℕ) (d : Job) → l.i ≤ w → get_or l.jobs w d ≡ get_or l.initial.jobs w d;
  capacity : vec_capacity l.column ≡ vec_capacity l.initial.column;
}
