use Rattle.std.proofs.Common.{◌≡◌, ℕ, ◌<◌, ◌≤◌, [], length, get_or, vec_capacity}
use Rattle.trace_workers.specs.declared.jobs.Job.{Job}
use Rattle.trace_workers.proofs.jobs.open_jobs.Given as goal

abbrev pub invariant-loop : goal.invariant-loop
invariant-loop l = record {
  many : length l.jobs.items ≡ l.counter;
  capacity : l.workers ≤ vec_capacity l.jobs;
  passes : (w : ℕ) (d : Job) → w < length l.jobs.items → (get_or l.jobs.items w d).passes.items ≡ [];
  room : (w : ℕ) (d : Job) → w < length l.jobs.items → l.routers ≤ vec_capacity (get_or l.jobs.items w d).passes;
}
