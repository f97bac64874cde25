use Rattle.std.proofs.Common.{◌≡◌, ℕ, ◌<◌, ◌≤◌, length, get_or}
use Rattle.trace_workers.specs.declared.jobs.Job.{Job}
use Rattle.trace_workers.specs.Dealing.{IsRoomy}
use Rattle.trace_workers.proofs.dealing.reserve_all.Given as goal

abbrev pub invariant-loop-i : goal.invariant-loop-i
invariant-loop-i l = record {
  many : length l.jobs ≡ length l.initial.jobs;
  done : (w : ℕ) (d : Job) → w < l.i → IsRoomy (get_or l.initial.jobs w d) (get_or l.jobs w d);
  left : (w : ℕ) (d : Job) → l.i ≤ w → get_or l.jobs w d ≡ get_or l.initial.jobs w d;
}
