-- A router's passes go to the jobs, one to each, and come back.
use Rattle.std.specs.Prelude.{◌≡◌, ℕ, ◌<◌, List, [], ◌∷◌, ◌++◌, length, slice_index_or, vec_len, vec_capacity}
use Rattle.page_gate.specs.Held.{PassHeld}
use Rattle.trace_workers.specs.declared.jobs.Job.{Job}

-- each job has a pass
pub record HavePasses (jobs : List Job) : Type 0 where
  pub each : (w : ℕ) (d : Job) → w < length jobs → 0 < vec_len (slice_index_or jobs w d).passes

-- each job has memory for a pass more
pub record HaveRoom (jobs : List Job) : Type 0 where
  pub each : (w : ℕ) (d : Job) → w < length jobs
      → vec_len (slice_index_or jobs w d).passes < vec_capacity (slice_index_or jobs w d).passes

-- the job got this pass, behind those that it had
pub record Got (before after : Job) (pass : PassHeld) : Type 0 where
  pub passes : after.passes.items ≡ before.passes.items ++ pass ∷ []
  pub room : vec_capacity after.passes ≡ vec_capacity before.passes
  pub places : after.places ≡ before.places
  pub pages : after.pages ≡ before.pages

-- each job got this pass
pub record HaveGot (before after : List Job) (pass : PassHeld) : Type 0 where
  pub many : length after ≡ length before
  pub each : (w : ℕ) (d : Job) → w < length before → Got (slice_index_or before w d) (slice_index_or after w d) pass

-- the job gave this pass, its last one
pub record Gave (before after : Job) (pass : PassHeld) : Type 0 where
  pub passes : before.passes.items ≡ after.passes.items ++ pass ∷ []
  pub room : vec_capacity after.passes ≡ vec_capacity before.passes
  pub places : after.places ≡ before.places
  pub pages : after.pages ≡ before.pages

-- each job gave its last pass, and these stand in the order of the jobs
pub record HaveGiven (before after : List Job) (column : List PassHeld) : Type 0 where
  pub many : length after ≡ length before
  pub taken : length column ≡ length before
  pub each : (w : ℕ) (d : Job) (p : PassHeld) → w < length before
      → Gave (slice_index_or before w d) (slice_index_or after w d) (slice_index_or column w p)
