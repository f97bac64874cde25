-- Planes with their keepers, and jobs that have a pass of each.
use Rattle.std.specs.Prelude.{◌≡◌, ℕ, ◌<◌, ◌≤◌, List, length, map, slice_index_or, vec_capacity}
use Rattle.page_gate.specs.Held.{Home, Held, PlaneId}
use Rattle.trace_workers.specs.Jobs.{planes_tables, tables_of}
use Rattle.trace_workers.specs.declared.jobs.Job.{Job}

abbrev pub keepers_tables : List Held → List Home
keepers_tables keepers = map (λ k. k.table) keepers

-- two jobs have a pass of each plane, and memory for two, and each plane has its keeper
pub record AreSet (planes : List PlaneId) (keepers : List Held) (jobs : List Job) : Type 0 where
  pub keepers_fit : keepers_tables keepers ≡ planes_tables planes
  pub workers : length jobs ≡ 2
  pub passes : (w : ℕ) (d : Job) → w < length jobs → tables_of (slice_index_or jobs w d).passes.items ≡ planes_tables planes
  pub room : (w : ℕ) (d : Job) → w < length jobs → 2 ≤ vec_capacity (slice_index_or jobs w d).passes
