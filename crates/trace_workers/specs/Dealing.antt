-- The steps of dealing lines out. No public clause cites this module.
use Rattle.std.specs.Prelude.{◌≡◌, ℕ, ◌<◌, ◌≤◌, if◌then◌else◌, List, [], ◌∷◌, ◌++◌, length, slice_index_or, vec_len, vec_capacity}
use Rattle.trace_format.specs.Sound.{is_recording}
use Rattle.trace_format.specs.declared.Line.{Line}
use Rattle.trace_workers.specs.declared.jobs.Job.{Job}
use Rattle.trace_workers.specs.Records.{line_at, turns_of, segment_places}

-- the job has its passes, and neither lines nor pages
pub record IsCleared (before after : Job) : Type 0 where
  pub places : after.places.items ≡ []
  pub pages : after.pages.items ≡ []
  pub passes : after.passes ≡ before.passes

pub record AreCleared (before after : List Job) : Type 0 where
  pub many : length after ≡ length before
  pub each : (w : ℕ) (d : Job) → w < length before
      → IsCleared (slice_index_or before w d) (slice_index_or after w d)

-- the job is as it was, and has memory for a page of each of its lines
pub record IsRoomy (before after : Job) : Type 0 where
  pub places : after.places ≡ before.places
  pub pages : after.pages.items ≡ before.pages.items
  pub passes : after.passes ≡ before.passes
  pub room : vec_len after.places ≤ vec_capacity after.pages

pub record AreRoomy (before after : List Job) : Type 0 where
  pub many : length after ≡ length before
  pub each : (w : ℕ) (d : Job) → w < length before
      → IsRoomy (slice_index_or before w d) (slice_index_or after w d)

-- of these places, the first of which is that of record line `number`, the job got those that are its turn
pub record HasMore (W worker number : ℕ) (more : List ℕ) (before after : Job) : Type 0 where
  pub places : after.places.items ≡ before.places.items ++ turns_of W worker number more
  pub pages : after.pages.items ≡ before.pages.items

pub record HaveMore (number : ℕ) (more : List ℕ) (before after : List Job) : Type 0 where
  pub many : length after ≡ length before
  pub each : (w : ℕ) (d : Job) → w < length before
      → HasMore (length before) w number more (slice_index_or before w d) (slice_index_or after w d)

-- the place of a line, if it is a record line
abbrev pub place_by : List Line → (place : ℕ) → List ℕ
place_by lines place = if is_recording (line_at lines place).what then place ∷ [] else []

-- each job has the places that are its turn, and no pages
pub record HaveTurns (lines : List Line) (from to : ℕ) (jobs : List Job) : Type 0 where
  pub places : (w : ℕ) (d : Job) → w < length jobs
      → (slice_index_or jobs w d).places.items ≡ turns_of (length jobs) w 0 (segment_places lines from to)
  pub pages : (w : ℕ) (d : Job) → w < length jobs → (slice_index_or jobs w d).pages.items ≡ []
