-- The jobs of workers: before a segment, and behind it.
use Rattle.std.specs.Prelude.{◌≡◌, ℕ, ◌%◌, ◌/◌, ◌<◌, ◌≤◌, ◌==◌, if◌then◌else◌, List, [], ◌∷◌, ◌++◌, All, length, map, slice_index_or, vec_len, vec_capacity}
use Rattle.spie_base.specs.declared.Entry.{Entry}
use Rattle.spie_base.specs.declared.PageNo.{PageNo}
use Rattle.spie_base.specs.declared.Sig.{Sig}
use Rattle.page_gate.specs.Held.{Home, PlaneId, PassHeld}
use Rattle.router_account.specs.Account.{below}
use Rattle.trace_format.specs.declared.Trace.{Trace}
use Rattle.trace_history.specs.Receipts.{Receipt}
use Rattle.trace_history.specs.Routers.{count}
use Rattle.trace_workers.specs.declared.jobs.Job.{Job}
use Rattle.trace_workers.specs.Records.{IsRecordAt, turns_of, segment_places, lines_at, receipts_by, entries_by}

-- ---- passes

abbrev pub planes_tables : List PlaneId → List Home
planes_tables planes = map (λ p. p.table) planes

abbrev pub tables_of : List PassHeld → List Home
tables_of passes = map (λ p. p.table) passes

abbrev pub floors_of : List PassHeld → List ℕ
floors_of passes = map (λ p. p.floor) passes

-- the entries of the pass of a router
abbrev pub entries_at : List PassHeld → (router : ℕ) → List Entry
entries_at passes router = slice_index_or (map (λ p. p.entries) passes) router []

-- the entry of a router for a record, where that was at this router
abbrev pub entry_at : (router at : ℕ) → PageNo → Sig → List Entry
entry_at router at page sig = if at == router then record { page = page; sig = sig } ∷ [] else []

-- ---- a job that is dealt

-- a worker has the lines that are its turn, and memory for a page of each
pub record IsShare (t : Trace) (from to W worker : ℕ) (job : Job) : Type 0 where
  pub turns : job.places.items ≡ turns_of W worker 0 (segment_places t.lines from to)
  pub records : All (IsRecordAt t) job.places.items
  pub none : job.pages.items ≡ []
  pub room : vec_len job.places ≤ vec_capacity job.pages

-- each worker has its share of the record lines from one place to before another
pub record AreShares (t : Trace) (from to : ℕ) (jobs : List Job) : Type 0 where
  pub each : (w : ℕ) (d : Job) → w < length jobs → IsShare t from to (length jobs) w (slice_index_or jobs w d)

-- there are as many jobs, and each has its passes as before
pub record KeepPasses (before after : List Job) : Type 0 where
  pub many : length after ≡ length before
  pub each : (w : ℕ) (d : Job) → w < length before
      → (slice_index_or after w d).passes ≡ (slice_index_or before w d).passes

-- so many jobs without lines and passes, with memory for a pass of each router
pub record AreFresh (workers routers : ℕ) (jobs : List Job) : Type 0 where
  pub many : length jobs ≡ workers
  pub passes : (w : ℕ) (d : Job) → w < workers → (slice_index_or jobs w d).passes.items ≡ []
  pub room : (w : ℕ) (d : Job) → w < workers → routers ≤ vec_capacity (slice_index_or jobs w d).passes

-- ---- one worker

-- it has record lines, a pass of each router's plane, and memory for the pages
pub record IsReady (t : Trace) (planes : List PlaneId) (job : Job) : Type 0 where
  pub tables : tables_of job.passes.items ≡ planes_tables planes
  pub routers : length planes ≡ count t
  pub records : All (IsRecordAt t) job.places.items
  pub none : job.pages.items ≡ []
  pub room : vec_len job.places ≤ vec_capacity job.pages

-- each pass is of the same plane, with the same floor, and has the entries of its router's lines behind those that it had,
-- in line order
pub record HaveGrown (t : Trace) (planes : List PlaneId) (places : List ℕ) (before after : List PassHeld)
    (pages : List PageNo) : Type 0 where
  pub tables : tables_of after ≡ tables_of before
  pub floors : floors_of after ≡ floors_of before
  pub many : length pages ≡ length places
  pub entries : (r : ℕ) → r < length planes
      → entries_at after r ≡ entries_at before r ++ entries_by r (receipts_by t.sigs (lines_at t.lines places) pages)

-- a worker has recorded its lines
pub record HasWorked (t : Trace) (planes : List PlaneId) (before after : Job) : Type 0 where
  pub places : after.places ≡ before.places
  pub capacity : vec_capacity after.passes ≡ vec_capacity before.passes
  pub grown : HaveGrown t planes before.places.items before.passes.items after.passes.items after.pages.items

-- ---- all workers

pub record AreReady (t : Trace) (planes : List PlaneId) (jobs : List Job) : Type 0 where
  pub each : (w : ℕ) (d : Job) → w < length jobs → IsReady t planes (slice_index_or jobs w d)

pub record HaveWorked (t : Trace) (planes : List PlaneId) (before after : List Job) : Type 0 where
  pub many : length after ≡ length before
  pub each : (w : ℕ) (d : Job) → w < length before
      → HasWorked t planes (slice_index_or before w d) (slice_index_or after w d)

-- ---- the pages of all record lines

abbrev pub no_page : PageNo
no_page = record { number = 0 }

abbrev pub no_pages : List PageNo
no_pages = []

-- the pages of each worker
abbrev pub pages_of : List Job → List (List PageNo)
pages_of jobs = map (λ job. job.pages.items) jobs

-- the page of a segment's record number j, where the pages of each of its W workers are these
abbrev pub page_at : List (List PageNo) → (j : ℕ) → PageNo
page_at pages j = slice_index_or (slice_index_or pages (j % length pages) []) (j / length pages) no_page

-- the worker whose turn record number j was has its page
abbrev pub HasPageAt : List (List PageNo) → (j : ℕ) → Type 0
HasPageAt pages j = j / length pages < length (slice_index_or pages (j % length pages) [])

-- the receipts of a segment's record lines, in line order
abbrev pub receipts_in : (t : Trace) (from to : ℕ) → (pages : List (List PageNo)) → List Receipt
receipts_in t from to pages =
    let places = segment_places t.lines from to in
    receipts_by t.sigs (lines_at t.lines places) (map (page_at pages) (below (length places)))
