-- What a segment's workers leave, in the words of histories.
use Rattle.std.specs.Prelude.{◌≡◌, ℕ, ◌%◌, ◌<◌, ◌≤◌, ◌↔◌, List, ◌++◌, length, slice_index_or, slice_get, Some}
use Rattle.std.specs.List.{Contains, flat_map}
use Rattle.spie_base.specs.declared.Entry.{Entry}
use Rattle.gate_core.specs.Invariant.{IsRising}
use Rattle.page_gate.specs.Held.{PlaneId, PassHeld}
use Rattle.router_account.specs.Account.{below}
use Rattle.trace_format.specs.Sound.{records}
use Rattle.trace_format.specs.declared.Trace.{Trace}
use Rattle.trace_format.specs.declared.Line.{Line}
use Rattle.trace_history.specs.Receipts.{Receipt}
use Rattle.trace_history.specs.Workers.{share_of}
use Rattle.trace_workers.specs.declared.jobs.Job.{Job}
use Rattle.trace_workers.specs.Records.{segment_places, lines_at, lines_between, entries_by}
use Rattle.trace_workers.specs.Jobs.{AreShares, HaveWorked, HasPageAt, entries_at, pages_of, receipts_in}

-- the page of each record line can be read, and each worker's passes grew by its share of the receipts, in line order
pub record AreSharesOf (t : Trace) (planes : List PlaneId) (from to : ℕ) (before after : List Job) : Type 0 where
  pub read : (j : ℕ) → j < length (segment_places t.lines from to) → HasPageAt (pages_of after) j
  pub entries : (w r : ℕ) (d : Job) → w < length before → r < length planes
      → entries_at (slice_index_or after w d).passes.items r
      ≡ entries_at (slice_index_or before w d).passes.items r
      ++ share_of (length before) w r 0 (receipts_in t from to (pages_of after))

-- workers record their shares
abbrev pub SharesAreRecorded : Type 0
SharesAreRecorded =
    (t : Trace) (planes : List PlaneId) (from to : ℕ) (before after : List Job) → 0 < length before
    → AreShares t from to before → HaveWorked t planes before after → AreSharesOf t planes from to before after

-- the lines at the places of a segment's record lines are these lines
abbrev pub PlacesAreOfRecords : Type 0
PlacesAreOfRecords =
    (lines : List Line) (from to : ℕ) → to ≤ length lines
    → lines_at lines (segment_places lines from to) ≡ records (lines_between lines from to)

-- the pages of a router never fall from a worker's record to a later one of the same worker, and none is below a floor
pub record AreRisingTurns (W router floor : ℕ) (xs : List Receipt) : Type 0 where
  pub rising : (i j : ℕ) (x y : Receipt) → i < j → i % W ≡ j % W → slice_get xs i ≡ Some x → slice_get xs j ≡ Some y
      → x.hop.router ≡ router → y.hop.router ≡ router → x.page ≤ y.page
  pub from_floor : (x : Receipt) → Contains xs x → x.hop.router ≡ router → floor ≤ x.page

-- that is so where it is so of each worker's share
abbrev pub RisingSharesRise : Type 0
RisingSharesRise =
    (W router floor : ℕ) (xs : List Receipt) → 0 < W
    → ((w : ℕ) → w < W → IsRising floor (share_of W w router 0 xs)) → AreRisingTurns W router floor xs

-- all shares together have the entries of the receipts, and no others
abbrev pub SharesAreAll : Type 0
SharesAreAll =
    (W router : ℕ) (xs : List Receipt) → 0 < W → (e : Entry)
    → Contains (flat_map (λ w. share_of W w router 0 xs) (below W)) e ↔ Contains (entries_by router xs) e

-- where the passes of a router have their workers' shares and nothing else, in the order of the workers, they have what
-- the workers recorded there as a yard has it
abbrev pub ColumnsAreWorked : Type 0
ColumnsAreWorked =
    (W router : ℕ) (xs : List Receipt) (column : List PassHeld) → length column ≡ W
    → ((w : ℕ) (p : PassHeld) → w < W → (slice_index_or column w p).entries ≡ share_of W w router 0 xs)
    → flat_map (λ p. p.entries) column ≡ flat_map (λ w. share_of W w router 0 xs) (below W)
