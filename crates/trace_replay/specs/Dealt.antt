-- The passes of all routers go to the workers' jobs, and come back.
use Rattle.std.specs.Prelude.{ℕ, ◌+◌, ◌-◌, ◌≡◌, ◌≤◌, ◌<◌, ◌++◌, ◌∷◌, [], All, List, length, map, take, true, slice_index_or, vec_capacity, Vec}
use Rattle.std.specs.List.{flat_map}
use Rattle.std.specs.declared.alloc.Global.{Global}
use Rattle.spie_base.specs.declared.Rules.{Rules}
use Rattle.spie_base.specs.declared.Sig.{Sig}
use Rattle.gate_core.specs.Invariant.{IsRising}
use Rattle.page_gate.specs.Held.{Home, PassHeld, PlaneId}
use Rattle.page_catalogue.specs.Pages.{open_page}
use Rattle.router_account.specs.Ledger.{Ledger, Unfinished}
use Rattle.router_account.specs.Records.{ArePageBits}
use Rattle.router_account.specs.Watches.{shows}
use Rattle.data_agent.specs.Planes.{entries_of}
use Rattle.data_agent.specs.Standing.{StandsFor}
use Rattle.data_agent.specs.declared.Agent.{Agent}
use Rattle.trace_workers.specs.declared.Job.{Job}
use Rattle.trace_workers.specs.Columns.{HavePasses}
use Rattle.trace_workers.specs.Jobs.{planes_tables, tables_of}
use Rattle.data_agent.specs.Beside.{Away, StandsBeside, AreClosedBits, AreFrom, AreRead, IsGathered, fresh_pass}

-- ---- dealing

-- so many passes, dealt while a page was open
abbrev pub away_of : (W : ℕ) → Ledger → Away
away_of W l = record { out = W; since = open_page l.account.closings }

-- passes were dealt of an agent, and now it stands beside them for what it stood for
pub record IsDealer (W : ℕ) (before after : Agent) : Type 0 where
  pub beside : (rules : Rules) (l : Ledger) (u : Unfinished) → StandsFor before rules l u → AreClosedBits rules l u
      → StandsBeside after rules l u (away_of W l)
  pub floor : (rules : Rules) (l : Ledger) (u : Unfinished) → StandsFor before rules l u
      → before.page.number ≡ open_page l.account.closings

-- the agents below i have dealt, and the others are as before
pub record HaveDealt (W i : ℕ) (before after : List Agent) : Type 0 where
  pub same : length after ≡ length before
  pub dealt : (r : ℕ) (d : Agent) → r < i → IsDealer W (slice_index_or before r d) (slice_index_or after r d)
  pub rest : (r : ℕ) (d : Agent) → i ≤ r → slice_index_or after r d ≡ slice_index_or before r d

-- a new pass of each router
abbrev pub fresh_passes : List PlaneId → List Agent → List PassHeld
fresh_passes [] agents = []
fresh_passes (plane ∷ planes) [] = []
fresh_passes (plane ∷ planes) (agent ∷ agents) = fresh_pass plane agent ∷ fresh_passes planes agents

-- a job has these passes, and is else as before
pub record HasPasses (passes : List PassHeld) (before after : Job) : Type 0 where
  pub passes_are : after.passes.items ≡ passes
  pub room : vec_capacity after.passes ≡ vec_capacity before.passes
  pub places : after.places ≡ before.places
  pub pages : after.pages ≡ before.pages

-- each job has a new pass of each router below i
pub record HaveFresh (i : ℕ) (planes : List PlaneId) (agents : List Agent) (before after : List Job) : Type 0 where
  pub many : length after ≡ length before
  pub each : (w : ℕ) (d : Job) → w < length before
      → HasPasses (take i (fresh_passes planes agents)) (slice_index_or before w d) (slice_index_or after w d)

-- an empty list with memory for a pass of each worker
pub record IsColumn (W : ℕ) (column : Vec PassHeld Global) : Type 0 where
  pub none : column.items ≡ []
  pub room : W ≤ vec_capacity column

-- so many empty lists, each with memory for a pass of each worker
pub record AreColumns (W count : ℕ) (columns : List (Vec PassHeld Global)) : Type 0 where
  pub many : length columns ≡ count
  pub each : (r : ℕ) (d : Vec PassHeld Global) → r < count → IsColumn W (slice_index_or columns r d)

-- ---- gathering

-- what came of an agent that took in these passes
pub record IsGatherer (before after : Agent) (passes : List PassHeld) : Type 0 where
  pub entries : entries_of after ≡ entries_of before ++ flat_map (λ (p : PassHeld). p.entries) passes
  pub stands : (rules : Rules) (l : Ledger) (u : Unfinished) (away : Away) → StandsBeside before rules l u away
      → AreFrom away.since passes
      → (k : Ledger) → IsGathered l (flat_map (λ (p : PassHeld). p.entries) passes) k → StandsFor after rules k u
  pub bits : (rules : Rules) (l : Ledger) (u : Unfinished) (away : Away) → StandsBeside before rules l u away
      → AreFrom away.since passes
      → (k : Ledger) → IsGathered l (flat_map (λ (p : PassHeld). p.entries) passes) k → ArePageBits rules k.account u
  pub shown : (rules : Rules) (l : Ledger) (u : Unfinished) (away : Away) → StandsBeside before rules l u away
      → AreFrom away.since passes
      → (k : Ledger) → IsGathered l (flat_map (λ (p : PassHeld). p.entries) passes) k → (page : ℕ) (sig : Sig)
      → AreRead before page sig → shows rules k.account sig page ≡ true
  pub rising : All (λ (p : PassHeld). IsRising p.floor p.entries) passes

-- each job's last pass is of this plane, and none has a floor below a page
pub record HaveLast (table : Home) (since : ℕ) (jobs : List Job) : Type 0 where
  pub some : HavePasses jobs
  pub last : (w : ℕ) (d : Job) (front : List PassHeld) (p : PassHeld) → w < length jobs
      → (slice_index_or jobs w d).passes.items ≡ front ++ p ∷ []
      → (p.table ≡ table) × (since ≤ p.floor)

-- an agent may take in the last pass of each job
abbrev pub MayGather : PlaneId → Agent → List Job → Type 0
MayGather plane agent jobs =
    (rules : Rules) × (l : Ledger) × (u : Unfinished) × (away : Away) × StandsBeside agent rules l u away
    × (length jobs ≡ away.out) × HaveLast plane.table away.since jobs

-- the passes of a router in the order of the jobs
abbrev pub column_of : (d : PassHeld) → List Job → (router : ℕ) → List PassHeld
column_of d jobs r = map (λ (job : Job). slice_index_or job.passes.items r d) jobs

-- the agents may take in the passes of all jobs
pub record MayGatherAll (planes : List PlaneId) (agents : List Agent) (jobs : List Job) : Type 0 where
  pub tables : (w : ℕ) (d : Job) → w < length jobs
      → tables_of (slice_index_or jobs w d).passes.items ≡ planes_tables planes
  pub each : (r : ℕ) (a : Agent) → r < length agents
      → (rules : Rules) × (l : Ledger) × (u : Unfinished) × (away : Away)
      × StandsBeside (slice_index_or agents r a) rules l u away × (length jobs ≡ away.out)
      × ((w : ℕ) (d : Job) (p : PassHeld) → w < length jobs
      → away.since ≤ (slice_index_or (slice_index_or jobs w d).passes.items r p).floor)

-- each agent took in its router's passes, in the order of the jobs
pub record HaveGathered (jobs : List Job) (before after : List Agent) : Type 0 where
  pub same : length after ≡ length before
  pub each : (r : ℕ) (a : Agent) (p : PassHeld) → r < length before
      → IsGatherer (slice_index_or before r a) (slice_index_or after r a) (column_of p jobs r)

-- each job has no passes left, and is else as before
pub record HaveBack (before after : List Job) : Type 0 where
  pub many : length after ≡ length before
  pub each : (w : ℕ) (d : Job) → w < length before → HasPasses [] (slice_index_or before w d) (slice_index_or after w d)

-- the passes of the last `done` of n routers were taken in
pub record HaveTaken (n done : ℕ) (jobs left : List Job) (before after : List Agent) : Type 0 where
  pub same : length after ≡ length before
  pub many : length left ≡ length jobs
  pub rest : (r : ℕ) (a : Agent) → r + done < n → slice_index_or after r a ≡ slice_index_or before r a
  pub each : (r : ℕ) (a : Agent) (p : PassHeld) → n ≤ r + done → r < n
      → IsGatherer (slice_index_or before r a) (slice_index_or after r a) (column_of p jobs r)
  pub passes : (w : ℕ) (d : Job) → w < length jobs
      → HasPasses (take (n - done) (slice_index_or jobs w d).passes.items)
      (slice_index_or jobs w d) (slice_index_or left w d)
