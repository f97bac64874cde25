-- The planes of a replay's routers, and beside each its agent.
use Rattle.std.specs.Prelude.{ℕ, ◌^◌, ◌≡◌, ◌<◌, List, [], ◌∷◌, length, slice_index_or}
use Rattle.spie_base.specs.declared.Entry.{Entry}
use Rattle.spie_base.specs.Shapes.{shape_of}
use Rattle.spie_base.specs.declared.Rules.{Rules}
use Rattle.page_gate.specs.Held.{PlaneId}
use Rattle.router_account.specs.Ledger.{Ledger, Unfinished, first_ledger, nothing_unfinished}
use Rattle.data_agent.specs.Beside.{out_of}
use Rattle.data_agent.specs.Planes.{IsOwnPlane, entries_of}
use Rattle.data_agent.specs.Standing.{StandsFor}
use Rattle.data_agent.specs.declared.Agent.{Agent}
use Rattle.trace_history.specs.Workers.{YardView}
use Rattle.trace_replay.specs.Agents.{Standing}
use Rattle.trace_replay.specs.Standing.{Way}

-- each agent works on the plane beside it
pub record AreBeside (planes : List PlaneId) (agents : List Agent) : Type 0 where
  pub count : length planes ≡ length agents
  pub own : (r : ℕ) (p : PlaneId) (a : Agent) → r < length agents → IsOwnPlane (slice_index_or planes r p) (slice_index_or agents r a)

-- a replay by W workers, with agents' keepers
abbrev pub by_workers : (W : ℕ) → Way Agent
by_workers W = record { workers = W; entries = entries_of }

-- a router's pages: the shape of its plane, and the entries of its agent's keeper and its passes that are out
abbrev pub yard_view : PlaneId → Agent → YardView
yard_view plane agent = record { shape = plane.shape; entries = entries_of agent; out = out_of agent }

-- those of all routers
abbrev pub yard_views : List PlaneId → List Agent → List YardView
yard_views [] agents = []
yard_views (plane ∷ planes) [] = []
yard_views (plane ∷ planes) (agent ∷ agents) = yard_view plane agent ∷ yard_views planes agents

-- what is so of a yard between any two calls. No public clause cites it
pub record IsYard (planes : List PlaneId) (agents : List Agent) : Type 0 where
  pub beside : AreBeside planes agents
  pub numbered : length agents < 2 ^ 32

-- an agent stands for some ledger
abbrev pub IsStanding : {A : Type 0} → Standing A → A → Type 0
IsStanding stands agent = (rules : Rules) × (l : Ledger) × (u : Unfinished) × stands agent rules l u

-- whatever one agent stands for, the other does
abbrev pub KeepsStanding : {A : Type 0} → Standing A → (before after : A) → Type 0
KeepsStanding stands before after = (rules : Rules) (l : Ledger) (u : Unfinished) → stands before rules l u → stands after rules l u

-- each agent stands for what it stood for before
pub record AllKeepStanding {A : Type 0} (stands : Standing A) (before after : List A) : Type 0 where
  pub count : length after ≡ length before
  pub still : (r : ℕ) (a : A) → r < length before → KeepsStanding stands (slice_index_or before r a) (slice_index_or after r a)

-- each agent has the entries that it had before
pub record AllKeepEntries {A : Type 0} (entries : A → List Entry) (before after : List A) : Type 0 where
  pub count : length after ≡ length before
  pub same : (r : ℕ) (a : A) → r < length before → entries (slice_index_or after r a) ≡ entries (slice_index_or before r a)

-- planes of these shapes for so many routers, and beside each an agent that has recorded nothing
pub record AreOpened (rules : Rules) (routers : ℕ) (planes : List PlaneId) (agents : List Agent) : Type 0 where
  pub count_is : length agents ≡ routers
  pub beside : AreBeside planes agents
  pub shapes : (r : ℕ) (p : PlaneId) → r < routers → (slice_index_or planes r p).shape ≡ shape_of rules r
  pub first : (r : ℕ) (a : Agent) → r < routers → StandsFor (slice_index_or agents r a) rules (first_ledger r) nothing_unfinished
  pub empty : (r : ℕ) (a : Agent) → r < routers → entries_of (slice_index_or agents r a) ≡ []
