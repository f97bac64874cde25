-- The plane on which an agent works. Public clauses cite these words, and none looks into them.
use Rattle.std.specs.Prelude.{ℕ, ◌≡◌, ◌≤◌, true, List, Option, None, Some, Vec}
use Rattle.std.specs.List.{Contains}
use Rattle.std.specs.declared.alloc.Global.{Global}
use Rattle.spie_base.specs.Shapes.{shape_of}
use Rattle.spie_base.specs.declared.Entry.{Entry}
use Rattle.hash_family.specs.Positions.{family_of}
use Rattle.gate_core.specs.Acts.{inside_of}
use Rattle.page_gate.specs.Held.{PlaneId}
use Rattle.page_gate.specs.Probes.{marked_set}
use Rattle.data_agent.specs.declared.agent.Agent.{Agent}
use Rattle.data_agent.specs.declared.archival.Note.{Note}
use Rattle.data_agent.specs.declared.resident.Resident.{Resident}
use Rattle.data_agent.specs.Standing.{is_deferred, standing}

-- the entries of the keeper that the agent owns
abbrev pub entries_of : Agent → List Entry
entries_of agent = agent.keeper.view.entries

-- a copy of the open page, with the marks of all its entries
pub record IsCopy (agent : Agent) (r : Resident) : Type 0 where
  pub family : r.family.value ≡ family_of (shape_of agent.rules agent.router.number) agent.page.number
  pub page_is : r.page ≡ marked_set (shape_of agent.rules agent.router.number) (entries_of agent) agent.page.number

-- where the agent has a copy, it is one of the open page
abbrev pub MayCopy : Agent → Option Resident → Type 0
MayCopy agent None = Unit {0}
MayCopy agent (Some r) = IsCopy agent r

-- the plane is that of the agent's keeper, and has the shape of the agent's pages; a copy is one of the open page
pub record IsOwnPlane (plane : PlaneId) (agent : Agent) : Type 0 where
  pub table : agent.keeper.table ≡ plane.table
  pub shape : plane.shape ≡ shape_of agent.rules agent.router.number
  pub copied : MayCopy agent agent.copied

-- every closed page has left its slot
abbrev pub AreTaken : Agent → Type 0
AreTaken agent = standing agent ≡ agent.page.number

abbrev pub HasCopy : Agent → Option Resident → Type 0
HasCopy agent None = ⊥
HasCopy agent (Some r) = IsCopy agent r

-- every closed page has left its slot, and the agent has a copy of the open one
pub record IsPrepared (agent : Agent) : Type 0 where
  pub taken : AreTaken agent
  pub copied : HasCopy agent agent.copied

-- only the keeper and the collected pages differ, and the keeper has the same entries
pub record IsRestSame (old new : Agent) : Type 0 where
  pub catalogue : new.catalogue ≡ old.catalogue
  pub page : new.page ≡ old.page
  pub noted : new.noted ≡ old.noted
  pub entries : entries_of new ≡ entries_of old

-- the agent's plane stays the agent's, and so does its copy of the open page
pub record IsPlaneSame (old new : Agent) : Type 0 where
  pub keeper : new.keeper ≡ old.keeper
  pub rules : new.rules ≡ old.rules
  pub router : new.router ≡ old.router
  pub page : new.page ≡ old.page
  pub copied : new.copied ≡ old.copied

-- ---- what an archival leaves to the barrier

abbrev pub IsAmongDeferred : (page : ℕ) → Option (Vec Note Global) → Type 0
IsAmongDeferred page None = ⊥
IsAmongDeferred page (Some notes) =
    (note : Note) × Contains notes.items note × (note.page.number ≡ page) × (is_deferred note ≡ true)

-- the segment's archival left it to the barrier to put the bits record of a page
abbrev pub DefersPage : Agent → (page : ℕ) → Type 0
DefersPage agent page = IsAmongDeferred page agent.noted

-- the gate that the keeper read last counted somebody inside its page
abbrev pub CountedSomebody : Agent → Type 0
CountedSomebody agent = 1 ≤ inside_of agent.keeper.view.duties.noted
