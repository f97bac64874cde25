-- What a watch reads, in the agent's own terms. Public clauses cite these words.
use Rattle.std.specs.Prelude.{ℕ, ◌≡◌, ◌≤◌, ◌<◌, ◌-◌, ◌⊎◌, IsTrue, true, false, Bool, List, length, slice_get, option_map, Option, Some}
use Rattle.std.specs.List.{Contains}
use Rattle.spie_base.specs.Shapes.{shape_of}
use Rattle.spie_base.specs.declared.Sig.{Sig}
use Rattle.gate_core.specs.Invariant.{HasPage}
use Rattle.gate_core.specs.declared.view.Probed.{Probed}
use Rattle.page_catalogue.specs.Pages.{is_in_window}
use Rattle.page_gate.specs.Pages.{phase_with}
use Rattle.page_gate.specs.Probes.{HaveAllMarks, probed_held, read_of}
use Rattle.data_agent.specs.declared.agent.Agent.{Agent}
use Rattle.data_agent.specs.declared.closed_page.Whereabouts.{Whereabouts}
use Rattle.data_agent.specs.declared.closed_page.Whereabouts.TheVariants.{InMemory}
use Rattle.data_agent.specs.declared.resident.Resident.{Resident}
use Rattle.data_agent.specs.Planes.{entries_of}
use Rattle.data_agent.specs.Residents.{shows}

-- ---- which pages are consulted

-- a page of the window at this clock that has not expired
pub record IsLivePage (agent : Agent) (clock page : ℕ) : Type 0 where
  pub in_window : IsTrue (is_in_window agent.catalogue.rules agent.catalogue.closings clock page)
  pub live : agent.catalogue.gone ≤ page

-- a page stands in a slot of the plane
abbrev pub StandsInSlot : Agent → (page : ℕ) → Type 0
StandsInSlot agent page = HasPage (phase_with agent.keeper.view.duties page)

-- where a page is that was collected and has not expired
abbrev pub place_of : Agent → (page : ℕ) → Option Whereabouts
place_of agent page = option_map (λ c. c.place) (slice_get agent.closed.items (page - agent.catalogue.gone))

-- a page is in memory, and has all marks of a signature
pub record ShowsInMemory (agent : Agent) (page : ℕ) (sig : Sig) : Type 0 where
  pub resident : Resident
  pub here : place_of agent page ≡ Some (InMemory resident)
  pub marks : shows resident sig ≡ true

-- ---- what is read of those that stand in slots

-- the keeper has noted these reads more, and nothing else of the agent is changed
abbrev pub HasNoted : (old new : Agent) → (reads : List Probed) → Type 0
HasNoted old new reads = new ≡ record old { keeper = probed_held old.keeper reads }

-- among these reads of an agent's keeper mark i of a signature in a page was read as set, or as not set
abbrev pub HasRead : Agent → (reads : List Probed) → (page : ℕ) → Sig → (i : ℕ) → (bit : Bool) → Type 0
HasRead agent reads page sig i bit =
    Contains reads (read_of (shape_of agent.rules agent.router.number) page sig (length (entries_of agent)) i bit)

-- a page stands in a slot, and each mark of a signature was read as set there
pub record IsReadSet (agent : Agent) (reads : List Probed) (page : ℕ) (sig : Sig) : Type 0 where
  pub stands : StandsInSlot agent page
  pub each : (i : ℕ) → i < agent.rules.k → HasRead agent reads page sig i true

-- a mark of a signature was read as not set in a page
pub record IsReadUnset (agent : Agent) (reads : List Probed) (page : ℕ) (sig : Sig) : Type 0 where
  pub mark : ℕ
  pub within : mark < agent.rules.k
  pub unset : HasRead agent reads page sig mark false

-- ---- what a watch rests on

-- a page is in memory with all marks of a signature, or stands in a slot and each mark was read as set there
abbrev pub IsSeenIn : Agent → (reads : List Probed) → (page : ℕ) → Sig → Type 0
IsSeenIn agent reads page sig = ShowsInMemory agent page sig ⊎ IsReadSet agent reads page sig

-- a page is not in memory with all marks of a signature. Where it stands in a slot one mark was read as not set, and the keeper's
-- entries of the page don't have all marks
pub record IsUnseenIn (agent : Agent) (reads : List Probed) (page : ℕ) (sig : Sig) : Type 0 where
  pub memory : ShowsInMemory agent page sig → ⊥
  pub slot : StandsInSlot agent page → IsReadUnset agent reads page sig
  pub gathered : StandsInSlot agent page
      → HaveAllMarks (shape_of agent.rules agent.router.number) (entries_of agent) page sig → ⊥

-- a signature is seen in one of the live pages
pub record IsSeenOnce (agent : Agent) (reads : List Probed) (clock : ℕ) (sig : Sig) : Type 0 where
  pub page : ℕ
  pub live : IsLivePage agent clock page
  pub seen : IsSeenIn agent reads page sig

-- and in none of them
abbrev pub IsNeverSeen : Agent → (reads : List Probed) → (clock : ℕ) → Sig → Type 0
IsNeverSeen agent reads clock sig = (page : ℕ) → IsLivePage agent clock page → IsUnseenIn agent reads page sig
