-- What a watch looks at. No public clause cites this module.
use Rattle.std.specs.Prelude.{ℕ, ◌≡◌, ◌≤◌, ◌<◌, ◌-◌, ◌^◌, Bool, true, false, not, ◌&&◌, length, List, Some, ◌⊎◌, IsTrue}
use Rattle.spie_base.specs.declared.Rules.{Rules}
use Rattle.spie_base.specs.declared.Sig.{Sig}
use Rattle.bloom_page.specs.Sets.{is_in}
use Rattle.router_account.specs.Ledger.{Ledger}
use Rattle.router_account.specs.Watches.{is_missing_now, shows}
use Rattle.router_account.specs.declared.words.Watch.{Watch}
use Rattle.router_account.specs.declared.words.Watch.TheVariants.{NotSeen, Seen, Unknown}
use Rattle.page_catalogue.specs.Pages.{is_in_window}
use Rattle.shelved_page.specs.declared.shelving.Digests.{Digests}
use Rattle.gate_core.specs.declared.view.Probed.{Probed}
use Rattle.data_agent.specs.declared.agent.Agent.{Agent}
use Rattle.data_agent.specs.declared.closed_page.Whereabouts.TheVariants.{OnShelf}
use Rattle.data_agent.specs.Probing.{IsNeverSeen, IsSeenIn, IsSeenOnce, IsUnseenIn, ShowsInMemory, StandsInSlot, place_of}
use Rattle.data_agent.specs.Standing.{standing}

-- the pages of an agent are where it has them: collected ones in their places, and the others in slots
pub record HasPlaces (agent : Agent) : Type 0 where
  pub exist : agent.page.number ≡ length agent.catalogue.closings
  pub few : agent.page.number < 2 ^ 32 - 1
  pub order : standing agent ≤ agent.page.number
  pub stand : (page : ℕ) → standing agent ≤ page → page ≤ agent.page.number → StandsInSlot agent page
  pub only : (page : ℕ) → StandsInSlot agent page → standing agent ≤ page

-- whether a page is in memory and has all marks of a signature
abbrev pub TellsMemory : Agent → (page : ℕ) → Sig → (answer : Bool) → Type 0
TellsMemory agent page sig true = ShowsInMemory agent page sig
TellsMemory agent page sig false = ShowsInMemory agent page sig → ⊥

-- whether a page that has not expired shows a signature, by these reads where it stands in a slot
abbrev pub TellsPage : Agent → (reads : List Probed) → (page : ℕ) → Sig → (answer : Bool) → Type 0
TellsPage agent reads page sig true = IsSeenIn agent reads page sig
TellsPage agent reads page sig false = IsUnseenIn agent reads page sig

-- whether a page that was collected is on the shelf
abbrev pub TellsShelf : Agent → (page : ℕ) → (answer : Bool) → Type 0
TellsShelf agent page true = (g : Digests) × (place_of agent page ≡ Some (OnShelf g))
TellsShelf agent page false = (g : Digests) → place_of agent page ≡ Some (OnShelf g) → ⊥

-- a page has expired, or is on the shelf
abbrev pub IsAway : Agent → (page : ℕ) → Type 0
IsAway agent page = (page < agent.catalogue.gone) ⊎ ((g : Digests) × (place_of agent page ≡ Some (OnShelf g)))

-- whether one of the pages from the first to the last is away
pub record IsLackingHere (agent : Agent) (first last : ℕ) (said : Bool) : Type 0 where
  pub one : said ≡ true → (page : ℕ) × (first ≤ page) × (page ≤ last) × IsAway agent page
  pub none : said ≡ false → (page : ℕ) → first ≤ page → page ≤ last → IsAway agent page → ⊥

-- a page of the window at this clock
abbrev pub IsInWindow : Agent → (clock page : ℕ) → Type 0
IsInWindow agent clock page = IsTrue (is_in_window agent.catalogue.rules agent.catalogue.closings clock page)

-- what each answer of a watch tells of the agent's pages
abbrev pub TellsWatch : Agent → (reads : List Probed) → (clock : ℕ) → Sig → Watch → Type 0
TellsWatch agent reads clock sig Seen = IsSeenOnce agent reads clock sig
TellsWatch agent reads clock sig Unknown =
    IsNeverSeen agent reads clock sig × ((page : ℕ) × IsInWindow agent clock page × IsAway agent page)
TellsWatch agent reads clock sig NotSeen =
    IsNeverSeen agent reads clock sig × ((page : ℕ) → IsInWindow agent clock page → IsAway agent page → ⊥)

-- whether a page is in memory and shows a signature
abbrev pub shows_now : Rules → Ledger → Sig → (page : ℕ) → Bool
shows_now rules l sig page = not (is_in l.put_before page) && shows rules l.account sig page

-- whether one of the pages from the first to the last is missing
pub record IsLacking (rules : Rules) (l : Ledger) (first last : ℕ) (said : Bool) : Type 0 where
  pub one : said ≡ true → (page : ℕ) × (first ≤ page) × (page ≤ last) × (is_missing_now rules l page ≡ true)
  pub none : said ≡ false → (page : ℕ) → first ≤ page → page ≤ last → is_missing_now rules l page ≡ false
