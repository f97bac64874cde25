-- Where the pages of an agent are.
use Rattle.std.proofs.Common.{◌↔◌, ℕ, ◌≡◌, ◌≤◌, ◌<◌, ◌+◌, ◌-◌, ◌∙◌, [], inl, Bool, true, false, List, length, get_or, nat_lt, Some, sym, ap, subst, arith, refl, None, inr}
use Rattle.std.specs.Prelude.{option_map}
use Rattle.std.proofs.lemmas.Bool.{cases_lt, false≢true, ltb-false, ltb-true}
use Rattle.std.proofs.lemmas.Option.{slice_get-get_or, slice_get_past}
use Rattle.spie_base.specs.Shapes.{shape_of}
use Rattle.spie_base.specs.declared.PageShape.{PageShape}
use Rattle.spie_base.specs.declared.Rules.{Rules}
use Rattle.spie_base.specs.declared.Sig.{Sig}
use Rattle.bloom_page.specs.Sets.{is_in}
use Rattle.gate_core.specs.declared.view.Probed.{Probed}
use Rattle.page_gate.specs.Held.{Held, PlaneId}
use Rattle.page_gate.specs.Probes.{HaveAllMarks, Probes, ReadsTell, probed_held}
use Rattle.router_account.specs.Ledger.{Ledger}
use Rattle.shelved_page.specs.declared.shelving.Digests.{Digests}
use Rattle.data_agent.specs.declared.agent.Agent.{Agent}
use Rattle.data_agent.specs.declared.closed_page.ClosedPage.{ClosedPage}
use Rattle.data_agent.specs.declared.closed_page.Whereabouts.{Whereabouts}
use Rattle.data_agent.specs.declared.closed_page.Whereabouts.TheVariants.{InMemory, OnShelf}
use Rattle.data_agent.specs.declared.resident.Resident.{Resident}
use Rattle.data_agent.specs.Planes.{IsOwnPlane, entries_of}
use Rattle.data_agent.specs.Probing.{HasNoted, place_of}
use Rattle.data_agent.specs.Residents.{shows}
use Rattle.data_agent.specs.Standing.{IsPlaced, StandsAmid, standing}
use Rattle.data_agent.specs.Watching.{HasPlaces, IsAway, IsInWindow, IsLackingHere, TellsMemory, TellsPage}
use Rattle.data_agent.proofs.Keeping.{minding_of}
use Rattle.data_agent.proofs.Minding.{minded_from, minded_stands}
use Rattle.data_agent.proofs.ReadMarks.{probe_seen, probe_unseen}

pub places_amid : (agent : Agent) (rules : Rules) (l : Ledger) → StandsAmid agent rules l → HasPlaces agent
places_amid agent rules l s =
    let shape : PageShape = shape_of rules l.account.router in
    let last : ℕ = length l.account.closings in
    let keeping = s.pages.keeping in
    let page = s.pages.page in
    let few = s.pages.few in
    let order = keeping.order in
    let minding = minding_of shape agent.keeper l.account.entries (standing agent) last keeping in
    record {
      exist = page ∙ sym (ap length s.pages.closings);
      few = omega arith;
      order = omega arith;
      stand = λ p from to. minded_stands shape agent.keeper (standing agent) last minding p from (omega arith);
      only = λ p stands. minded_from shape agent.keeper (standing agent) last minding p stands;
    }

-- by the test of it
pub past_of : (agent : Agent) (page : ℕ) (collected : Bool) → collected ≡ nat_lt page (standing agent) → collected ≡ false → standing agent ≤ page
past_of agent page collected is not_so = ltb-false page (standing agent) (sym is ∙ not_so)

pub before_of : (agent : Agent) (page : ℕ) (collected : Bool) → collected ≡ nat_lt page (standing agent) → collected ≡ true → page < standing agent
before_of agent page collected is so = ltb-true page (standing agent) (sym is ∙ so)

-- reads change none of them
pub places_noted : (a b : Agent) (reads : List Probed) → HasNoted a b reads → HasPlaces a → HasPlaces b
places_noted a b reads noted s =
    let after : Agent = record a { keeper = probed_held a.keeper reads } in
    let here : HasPlaces after = record { exist = s.exist; few = s.few; order = s.order; stand = s.stand; only = s.only } in
    subst HasPlaces (sym noted) here

-- ---- collected pages

placed_in : (agent : Agent) (page : ℕ) (w : Whereabouts) (d : ClosedPage) → page - agent.catalogue.gone < length agent.closed.items → place_of agent page ≡ Some w
    → (get_or agent.closed.items (page - agent.catalogue.gone) d).place ≡ w
placed_in agent page w d lt is =
    let there : place_of agent page ≡ Some (get_or agent.closed.items (page - agent.catalogue.gone) d).place =
    ap (option_map (λ (c : ClosedPage). c.place)) (slice_get-get_or agent.closed.items (page - agent.catalogue.gone) d lt) in
    let both : Some (get_or agent.closed.items (page - agent.catalogue.gone) d).place ≡ Some w = sym there ∙ is in
    cc

-- what holds of each collected page, by its number and where it is, holds of this one
pub holds_at : (P : (page : ℕ) → Whereabouts → Type 0) (agent : Agent) (page : ℕ) (w : Whereabouts) → ((i : ℕ) (d : ClosedPage) → i < length agent.closed.items → P (agent.catalogue.gone + i) (get_or agent.closed.items i d).place)
    → agent.catalogue.gone ≤ page → page < standing agent → place_of agent page ≡ Some w → P page w
holds_at P agent page w each near before is =
    let i : ℕ = page - agent.catalogue.gone in
    let d : ClosedPage = record { place = w; covered = false } in
    let lt : i < length agent.closed.items = omega arith in
    let at : agent.catalogue.gone + i ≡ page = omega arith in
    subst (P page) (placed_in agent page w d lt is) (subst (λ (p : ℕ). P p (get_or agent.closed.items i d).place) at (each i d lt))

pub placed_at : (agent : Agent) (rules : Rules) (l : Ledger) (page : ℕ) (w : Whereabouts) → StandsAmid agent rules l → agent.catalogue.gone ≤ page → page < standing agent → place_of agent page ≡ Some w
    → IsPlaced rules l.account page (is_in l.put_before page) w
placed_at agent rules l page w s = holds_at (λ p. IsPlaced rules l.account p (is_in l.put_before p)) agent page w (λ i d lt. (s.closed i d lt).placed)

pub memory_tells : (agent : Agent) (page : ℕ) (sig : Sig) (r : Resident) (answer : Bool) → place_of agent page ≡ Some (InMemory r) → answer ≡ shows r sig → TellsMemory agent page sig answer
memory_tells agent page sig r true here is = record { resident = r; here = here; marks = sym is }
memory_tells agent page sig r false here is = λ s.
    let same : Some (InMemory r) ≡ Some (InMemory s.resident) = sym here ∙ s.here in
    let marks : shows s.resident sig ≡ true = s.marks in
    cc

pub shelf_tells : (agent : Agent) (page : ℕ) (sig : Sig) (d : Digests) → place_of agent page ≡ Some (OnShelf d) → TellsMemory agent page sig false
shelf_tells agent page sig d here = λ s. let same : Some (OnShelf d) ≡ Some (InMemory s.resident) = sym here ∙ s.here in cc

-- ---- what is told of one page

pub collected_tells : (agent : Agent) (page : ℕ) (sig : Sig) (answer : Bool) → HasPlaces agent → page < standing agent → TellsMemory agent page sig answer → TellsPage agent [] page sig answer
collected_tells agent page sig true s before tells = inl tells
collected_tells agent page sig false s before tells = record { memory = tells; slot = λ stands. let from = s.only page stands in absurd (omega arith); gathered = λ stands. let from = s.only page stands in absurd (omega arith) }

-- by what was read of it in its slot
read_tells : (agent : Agent) (page : ℕ) (sig : Sig) (more : List Probed) (answer : Bool) → HasPlaces agent → agent.catalogue.gone ≤ page → standing agent ≤ page → page ≤ agent.page.number
    → ReadsTell (shape_of agent.rules agent.router.number) page sig (length (entries_of agent)) more answer
    → (answer ≡ false → HaveAllMarks (shape_of agent.rules agent.router.number) (entries_of agent) page sig → ⊥) → TellsPage agent more page sig answer
read_tells agent page sig more true s near past to tell without = probe_seen agent page sig more (s.stand page past to) tell
read_tells agent page sig more false s near past to tell without = probe_unseen agent page sig more near past tell (without refl)

pub probe_tells : (plane : PlaneId) (agent : Agent) (keeper : Held) (page : ℕ) (sig : Sig) (answer : Bool) → IsOwnPlane plane agent → HasPlaces agent → agent.catalogue.gone ≤ page → standing agent ≤ page → page ≤ agent.page.number
    → Probes plane.shape page sig agent.keeper keeper answer → (answer ≡ false → HaveAllMarks plane.shape agent.keeper.view.entries page sig → ⊥) → (reads : List Probed) × HasNoted agent (record agent { keeper = keeper }) reads × TellsPage agent reads page sig answer
probe_tells plane agent keeper page sig answer own s near past to (more, is, tell) without = (
  more,
  ap (λ (k : Held). record agent { keeper = k }) is,
  read_tells agent page sig more answer s near past to (subst (λ (shape : PageShape). ReadsTell shape page sig (length (entries_of agent)) more answer) own.shape tell)
      (subst (λ (shape : PageShape). answer ≡ false → HaveAllMarks shape (entries_of agent) page sig → ⊥) own.shape without),
)

-- ---- what is away

pub lacking_first : (agent : Agent) (first last : ℕ) → first ≤ last → first < agent.catalogue.gone → IsLackingHere agent first last true
lacking_first agent first last some gone = record { one = λ e. (first, omega arith, some, inl gone); none = λ e. absurd (false≢true (sym e)) }

-- a page that was not collected has no place
pub placed_before : (agent : Agent) (page : ℕ) (w : Whereabouts) → agent.catalogue.gone ≤ page → place_of agent page ≡ Some w → page < standing agent
placed_before agent page w near is = elim (cases_lt page (standing agent)) [
  | inl before ↦ before
  | inr past ↦
      let none : place_of agent page ≡ None = ap (option_map (λ (c : ClosedPage). c.place)) (slice_get_past agent.closed.items (page - agent.catalogue.gone) (omega arith)) in
      let both : None ≡ Some w = sym none ∙ is in
      cc
]

-- the same of the window at a clock, and of the agent before its keeper read

away_noted : (a b : Agent) (reads : List Probed) (page : ℕ) → HasNoted a b reads → IsAway b page ↔ IsAway a page
away_noted a b reads page noted = subst (λ (x : Agent). IsAway x page ↔ IsAway a page) (sym noted) (λ away. away, λ away. away)

module _ (a b : Agent) (clock first last : ℕ) (reads : List Probed) (noted : HasNoted a b reads) (exact : (p : ℕ) → ((first ≤ p) × (p ≤ last)) ↔ IsInWindow a clock p) where
  pub lacking_window : IsLackingHere b first last true → (page : ℕ) × IsInWindow a clock page × IsAway a page
  lacking_window lacks = let (page, from, to, away) = lacks.one refl in (page, (exact page).0 (from, to), (away_noted a b reads page noted).0 away)

  pub whole_window : IsLackingHere b first last false → (page : ℕ) → IsInWindow a clock page → IsAway a page → ⊥
  whole_window lacks page inside away = let (from, to) = (exact page).1 inside in lacks.none refl page from to ((away_noted a b reads page noted).1 away)
