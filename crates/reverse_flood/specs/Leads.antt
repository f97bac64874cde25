-- The pairs that are still to be asked, and how a search goes on by asking one.
use Rattle.std.specs.Prelude.{◌≡◌, ◌⊎◌, ◌<◌, ℕ, Bool, true, false, Option, Some, None, List, [], ◌∷◌, ◌++◌, length, map}
use Rattle.std.specs.List.{Contains}
use Rattle.spie_base.specs.declared.Sig.{Sig}
use Rattle.spie_base.specs.declared.RouterId.{RouterId}
use Rattle.topology.specs.Layout.{Layout, is_linked}
use Rattle.topology.specs.declared.limits.TheConstants.{ROUTERS_MOST}
use Rattle.reverse_flood.specs.declared.graphs.Node.{Node}
use Rattle.reverse_flood.specs.declared.cells.Search.{Search}
use Rattle.reverse_flood.specs.declared.leads.Lead.{Lead}
use Rattle.reverse_flood.specs.declared.leads.Leads.{Leads}
use Rattle.reverse_flood.specs.Flood.{Net, IsHit, IsInside, IsStep, is_within}
use Rattle.reverse_flood.specs.Rows.{KeepsRows}
use Rattle.reverse_flood.specs.Search.{rows_in, cell_at, is_named, is_known, found_in, IsFine, IsSettled, IsUnderWay}

-- the pairs alone
abbrev pub nodes_of : List Lead → List Node
nodes_of leads = map (λ (l : Lead). l.node) leads

-- a pair is one of some leads
pub record IsAmong (leads : List Lead) (n : Node) : Type 0 where
  pub lead : Lead
  pub has : Contains leads lead
  pub is : lead.node ≡ n

-- a named pair of a router that exists, with the row of its signature
pub record IsLead (layout : Layout) (s : Search) (l : Lead) : Type 0 where
  pub row : rows_in s l.node.sig ≡ Some l.row
  pub exists : l.node.router.number < length layout.names
  pub named : is_named s l.node ≡ true

abbrev pub AreLeads : Layout → Search → List Lead → Type 0
AreLeads layout s leads = (l : Lead) → Contains leads l → IsLead layout s l

-- what is told of a pair stays
pub record SameTold (n : Node) (old new : Search) : Type 0 where
  pub cell : cell_at new n ≡ cell_at old n
  pub found : found_in new n ≡ found_in old n

-- a search goes on: rows stay, and so does what is named
pub record KeepsNames (old new : Search) : Type 0 where
  pub rows : KeepsRows (rows_in old) (rows_in new)
  pub named : (n : Node) → n.router.number < ROUTERS_MOST → is_named old n ≡ true → is_named new n ≡ true

-- more leads stand behind the others
pub record AddsLeads (before after : Leads) : Type 0 where
  pub home_added : List Lead
  pub away_added : List Lead
  pub home : after.home.items ≡ before.home.items ++ home_added
  pub away : after.away.items ≡ before.away.items ++ away_added

-- leads of routers that are within a lane, or leads of routers that are not
abbrev pub AreOn : (within : Bool) → (lane : Option ℕ) → Layout → List Lead → Type 0
AreOn within lane layout leads = (l : Lead) → Contains leads l → is_within layout lane l.node.router.number ≡ within

-- one lead stands behind the others, at home or away
pub record PushesLead (lane : Option ℕ) (layout : Layout) (lead : Lead) (before after : Leads) : Type 0 where
  pub adds : AddsLeads before after
  pub is : adds.home_added ++ adds.away_added ≡ lead ∷ []
  pub stays : lane ≡ None → adds.away_added ≡ []
  pub at_home : AreOn true lane layout adds.home_added
  pub elsewhere : AreOn false lane layout adds.away_added

abbrev pub added_by : {before after : Leads} → AddsLeads before after → List Lead
added_by a = a.home_added ++ a.away_added

-- some pairs are named now: those that were not are leads, none of them away where there is no lane, and no other pair changes
pub record Names (lane : Option ℕ) (layout : Layout) (nodes : List Node) (old new : Search) (before after : Leads) : Type 0 where
  pub fine : IsFine new
  pub rows : KeepsRows (rows_in old) (rows_in new)
  pub kept : (n : Node) → n.router.number < ROUTERS_MOST → is_named old n ≡ true → SameTold n old new
  pub all : (n : Node) → n.router.number < ROUTERS_MOST → Contains nodes n → is_named new n ≡ true
  pub leads : AddsLeads before after
  pub stays : lane ≡ None → leads.away_added ≡ []
  pub at_home : AreOn true lane layout leads.home_added
  pub elsewhere : AreOn false lane layout leads.away_added
  pub only : (n : Node) → n.router.number < ROUTERS_MOST → is_named new n ≡ true → (is_named old n ≡ true) ⊎ (Contains nodes n × IsAmong (added_by leads) n)
  pub each : AreLeads layout new (added_by leads)

-- what is found of one pair is told now, and no other pair changes
pub record Settles (n : Node) (hit : Bool) (origins : Option (List Sig)) (old new : Search) : Type 0 where
  pub fine : IsFine new
  pub rows : new.rows ≡ old.rows
  pub named : is_named new n ≡ true
  pub known : is_known new n ≡ hit
  pub found : found_in new n ≡ origins
  pub others : (m : Node) → m.router.number < ROUTERS_MOST → (n ≡ m) ⊎ SameTold m old new

-- a pair was asked: it is settled, and the pairs that were named by that are leads
pub record Asks (lane : Option ℕ) (net : Net) (layout : Layout) (inside : ℕ → Bool) (node : Node) (old new : Search) (before after : Leads) : Type 0 where
  pub fine : IsFine new
  pub rows : KeepsRows (rows_in old) (rows_in new)
  pub named : is_named new node ≡ true
  pub settled : IsSettled net inside new node
  pub kept : (n : Node) → n.router.number < ROUTERS_MOST → is_named old n ≡ true → (node ≡ n) ⊎ SameTold n old new
  pub leads : AddsLeads before after
  pub stays : lane ≡ None → leads.away_added ≡ []
  pub at_home : AreOn true lane layout leads.home_added
  pub elsewhere : AreOn false lane layout leads.away_added
  pub only : (n : Node) → n.router.number < ROUTERS_MOST → is_named new n ≡ true → (is_named old n ≡ true) ⊎ (IsHit net node × IsStep net node n × IsInside inside n × IsAmong (added_by leads) n)
  pub each : AreLeads layout new (added_by leads)

-- each of some routers with a signature
abbrev pub pair_with : Sig → RouterId → Node
pair_with sig router = record { router = router; sig = sig }

abbrev pub pairs_with : List RouterId → Sig → List Node
pairs_with routers sig = map (pair_with sig) routers

-- ---- what a step of a search promises

-- a search that began with some entries, all of them at home
abbrev pub HasBegun : (entries : List Node) → (home : List Lead) → Search → Type 0
HasBegun entries home s = (net : Net) (inside : ℕ → Bool) → IsUnderWay net inside entries s (nodes_of home)

-- each lead that is away was so before, or its router is not inside
abbrev pub LeadsOut : (inside : ℕ → Bool) → (before after : List Lead) → Type 0
LeadsOut inside before after = (l : Lead) → Contains after l → Contains before l ⊎ (inside l.node.router.number ≡ false)

-- each pair that is named was so before, or is inside, or is one of the leads that are away
abbrev pub NamesWithin : (inside : ℕ → Bool) → (old new : Search) → (away : List Lead) → Type 0
NamesWithin inside old new away =
    (n : Node) → n.router.number < ROUTERS_MOST → is_named new n ≡ true
    → (is_named old n ≡ true) ⊎ ((inside n.router.number ≡ true) ⊎ IsAmong away n)

-- a search goes on until no lead is at home: whatever entries it began with and what else waits, it is under way still
abbrev pub GoesOn : Net → (inside : ℕ → Bool) → (old new : Search) → (before after : Leads) → Type 0
GoesOn net inside old new before after =
    (entries rest : List Node) → IsUnderWay net inside entries old (nodes_of before.home.items ++ (nodes_of before.away.items ++ rest))
    → IsUnderWay net inside entries new (nodes_of after.away.items ++ rest)

-- each lead at home was so before, or is one of the pairs
abbrev pub HomeFrom : (nodes : List Node) → (before after : List Lead) → Type 0
HomeFrom nodes before after = (l : Lead) → Contains after l → Contains before l ⊎ Contains nodes l.node

-- each pair that is named was so before, or is one of the pairs
abbrev pub NamesThese : (nodes : List Node) → (old new : Search) → Type 0
NamesThese nodes old new =
    (n : Node) → n.router.number < ROUTERS_MOST → is_named new n ≡ true → (is_named old n ≡ true) ⊎ Contains nodes n

-- further entries of a search: with whatever entries it began and whatever waits, it is under way from all of them
abbrev pub Enters : Layout → (nodes : List Node) → (home : List Lead) → (old new : Search) → Type 0
Enters layout nodes home old new =
    (net : Net) (inside : ℕ → Bool) (entries waiting : List Node) → net.linked ≡ is_linked layout.links
    → IsUnderWay net inside entries old waiting → IsUnderWay net inside (entries ++ nodes) new (nodes_of home ++ waiting)
