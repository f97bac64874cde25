-- What is known of pairs while lines are judged. No public clause cites this module.
use Rattle.std.specs.Prelude.{ℕ, Bool, true, false, length, Option, ◌<◌, ◌↔◌, ◌⊎◌, ◌≡◌, List, slice_get, Some}
use Rattle.std.specs.BTreeMap.{get}
use Rattle.std.specs.List.{Contains}
use Rattle.topology.specs.declared.limits.TheConstants.{ROUTERS_MOST}
use Rattle.spie_base.specs.Order.{sig_cmp}
use Rattle.spie_base.specs.declared.Sig.{Sig}
use Rattle.reverse_flood.specs.Flood.{Net, IsStep, node_cmp}
use Rattle.evidence_check.specs.Judging.{IsAbove, IsAskedBy}
use Rattle.reverse_flood.specs.Rows.{cell_of, AreRows}
use Rattle.reverse_flood.specs.declared.graphs.Node.{Node}
use Rattle.reverse_flood.specs.declared.graphs.Edge.{Edge}
use Rattle.evidence_text.specs.declared.certificates.Named.{Named}
use Rattle.evidence_check.specs.declared.pairs.Cell.{Cell}
use Rattle.evidence_check.specs.declared.pairs.Cell.TheVariants as cell
use Rattle.evidence_check.specs.declared.pairs.Pairs.{Pairs}

abbrev pub rows_in : Pairs → Sig → Option ℕ
rows_in p = get sig_cmp p.rows

abbrev pub cell_at : Pairs → Node → Cell
cell_at p n = cell_of cell.Free (rows_in p) p.cells.items n

abbrev pub IsFine : Pairs → Type 0
IsFine p = AreRows (rows_in p) (length p.cells.items)

-- whether a line names it as a node, and whether it was asked and was not told
abbrev pub is_node_cell : Cell → Bool
is_node_cell cell.Node = true
is_node_cell _ = false

abbrev pub is_node : Pairs → Node → Bool
is_node p n = is_node_cell (cell_at p n)

-- these are the pairs that lines name as nodes
abbrev pub AreNoted : Pairs → List Node → Type 0
AreNoted p nodes = (n : Node) → n.router.number < ROUTERS_MOST → (is_node p n ≡ true) ↔ Contains nodes n

-- a step back between two of them
pub record IsWayIn (net : Net) (p : Pairs) (e : Edge) : Type 0 where
  pub down : is_node p e.down ≡ true
  pub up : is_node p e.up ≡ true
  pub step : IsStep net e.down e.up

-- ---- pairs that are asked

abbrev pub is_asked_cell : Cell → Bool
is_asked_cell cell.Asked = true
is_asked_cell cell.Told = true
is_asked_cell _ = false

abbrev pub is_asked : Pairs → Node → Bool
is_asked p n = is_asked_cell (cell_at p n)

abbrev pub is_told_cell : Cell → Bool
is_told_cell cell.Told = true
is_told_cell _ = false

-- whether a line tells it as unknown or clear
abbrev pub is_told : Pairs → Node → Bool
is_told p n = is_told_cell (cell_at p n)

-- of pairs that are no nodes it is known which were asked
abbrev pub AreAsked : Net → (start : Node) → (nodes : List Node) → Pairs → Type 0
AreAsked net start nodes p = (n : Node) → n.router.number < ROUTERS_MOST → is_node p n ≡ false → (is_asked p n ≡ true) ↔ IsAskedBy net start nodes n

-- nodes are hit
abbrev pub AreHit : Net → Pairs → Type 0
AreHit net p = (n : Node) → n.router.number < ROUTERS_MOST → is_node p n ≡ true → net.hit n ≡ true

-- asked and no hit, at a router that misses pages, or that misses none
pub record IsLeftIn (net : Net) (p : Pairs) (misses : Bool) (n : Node) : Type 0 where
  pub unseen : net.hit n ≡ false
  pub missing : net.missing n.router.number ≡ misses
  pub asked : is_asked p n ≡ true

pub record LeftHoldsIn (net : Net) (p : Pairs) (misses : Bool) (left : List Node) (place : ℕ) (n : Node) : Type 0 where
  pub above : IsAbove node_cmp left place n
  pub is : IsLeftIn net p misses n

abbrev pub LeftAtIn : Net → Pairs → (misses : Bool) → List Node → (place : ℕ) → Type 0
LeftAtIn net p misses left place = (n : Node) → slice_get left place ≡ Some n → LeftHoldsIn net p misses left place n

-- these were told besides, and nothing else changes
pub record Tells (left : List Node) (old new : Pairs) : Type 0 where
  pub nodes : (n : Node) → n.router.number < ROUTERS_MOST → is_node new n ≡ is_node old n
  pub asked : (n : Node) → n.router.number < ROUTERS_MOST → is_asked new n ≡ is_asked old n
  pub told : (n : Node) → n.router.number < ROUTERS_MOST → (is_told new n ≡ true) ↔ ((is_told old n ≡ true) ⊎ Contains left n)

-- ---- pairs are asked

abbrev pub is_free_cell : Cell → Bool
is_free_cell cell.Free = true
is_free_cell _ = false

abbrev pub is_free : Pairs → Node → Bool
is_free p n = is_free_cell (cell_at p n)

-- none was asked
abbrev pub IsFresh : Pairs → Type 0
IsFresh p = (n : Node) → n.router.number < ROUTERS_MOST → is_asked p n ≡ false

-- those that are no nodes and of which P holds were asked besides, and nothing else changes
pub record Asks (P : Node → Type 0) (old new : Pairs) : Type 0 where
  pub nodes : (n : Node) → n.router.number < ROUTERS_MOST → is_node new n ≡ is_node old n
  pub told : (n : Node) → n.router.number < ROUTERS_MOST → is_told new n ≡ is_told old n
  pub asked : (n : Node) → n.router.number < ROUTERS_MOST → is_node old n ≡ false → (is_asked new n ≡ true) ↔ ((is_asked old n ≡ true) ⊎ P n)

-- the nodes were noted, and then the pairs that are asked
pub record IsMarked (net : Net) (start : Node) (nodes : List Node) (p : Pairs) : Type 0 where
  pub named : Pairs
  pub fresh : IsFresh named
  pub noted : AreNoted named nodes
  pub asks : Asks (IsAskedBy net start nodes) named p

-- ---- pairs that stand in a line

abbrev pub is_listed_cell : Cell → Bool
is_listed_cell cell.Node = true
is_listed_cell cell.Told = true
is_listed_cell _ = false

abbrev pub is_listed : Pairs → Node → Bool
is_listed p n = is_listed_cell (cell_at p n)

-- each pair of which P holds stands in a line
abbrev pub AreListed : Pairs → (Node → Type 0) → Type 0
AreListed p P = (n : Node) → P n → is_listed p n ≡ true

-- where the nodes were noted, then the asked pairs, and then the unknown and the clear ones were told, a pair is listed
-- exactly where it stands in one of the lists
pub record AreKept (net : Net) (start : Node) (nodes unknown clear : List Node) (p : Pairs) : Type 0 where
  pub named : Pairs
  pub marked : Pairs
  pub first : Pairs
  pub fresh : IsFresh named
  pub noted : AreNoted named nodes
  pub asks : Asks (IsAskedBy net start nodes) named marked
  pub unknown_told : Tells unknown marked first
  pub clear_told : Tells clear first p

abbrev pub IsAmongThem : (nodes unknown clear : List Node) → Node → Type 0
IsAmongThem nodes unknown clear n = Contains nodes n ⊎ (Contains unknown n ⊎ Contains clear n)

-- ---- steps that have an edge line

-- if it leads to a node
abbrev pub HasWay : Pairs → List Edge → (down up : Node) → Type 0
HasWay p edges down up = is_node p up ≡ true → Contains edges (record { down = down; up = up })

-- all of which P holds
abbrev pub HaveWays : Pairs → List Edge → (down : Node) → (Node → Type 0) → Type 0
HaveWays p edges down P = (n : Node) → P n → HasWay p edges down n

-- all steps from the node at a place
abbrev pub WaysAt : Net → Pairs → List Edge → List Named → (place : ℕ) → Type 0
WaysAt net p edges nodes place = (x : Named) → slice_get nodes place ≡ Some x → HaveWays p edges x.node (IsStep net x.node)

-- ---- the end

-- pairs that are asked, and nodes, have routers that exist
abbrev pub AreFew : Net → (start : Node) → (nodes : List Node) → Type 0
AreFew net start nodes = (n : Node) → (IsAskedBy net start nodes n ⊎ Contains nodes n) → n.router.number < ROUTERS_MOST
