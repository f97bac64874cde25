-- Which lines of an answer hold. One that doesn't hold fails.
--
-- A line is judged by the lines before it and by what the pages show, and never by a search: a node by the earlier node
-- that it names, an edge by its two ends, and the end by the steps from the nodes.
use Rattle.std.specs.Prelude.{ℕ, zero, suc, ◌+◌, ◌<◌, ◌≡◌, ◌⊎◌, List, [], ◌∷◌, Bool, true, false, length, map, take, slice_get}
use Rattle.std.specs.declared.option.Option.{Option}
use Rattle.std.specs.declared.option.Option.TheVariants.{None, Some}
use Rattle.std.specs.declared.cmp.Ordering.{Ordering}
use Rattle.std.specs.declared.cmp.Ordering.TheVariants.{Less}
use Rattle.std.specs.List.{Contains}
use Rattle.reverse_flood.specs.Flood.{Net, IsHit, IsStep, edge_cmp, node_cmp}
use Rattle.reverse_flood.specs.declared.graphs.Node.{Node}
use Rattle.reverse_flood.specs.declared.graphs.Edge.{Edge}
use Rattle.evidence_text.specs.declared.certificates.Named.{Named}
use Rattle.evidence_text.specs.declared.certificates.Certificate.{Certificate}
use Rattle.evidence_text.specs.Judgeable.{lines_before}

abbrev pub named_node : Named → Node
named_node x = x.node

abbrev pub named_nodes : Certificate → List Node
named_nodes c = map named_node c.nodes

-- ---- one line

-- one step back from the node at a place
abbrev pub IsFrom : Net → (before : List Node) → Node → Option ℕ → Type 0
IsFrom net before n None = ⊥
IsFrom net before n (Some place) = (earlier : Node) × (slice_get before place ≡ Some earlier) × IsStep net earlier n

-- the first node is the start, and each other one is a step back from an earlier node
abbrev pub IsLed : Net → (start : Node) → (before : List Node) → Named → Type 0
IsLed net start [] x = (x.node ≡ start) × (x.from ≡ None)
IsLed net start (first ∷ more) x = IsFrom net (first ∷ more) x.node x.from

pub record NodeHolds (net : Net) (start : Node) (before : List Node) (x : Named) : Type 0 where
  pub once : Contains before x.node → ⊥
  pub hit : IsHit net x.node
  pub led : IsLed net start before x

-- greater than the item at the place before
abbrev pub IsAbove : {X : Type 0} → (X → X → Ordering) → List X → (place : ℕ) → X → Type 0
IsAbove cmp xs zero x = Unit {0}
IsAbove {X} cmp xs (suc place) x = (before : X) → slice_get xs place ≡ Some before → cmp before x ≡ Less

pub record EdgeHolds (net : Net) (nodes : List Node) (edges : List Edge) (place : ℕ) (e : Edge) : Type 0 where
  pub above : IsAbove edge_cmp edges place e
  pub down : Contains nodes e.down
  pub up : Contains nodes e.up
  pub step : IsStep net e.down e.up

-- one step back from a node
pub record IsReached (net : Net) (nodes : List Node) (n : Node) : Type 0 where
  pub from : Node
  pub node : Contains nodes from
  pub step : IsStep net from n

-- the start, or one step back from a node
abbrev pub IsAskedBy : Net → (start : Node) → (nodes : List Node) → Node → Type 0
IsAskedBy net start nodes n = (start ≡ n) ⊎ IsReached net nodes n

-- a pair that is asked and no hit, at a router that misses pages, or that misses none
pub record LeftHolds (net : Net) (start : Node) (nodes : List Node) (misses : Bool) (left : List Node) (place : ℕ) (n : Node) : Type 0 where
  pub above : IsAbove node_cmp left place n
  pub unseen : net.hit n ≡ false
  pub missing : net.missing n.router.number ≡ misses
  pub asked : IsAskedBy net start nodes n

-- nothing is left out
pub record EndHolds (net : Net) (c : Certificate) : Type 0 where
  pub told : (n : Node) → IsAskedBy net c.start (named_nodes c) n → Contains (named_nodes c) n ⊎ (Contains c.unknown n ⊎ Contains c.clear n)
  pub edges : (e : Edge) → Contains (named_nodes c) e.down → Contains (named_nodes c) e.up → IsStep net e.down e.up → Contains c.edges e

-- ---- all lines

-- the lines of an answer
pub data Place : Type 0 where
  AtNode : (place : ℕ) → Place
  AtEdge : (place : ℕ) → Place
  AtUnknown : (place : ℕ) → Place
  AtClear : (place : ℕ) → Place
  AtEnd : Place

abbrev pub NodeAt : Net → (start : Node) → List Named → (place : ℕ) → Type 0
NodeAt net start nodes place = (x : Named) → slice_get nodes place ≡ Some x → NodeHolds net start (take place (map named_node nodes)) x

abbrev pub EdgeAt : Net → (nodes : List Node) → List Edge → (place : ℕ) → Type 0
EdgeAt net nodes edges place = (e : Edge) → slice_get edges place ≡ Some e → EdgeHolds net nodes edges place e

abbrev pub LeftAt : Net → (start : Node) → (nodes : List Node) → (misses : Bool) → List Node → (place : ℕ) → Type 0
LeftAt net start nodes misses left place = (n : Node) → slice_get left place ≡ Some n → LeftHolds net start nodes misses left place n

abbrev pub Holds : Net → Certificate → Place → Type 0
Holds net c (AtNode place) = NodeAt net c.start c.nodes place
Holds net c (AtEdge place) = EdgeAt net (named_nodes c) c.edges place
Holds net c (AtUnknown place) = LeftAt net c.start (named_nodes c) true c.unknown place
Holds net c (AtClear place) = LeftAt net c.start (named_nodes c) false c.clear place
Holds net c AtEnd = EndHolds net c

abbrev pub AllHold : Net → Certificate → Type 0
AllHold net c = (place : Place) → Holds net c place

-- ---- their numbers

-- the line's number, counted from 1
abbrev pub line_number : Certificate → Place → ℕ
line_number c (AtNode place) = lines_before c + place + 1
line_number c (AtEdge place) = lines_before c + length c.nodes + place + 1
line_number c (AtUnknown place) = lines_before c + length c.nodes + length c.edges + place + 1
line_number c (AtClear place) = lines_before c + length c.nodes + length c.edges + length c.unknown + place + 1
line_number c AtEnd = lines_before c + length c.nodes + length c.edges + length c.unknown + length c.clear + 1

-- the line with this number is the first that fails
pub record FailsFirst (net : Net) (c : Certificate) (line : ℕ) : Type 0 where
  pub place : Place
  pub fails : Holds net c place → ⊥
  pub before : (other : Place) → line_number c other < line_number c place → Holds net c other
  pub line_is : line ≡ line_number c place
