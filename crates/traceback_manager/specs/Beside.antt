-- A round in which all regions are asked at once. No public clause cites this module.
use Rattle.std.specs.Prelude.{◌≡◌, ◌⊎◌, ◌<◌, ℕ, Bool, true, false, List, [], ◌∷◌, ◌++◌, length, slice_index, slice_index_or}
use Rattle.topology.specs.Layout.{Layout}
use Rattle.topology.specs.declared.limits.TheConstants.{ROUTERS_MOST}
use Rattle.reverse_flood.specs.declared.graphs.Node.{Node}
use Rattle.reverse_flood.specs.declared.cells.Search.{Search}
use Rattle.std.specs.List.{Contains}
use Rattle.reverse_flood.specs.Flood.{Net, everywhere, in_region, IsAsked}
use Rattle.reverse_flood.specs.Leads.{nodes_of}
use Rattle.reverse_flood.specs.Search.{is_named, IsFine, IsUnderWay}
use Rattle.reverse_flood.specs.Unions.{IsAt, TellsSame}
use Rattle.regional_agent.specs.Desks.{lying, HasServed, IsBlank, IsReady}
use Rattle.regional_agent.specs.declared.desks.Desk.{Desk}
use Rattle.traceback_manager.specs.declared.beside.Seat.{Seat}

-- the pairs of other regions that a region named in the last round
abbrev pub away_of : Seat → List Node
away_of seat = nodes_of seat.desk.leads.away.items

abbrev pub IsReadySeat : Seat → Type 0
IsReadySeat seat = IsReady seat.desk

-- all pairs lie in one region
abbrev pub AreTogether : Layout → List Node → Type 0
AreTogether layout nodes = (a b : Node) → Contains nodes a → Contains nodes b → slice_index layout.regions a.router.number ≡ slice_index layout.regions b.router.number

-- it was asked for a round, or memory was refused to it
abbrev pub HasAnswered : Net → Layout → (round : List Node) → (before after : Seat) → Type 0
HasAnswered net layout round before after = after.short ≡ false → HasServed net layout round before.desk after.desk

pub record AreReady (seats : List Seat) : Type 0 where
  pub each : (r : ℕ) (d : Seat) → r < length seats → IsReadySeat (slice_index_or seats r d)

pub record HaveAnswered (net : Net) (layout : Layout) (round : List Node) (before after : List Seat) : Type 0 where
  pub many : length after ≡ length before
  pub each : (r : ℕ) (d : Seat) → r < length before → HasAnswered net layout round (slice_index_or before r d) (slice_index_or after r d)

-- memory was refused to none
pub record NoneShort (seats : List Seat) : Type 0 where
  pub each : (r : ℕ) (d : Seat) → r < length seats → (slice_index_or seats r d).short ≡ false

-- one for each region, in order, of which none was asked yet
pub record AreBlank (layout : Layout) (seats : List Seat) : Type 0 where
  pub many : length seats ≡ length layout.region_names
  pub regions : (r : ℕ) (d : Seat) → r < length seats → (slice_index_or seats r d).desk.region ≡ r
  pub blank : (r : ℕ) (d : Seat) → r < length seats → IsBlank (slice_index_or seats r d).desk

-- the seat of a region
pub record IsOwn (region : ℕ) (seat : Seat) : Type 0 where
  pub region_is : seat.desk.region ≡ region
  pub fine : IsFine seat.desk.search

-- a search tells of each region's pairs what that region's own search tells, and names no other pair
pub record AreUnited (layout : Layout) (seats : List Seat) (all : Search) : Type 0 where
  pub each : (r : ℕ) (d : Seat) → r < length seats → (n : Node) → IsAt layout r n → TellsSame n (slice_index_or seats r d).desk.search all
  pub only : (n : Node) → n.router.number < ROUTERS_MOST → is_named all n ≡ true
      → (n.router.number < length layout.names) × (slice_index layout.regions n.router.number < length seats)

-- ---- how far the rounds have come

-- a region was asked for its pairs of the rounds that are done: what it names beside its own pairs are pairs of these
-- rounds or of the one that comes, and its own pairs are settled
pub record IsServed (net : Net) (layout : Layout) (region : ℕ) (done coming : List Node) (desk : Desk) : Type 0 where
  pub region_is : desk.region ≡ region
  pub ready : IsReady desk
  pub waiting : List Node
  pub under_way : IsUnderWay net everywhere (lying layout region done) desk.search waiting
  pub outside : (n : Node) → Contains waiting n → in_region layout region n.router.number ≡ false
  pub led : (n : Node) → n.router.number < ROUTERS_MOST → is_named desk.search n ≡ true
      → (in_region layout region n.router.number ≡ true) ⊎ Contains (done ++ coming) n

-- all regions were asked, and all pairs of all rounds are asked by the flood from the start
pub record IsRound (net : Net) (layout : Layout) (start : Node) (seats : List Seat) (coming : List Node) : Type 0 where
  pub done : List Node
  pub many : length seats ≡ length layout.region_names
  pub each : (r : ℕ) (d : Seat) → r < length seats → IsServed net layout r done coming (slice_index_or seats r d).desk
  pub asked : (n : Node) → Contains (done ++ coming) n → IsAsked net everywhere (start ∷ []) n
  pub exist : (n : Node) → Contains (done ++ coming) n → n.router.number < length layout.names
  pub start_is : Contains (done ++ coming) start

-- no round comes
abbrev pub AreAllAsked : Net → Layout → (start : Node) → List Seat → Type 0
AreAllAsked net layout start seats = IsRound net layout start seats []
