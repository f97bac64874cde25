-- What a search takes up of another: all that the other tells of the routers of one region.
use Rattle.std.specs.Prelude.{◌≡◌, ◌⊎◌, ◌<◌, ◌+◌, ℕ, Bool, true, false, List, length}
use Rattle.std.specs.List.{Contains}
use Rattle.std.specs.Map.{keys_of}
use Rattle.spie_base.specs.declared.Sig.{Sig}
use Rattle.topology.specs.Layout.{Layout}
use Rattle.topology.specs.declared.limits.TheConstants.{ROUTERS_MOST}
use Rattle.reverse_flood.specs.declared.graphs.Node.{Node}
use Rattle.reverse_flood.specs.declared.cells.Cell.{Cell}
use Rattle.reverse_flood.specs.declared.cells.Cell.TheVariants.{Free, Waiting, Unseen, Alone, Changed}
use Rattle.reverse_flood.specs.declared.cells.Search.{Search}
use Rattle.reverse_flood.specs.Flood.{in_region}
use Rattle.reverse_flood.specs.Search.{cell_at, found_in, is_known, is_named, IsFine}

-- a cell, where the origins that are kept stand behind so many others
abbrev pub behind : ℕ → Cell → Cell
behind by Free = Free
behind by Waiting = Waiting
behind by Unseen = Unseen
behind by Alone = Alone
behind by (Changed place) = Changed (place + by)

-- two searches tell the same of a pair
pub record TellsSame (n : Node) (one other : Search) : Type 0 where
  pub named : is_named other n ≡ is_named one n
  pub known : is_known other n ≡ is_known one n
  pub found : found_in other n ≡ found_in one n

-- a pair's router exists, and lies in a region
pub record IsAt (layout : Layout) (region : ℕ) (n : Node) : Type 0 where
  pub exists : n.router.number < length layout.names
  pub here : in_region layout region n.router.number ≡ true

-- what another search tells of a pair is taken up, where its router lies in the region
pub record IsTakenUp (layout : Layout) (region : ℕ) (other old new : Search) (n : Node) : Type 0 where
  pub at : IsAt layout region n
  pub same : TellsSame n other new

-- what another search tells of a region's pairs is taken up, and of no other pair anything changes
pub record TakesUp (layout : Layout) (region : ℕ) (other old new : Search) : Type 0 where
  pub all : (n : Node) → IsAt layout region n → TellsSame n other new
  pub only : (n : Node) → n.router.number < ROUTERS_MOST → IsTakenUp layout region other old new n ⊎ TellsSame n old new

-- ---- cells

-- a pair itself, if its router lies in the region
abbrev pub is_here : Layout → (region : ℕ) → (node : Node) → Node → Type 0
is_here layout region node n = IsAt layout region n × (node ≡ n)

-- a pair of a region with a signature, or with the signature of one of some rows
abbrev pub has_sig : Layout → (region : ℕ) → Sig → Node → Type 0
has_sig layout region sig n = IsAt layout region n × (sig ≡ n.sig)

abbrev pub has_line : Layout → (region : ℕ) → List (Sig × ℕ) → Node → Type 0
has_line layout region lines n = IsAt layout region n × Contains (keys_of lines) n.sig

-- the cells of some pairs are those of another search, none of them outside the region, and no other cell changes
pub record Moves (by : ℕ) (some : Node → Type 0) (layout : Layout) (region : ℕ) (other old new : Search) : Type 0 where
  pub fine : IsFine new
  pub changed : new.changed ≡ old.changed
  pub all : (n : Node) → n.router.number < ROUTERS_MOST → some n → cell_at new n ≡ behind by (cell_at other n)
  pub only : (n : Node) → n.router.number < ROUTERS_MOST
      → (IsAt layout region n × (cell_at new n ≡ behind by (cell_at other n))) ⊎ (cell_at new n ≡ cell_at old n)
