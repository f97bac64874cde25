-- Rows of cells, one row for each signature and in it one cell for each router.
use Rattle.std.specs.Prelude.{◌≡◌, ℕ, ◌+◌, ◌≤◌, ◌⊎◌, ◌==◌, ◌&&◌, Bool, List, Option, None, Some, slice_index_or}
use Rattle.std.specs.Str.{bytes_eq}
use Rattle.spie_base.specs.declared.Sig.{Sig}
use Rattle.topology.specs.declared.limits.TheConstants.{ROUTERS_MOST}
use Rattle.reverse_flood.specs.declared.graphs.Node.{Node}

-- what `==` says of two pairs
abbrev pub node_eq : Node → Node → Bool
node_eq a b = (a.router.number == b.router.number) && bytes_eq a.sig.bytes b.sig.bytes

-- the cell of a router in a row, and a blank where there is no row
abbrev pub cell_in : {X : Type 0} → (blank : X) → List X → ℕ → Option ℕ → X
cell_in blank cells router None = blank
cell_in blank cells router (Some row) = slice_index_or cells (row + router) blank

-- the cell of a pair
abbrev pub cell_of : {X : Type 0} → (blank : X) → (Sig → Option ℕ) → List X → Node → X
cell_of blank rows cells n = cell_in blank cells n.router.number (rows n.sig)

-- rows of a cell for each router, each of one signature
pub record AreRows (rows : Sig → Option ℕ) (size : ℕ) : Type 0 where
  pub fit : (s : Sig) (row : ℕ) → rows s ≡ Some row → row + ROUTERS_MOST ≤ size
  pub apart : (s t : Sig) (j k : ℕ) → rows s ≡ Some j → rows t ≡ Some k → (s ≡ t) ⊎ ((j + ROUTERS_MOST ≤ k) ⊎ (k + ROUTERS_MOST ≤ j))

-- a signature that has a row keeps it
abbrev pub KeepsRows : (before after : Sig → Option ℕ) → Type 0
KeepsRows before after = (s : Sig) (row : ℕ) → before s ≡ Some row → after s ≡ Some row
