-- A search: which pairs are named, and what was found of them.
use Rattle.std.specs.Prelude.{◌≡◌, ◌⊎◌, ◌<◌, ℕ, Bool, true, false, List, [], ◌∷◌, length, Option, Some, None, slice_get, if◌then◌else◌}
use Rattle.std.specs.BTreeMap.{get}
use Rattle.std.specs.List.{Contains}
use Rattle.std.specs.List.Sorted.{IsStrictlySortedBy}
use Rattle.spie_base.specs.Order.{sig_cmp}
use Rattle.spie_base.specs.declared.Sig.{Sig}
use Rattle.topology.specs.Layout.{Layout}
use Rattle.topology.specs.declared.limits.TheConstants.{ROUTERS_MOST}
use Rattle.reverse_flood.specs.declared.graphs.Node.{Node}
use Rattle.reverse_flood.specs.declared.graphs.Graph.{Graph}
use Rattle.reverse_flood.specs.declared.graphs.Part.{Part}
use Rattle.reverse_flood.specs.declared.cells.Cell.{Cell}
use Rattle.reverse_flood.specs.declared.cells.Cell.TheVariants.{Free, Waiting, Unseen, Alone, Changed}
use Rattle.reverse_flood.specs.declared.cells.Search.{Search}
use Rattle.reverse_flood.specs.Flood.{Net, IsHit, IsInside, IsStep, IsAsked, IsFlood, IsPart, everywhere}
use Rattle.reverse_flood.specs.Rows.{cell_of, AreRows}

-- ---- what a cell tells

abbrev pub is_taken : Cell → Bool
is_taken Free = false
is_taken Waiting = true
is_taken Unseen = true
is_taken Alone = true
is_taken (Changed place) = true

abbrev pub is_hit_cell : Cell → Bool
is_hit_cell Free = false
is_hit_cell Waiting = false
is_hit_cell Unseen = false
is_hit_cell Alone = true
is_hit_cell (Changed place) = true

-- the origins of a pair that is hit: its own signature alone, or those at a place
abbrev pub origins_by : List (List Sig) → Sig → Cell → Option (List Sig)
origins_by changed sig Free = None
origins_by changed sig Waiting = None
origins_by changed sig Unseen = None
origins_by changed sig Alone = Some (sig ∷ [])
origins_by changed sig (Changed place) = slice_get changed place

-- ---- what a search tells of a pair

abbrev pub rows_in : Search → Sig → Option ℕ
rows_in s = get sig_cmp s.rows

abbrev pub cell_at : Search → Node → Cell
cell_at s n = cell_of Free (rows_in s) s.cells.items n

-- whether it is named, whether it was found as a hit, and with which origins
abbrev pub is_named : Search → Node → Bool
is_named s n = is_taken (cell_at s n)

abbrev pub is_known : Search → Node → Bool
is_known s n = is_hit_cell (cell_at s n)

abbrev pub found_in : Search → Node → Option (List Sig)
found_in s n = origins_by s.changed.items n.sig (cell_at s n)

-- rows lie apart, places of origins exist, and origins ascend
pub record IsFine (s : Search) : Type 0 where
  pub rows : AreRows (rows_in s) (length s.cells.items)
  pub places : (n : Node) (place : ℕ) → n.router.number < ROUTERS_MOST → cell_at s n ≡ Changed place → place < length s.changed.items
  pub ascend : (origins : List Sig) → Contains s.changed.items origins → IsStrictlySortedBy sig_cmp origins

-- ---- how far a search has come

-- the origins of a pair that is hit
abbrev pub origins_if_hit : Net → Node → Option (List Sig)
origins_if_hit net n = if net.hit n then Some (net.origins n) else None

-- it is known whether a pair is hit, and with which origins; the pairs one step back from it are named
pub record IsSettled (net : Net) (inside : ℕ → Bool) (s : Search) (n : Node) : Type 0 where
  pub found : found_in s n ≡ origins_if_hit net n
  pub known : is_known s n ≡ net.hit n
  pub steps : (m : Node) → IsHit net n → IsStep net n m → IsInside inside m → is_named s m ≡ true

-- the entries are named, each named pair is asked by the flood, and those that don't wait are settled
pub record IsUnderWay (net : Net) (inside : ℕ → Bool) (entries : List Node) (s : Search) (waiting : List Node) : Type 0 where
  pub sound : (n : Node) → n.router.number < ROUTERS_MOST → is_named s n ≡ true → IsAsked net inside entries n
  pub entered : (n : Node) → n.router.number < ROUTERS_MOST → Contains entries n → is_named s n ≡ true
  pub settled : (n : Node) → n.router.number < ROUTERS_MOST → is_named s n ≡ true → Contains waiting n ⊎ IsSettled net inside s n

-- ---- what a search tells at its end

-- where no pair waits, the part is that of the entries, if these exist
abbrev pub IsPartOf : Net → Layout → (inside : ℕ → Bool) → Search → Part → Type 0
IsPartOf net layout inside s part =
    (entries : List Node) → ((n : Node) → Contains entries n → n.router.number < length layout.names)
    → IsUnderWay net inside entries s [] → IsPart net inside entries part

-- where no pair waits and there was one entry, the graph is the flood from it
abbrev pub IsGraphOf : Net → Layout → Search → Graph → Type 0
IsGraphOf net layout s graph =
    (start : Node) → start.router.number < length layout.names → IsUnderWay net everywhere (start ∷ []) s [] → IsFlood net start graph
