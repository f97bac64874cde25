-- What is told of the pairs that a search named, as it is walked router by router and signature by signature.
use Rattle.std.specs.Prelude.{◌≡◌, ◌&&◌, ℕ, zero, suc, Bool, true, false, List, [], ◌++◌, map, filter}
use Rattle.std.specs.declared.cmp.Ordering.{Ordering}
use Rattle.spie_base.specs.Order.{sig_cmp}
use Rattle.spie_base.specs.declared.Sig.{Sig}
use Rattle.spie_base.specs.declared.RouterId.{RouterId}
use Rattle.topology.specs.Layout.{Layout}
use Rattle.reverse_flood.specs.declared.graphs.Node.{Node}
use Rattle.reverse_flood.specs.declared.graphs.Edge.{Edge}
use Rattle.reverse_flood.specs.declared.cells.Search.{Search}
use Rattle.reverse_flood.specs.declared.tells.Told.{Told}
use Rattle.reverse_flood.specs.Flood.{Net, IsListOf, edge_cmp}
use Rattle.reverse_flood.specs.Found.{AddsWays, IsWay, found_net, is_inner, is_outer, is_unseen}
use Rattle.reverse_flood.specs.Search.{found_in, is_known, is_named}

-- signatures with their rows, in the order of the signatures
abbrev pub line_cmp : Sig × ℕ → Sig × ℕ → Ordering
line_cmp a b = sig_cmp a.0 b.0

-- a router's pairs with signatures, and those of the routers below a number
abbrev pub pairs_of : List (Sig × ℕ) → RouterId → List Node
pairs_of lines router = map (λ (l : Sig × ℕ). let n : Node = record { router = router; sig = l.0 } in n) lines

abbrev pub pairs_below : List (Sig × ℕ) → ℕ → List Node
pairs_below lines zero = []
pairs_below lines (suc number) = pairs_below lines number ++ pairs_of lines (record { number = number })

-- whether a pair is named and was not found, at a router that misses pages, or that misses none
abbrev pub is_left : Search → (ℕ → Bool) → Bool → Node → Bool
is_left s missing wanted n = is_named s n && is_unseen (is_known s) missing wanted n

-- what is told of the pairs that were walked
pub record IsTold (s : Search) (layout : Layout) (inside : ℕ → Bool) (missing : ℕ → Bool) (walked : List Node) (told : Told) : Type 0 where
  pub nodes : told.nodes.items ≡ filter (is_known s) walked
  pub unknown : told.unknown.items ≡ filter (is_left s missing true) walked
  pub clear : told.clear.items ≡ filter (is_left s missing false) walked
  pub inner : IsListOf edge_cmp (IsWay (found_net (found_in s) layout) (is_inner inside (is_known s)) (filter (is_known s) walked)) told.ways.inner.items
  pub outer : IsListOf edge_cmp (IsWay (found_net (found_in s) layout) (is_outer inside) (filter (is_known s) walked)) told.ways.outer.items

-- the steps from one more pair stand behind the others, if it was found
pub record AddsWaysIf (known : Bool) (net : Net) (test : Node → Bool) (node : Node) (before after : List Edge) : Type 0 where
  pub found : known ≡ true → AddsWays net test node before after
  pub none : known ≡ false → after ≡ before
