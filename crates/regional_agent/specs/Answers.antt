-- What a region may be asked, and what it answers.
use Rattle.std.specs.Prelude.{◌≡◌, ◌<◌, ℕ, List, length, slice_index}
use Rattle.std.specs.List.{Contains}
use Rattle.topology.specs.Layout.{Layout}
use Rattle.reverse_flood.specs.declared.graphs.Node.{Node}
use Rattle.reverse_flood.specs.Flood.{Net, in_region, IsPart}
use Rattle.regional_agent.specs.declared.answers.RegionAnswer.{RegionAnswer}

-- a pair's router exists, and lies in a region
pub record IsHome (layout : Layout) (region : ℕ) (n : Node) : Type 0 where
  pub exists : n.router.number < length layout.names
  pub here : slice_index layout.regions n.router.number ≡ region

abbrev pub AreHome : Layout → (region : ℕ) → List Node → Type 0
AreHome layout region entries = (n : Node) → Contains entries n → IsHome layout region n

-- the flood from the entries that were asked, within the region that was asked
abbrev pub IsAnswer : Net → Layout → RegionAnswer → Type 0
IsAnswer net layout a = IsPart net (in_region layout a.region) a.entries a.part
