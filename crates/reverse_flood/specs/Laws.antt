-- What the definition of a flood implies.
use Rattle.std.specs.Prelude.{◌≡◌, ℕ, Bool, List}
use Rattle.reverse_flood.specs.declared.graphs.Node.{Node}
use Rattle.reverse_flood.specs.declared.graphs.Graph.{Graph}
use Rattle.reverse_flood.specs.declared.graphs.Part.{Part}
use Rattle.reverse_flood.specs.Flood.{Net, IsFlood, IsPart}

-- a net has one flood from a pair
abbrev pub FloodIsOne : Type 0
FloodIsOne = (net : Net) (start : Node) (first second : Graph) → IsFlood net start first → IsFlood net start second → first ≡ second

-- and one from some entries, that stays within some routers
abbrev pub PartIsOne : Type 0
PartIsOne = (net : Net) (inside : ℕ → Bool) (entries : List Node) (first second : Part) → IsPart net inside entries first → IsPart net inside entries second → first ≡ second
