-- The first line that fails. No public clause cites this module.
use Rattle.std.specs.Prelude.{ℕ, ◌<◌, List}
use Rattle.std.specs.List.{Contains}
use Rattle.std.specs.declared.option.Option.{Option}
use Rattle.std.specs.declared.option.Option.TheVariants.{None, Some}
use Rattle.reverse_flood.specs.declared.graphs.Node.{Node}
use Rattle.reverse_flood.specs.declared.graphs.Edge.{Edge}
use Rattle.evidence_text.specs.declared.certificates.Named.{Named}

-- all of so many lines hold, or this one is the first that fails
abbrev pub IsFirstBad : (count : ℕ) → (Holds : ℕ → Type 0) → Option ℕ → Type 0
IsFirstBad count Holds None = (place : ℕ) → Holds place
IsFirstBad count Holds (Some bad) = (bad < count) × ((place : ℕ) → place < bad → Holds place) × (Holds bad → ⊥)

-- the routers of these pairs exist
abbrev pub Exist : ℕ → List Node → Type 0
Exist routers nodes = (n : Node) → Contains nodes n → n.router.number < routers

abbrev pub ExistNamed : ℕ → List Named → Type 0
ExistNamed routers nodes = (x : Named) → Contains nodes x → x.node.router.number < routers

pub record ExistEnds (routers : ℕ) (edges : List Edge) : Type 0 where
  pub down : (e : Edge) → Contains edges e → e.down.router.number < routers
  pub up : (e : Edge) → Contains edges e → e.up.router.number < routers
