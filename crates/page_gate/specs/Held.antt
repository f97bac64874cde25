-- Planes and those who act on them, as contracts see them.
use Rattle.std.specs.Prelude.{ℕ, ◌+◌, ◌-◌, List, [], ◌∷◌, ◌++◌}
use Rattle.atomic_table.specs.Seated.{TableId}
use Rattle.spie_base.specs.declared.PageShape.{PageShape}
use Rattle.spie_base.specs.declared.types.Entry.{Entry}
use Rattle.gate_core.specs.declared.view.View.{View}
use Rattle.gate_core.specs.Invariant.{IsAlone}
use Rattle.gate_core.specs.declared.view.Visit.{Visit}
use Rattle.gate_core.specs.declared.states.SlotPhase.TheVariants.{Sealed}
use Rattle.gate_core.specs.Acts.{open_slot, in_phase, dealt_view}
use Rattle.spie_base.specs.declared.PageNo.{PageNo}
use Rattle.spie_base.specs.declared.Sig.{Sig}

-- what tells one plane from another
abbrev pub Home : Type 0
Home = TableId

-- which plane it is, and its shape
pub record PlaneId : Type 0 where
  pub table : Home
  pub shape : PageShape

-- the plane to which a keeper belongs, and what it knows
pub record Held : Type 0 where
  pub table : Home
  pub view : View

-- the plane to which a pass belongs, the floor of its pages, its records in order, and its visits of sealed gates
pub record PassHeld : Type 0 where
  pub table : Home
  pub floor : ℕ
  pub entries : List Entry
  pub visits : List Visit

abbrev pub held_of : Home → View → PassHeld
held_of table v = record { table = table; floor = v.floor; entries = v.entries; visits = v.visits }

-- a new pass of a keeper
abbrev pub dealt_held : Held → PassHeld
dealt_held keeper = held_of keeper.table (dealt_view keeper.view)

-- a keeper that takes in these entries of a pass
abbrev pub gathered_held : Held → List Entry → Held
gathered_held keeper es = record keeper { view = record keeper.view { entries = keeper.view.entries ++ es; duties = record keeper.view.duties { out = keeper.view.duties.out - 1 } } }

-- a keeper that has dealt so many passes more
abbrev pub dealer_held : Held → (passes : ℕ) → Held
dealer_held keeper n = let d = keeper.view.duties in record keeper { view = record keeper.view { duties = record d { dealt = d.dealt + n; out = d.out + n } } }

-- a keeper that takes in all of these passes, in order
abbrev pub gathered_all : Held → List PassHeld → Held
gathered_all keeper [] = keeper
gathered_all keeper (p ∷ ps) = gathered_all (gathered_held keeper p.entries) ps

-- a keeper that has an entry more of its own
abbrev pub recorded_held : Held → PageNo → Sig → Held
recorded_held keeper page sig = record keeper { view = record keeper.view { entries = keeper.view.entries ++ record { page = page; sig = sig } ∷ [] } }

-- a keeper that has sealed the open slot
abbrev pub sealed_held : Held → Held
sealed_held keeper = let d = keeper.view.duties in record keeper { view = record keeper.view { duties = in_phase d (open_slot d) Sealed } }

-- at some moment no pass was out, nobody was inside a gate, and the bits of every page were exactly the marks of the entries of this view
abbrev pub WasAlone : PageShape → View → Type 0
WasAlone shape v = (words : List ℕ) × IsAlone shape words v
