-- What an actor knows: where it is in a record, what it recorded, and, for the keeper, all that it did with the slots.
use Rattle.std.specs.Prelude.{ℕ, true, false, List, [], ◌∷◌, slice_index_or}
use Rattle.gate_core.specs.declared.states.PassState.TheVariants.{Idle}
use Rattle.gate_core.specs.declared.states.SlotPhase.TheVariants.{Free, Open}
pub use Rattle.gate_core.specs.declared.view.Visit.{Visit}
pub use Rattle.gate_core.specs.declared.view.Probed.{Probed}
pub use Rattle.gate_core.specs.declared.view.Slot.{Slot}
pub use Rattle.gate_core.specs.declared.view.Role.{Role}
pub use Rattle.gate_core.specs.declared.view.Role.TheVariants.{Spent, Pass, Keeper}
pub use Rattle.gate_core.specs.declared.view.Duties.{Duties}
pub use Rattle.gate_core.specs.declared.view.View.{View}

-- ---- views that know nothing

-- a slot in which no page was ever opened
abbrev pub no_slot : Slot
no_slot = record { phase = Free; page = 0; used = false }

-- what an actor that is not the keeper knows of the slots
abbrev pub no_duties : Duties
no_duties = record { slots = []; next = 0; pointed = 0; collected = []; probes = []; noted = 0; noted_with = 0; dealt = 0; out = 0 }

-- a pass that was gathered
abbrev pub blank : View
blank = record { role = Spent; number = 0; state = Idle; entries = []; visits = []; floor = 0; duties = no_duties }

-- ---- parts of the keeper's view

-- slot s
abbrev pub slot_at : Duties → ℕ → Slot
slot_at d s = slice_index_or d.slots s no_slot

-- the collected words of the page, in order
abbrev pub collected_of : Duties → ℕ → List ℕ
collected_of d page = slice_index_or d.collected page []

-- ---- the start

-- the slots at the start: the first is open with page 0, and the others are free
abbrev pub first_slots : List Slot
first_slots = record { phase = Open; page = 0; used = true } ∷ no_slot ∷ no_slot ∷ no_slot ∷ []

-- the keeper of a new plane
abbrev pub first_keeper : View
first_keeper = record {
  role = Keeper;
  number = 0;
  state = Idle;
  entries = [];
  visits = [];
  floor = 0;
  duties = record { slots = first_slots; next = 1; pointed = 0; collected = [] ∷ []; probes = []; noted = 0; noted_with = 0; dealt = 0; out = 0 };
}
