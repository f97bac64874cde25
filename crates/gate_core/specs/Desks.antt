-- What an act of the keeper does to its desk. No public clause cites this module.
use Rattle.std.specs.Prelude.{◌≡◌, ℕ, ◌+◌, ◌-◌, ◌/◌, ◌%◌, ◌==◌, cond, true, List, [], ◌∷◌, ◌++◌, length, slice_get, slice_set, slice_index, slice_index_or, Some, vec_capacity, Vec}
use Rattle.std.specs.Int.{bit_at}
use Rattle.std.specs.declared.alloc.Global.{Global}
use Rattle.hash_family.specs.Positions.{Drawn}
use Rattle.gate_core.specs.declared.states.SlotPhase.{SlotPhase}
use Rattle.gate_core.specs.declared.states.SlotPhase.TheVariants.{Free, Open, Quiet}
use Rattle.gate_core.specs.declared.core_data.CoreData.{CoreData}
use Rattle.gate_core.specs.declared.core_data.Desk.{Desk}
use Rattle.gate_core.specs.Views.{Probed, Slot, no_slot}
use Rattle.gate_core.specs.declared.states.PassState.{PassState}
use Rattle.gate_core.specs.declared.states.PassState.TheVariants.{Idle}
use Rattle.gate_core.specs.declared.core_data.Seat.{Seat}
use Rattle.gate_core.specs.Acts.{inside_of, gate_place, bit_place, busy}

abbrev pub slot_in : Desk → (slot : ℕ) → Slot
slot_in desk s = slice_index_or desk.slots s no_slot

-- a slot goes into a phase
abbrev pub phased : Desk → (slot : ℕ) → SlotPhase → Desk
phased desk s ph = record desk { slots = slice_set desk.slots s (record { phase = ph; page = (slot_in desk s).page; used = (slot_in desk s).used }) }

-- the gate of a slot was read, with so many out or in the middle of a record
abbrev pub settled : Desk → (slot gate out : ℕ) → Desk
settled desk s gate out = let noted = record desk { noted = gate; noted_with = out } in cond (inside_of gate == 0) (phased noted s (Quiet 0)) noted

-- one of the lists of words has one word more
pub record AddsWord (lists lists' : Vec (Vec ℕ Global) Global) (page word : ℕ) : Type 0 where
  pub before : Vec ℕ Global
  pub after : Vec ℕ Global
  pub was : slice_get lists.items page ≡ Some before
  pub becomes : lists'.items ≡ slice_set lists.items page after
  pub words : after.items ≡ before.items ++ word ∷ []
  pub word_room : vec_capacity after ≡ vec_capacity before
  pub list_room : vec_capacity lists' ≡ vec_capacity lists

-- a spare list becomes the last one
pub record AddsList (spare lists spare' lists' : Vec (Vec ℕ Global) Global) : Type 0 where
  pub words : Vec ℕ Global
  pub taken : spare.items ≡ spare'.items ++ words ∷ []
  pub becomes : lists'.items ≡ lists.items ++ words ∷ []
  pub list_room : vec_capacity lists' ≡ vec_capacity lists

-- the next page is opened in a slot, with these hash functions
pub record OpensPage (desk desk' : Desk) (slot : ℕ) (family : Drawn) : Type 0 where
  pub lists : AddsList desk.spare desk.collected desk'.spare desk'.collected
  pub others : desk' ≡ record desk {
    slots = slice_set desk.slots slot (record { phase = Open; page = desk.next; used = true });
    families = slice_set desk.families slot family;
    next = desk.next + 1;
    collected = desk'.collected;
    spare = desk'.spare;
  }

-- ---- what the acts of the keeper read

-- the keeper has the first seat
abbrev pub first_state : List Seat → PassState
first_state [] = Idle
first_state (x ∷ xs) = x.state

-- so many passes are out or the keeper is in the middle of a record
abbrev pub counted_out : List Seat → ℕ
counted_out seats = length seats - 1 + busy (first_state seats)

abbrev pub after_word : (next wide : ℕ) → SlotPhase
after_word next wide = cond (next + 1 == wide) Free (Quiet (next + 1))

-- ---- what an act of the keeper does to the machine

-- a step later, with these words and this desk
abbrev pub moved_on : CoreData → (words : Vec ℕ Global) → Desk → CoreData
moved_on m words desk = record m { words = words; desk = desk; room = m.room - 1 }

abbrev pub gate_in : CoreData → (slot : ℕ) → ℕ
gate_in m s = slice_index m.words.items (gate_place s)

-- word i of a slot
abbrev pub word_in : CoreData → (slot i : ℕ) → ℕ
word_in m s i = slice_index m.words.items (bit_place m.shape s i)

-- the bit of a position, of 64 in each word
abbrev pub bit_in_slot : CoreData → (slot at : ℕ) → ℕ
bit_in_slot m s at = bit_at (word_in m s (at / 64)) (at % 64)

-- what a probe notes
abbrev pub probed : CoreData → (slot at : ℕ) → Probed
probed m s at = record { page = (slot_in m.desk s).page; at = at; bit = bit_in_slot m s at == 1; known = m.entries.own }
