-- What holds of the data of every machine, and what is left as it was where memory is taken. No public clause cites this
-- module.
use Rattle.std.specs.Prelude.{◌≡◌, ℕ, ◌+◌, ◌<◌, ◌≤◌, List, [], length, All, vec_len, vec_capacity, Vec}
use Rattle.std.specs.declared.alloc.Global.{Global}
use mathlib.Core.Option.{some}
use lib.ListN.{get_elem?}
use Rattle.gate_core.specs.declared.core_data.CoreData.{CoreData}
use Rattle.gate_core.specs.declared.core_data.Desk.{Desk}
use Rattle.gate_core.specs.Kept.{Holds}

pub record IsSound (m : CoreData) : Type 0 where
  pub holds : Holds m
  -- each entry was finished by an actor that has a seat
  pub finishers : All (λ (place : ℕ). place < length m.seats.items) m.entries.places.items

-- the keeper knows the same
pub record IsSameDesk (desk desk' : Desk) : Type 0 where
  pub slots : desk'.slots ≡ desk.slots
  pub families : desk'.families ≡ desk.families
  pub next : desk'.next ≡ desk.next
  pub pointed : desk'.pointed ≡ desk.pointed
  pub collected : desk'.collected.items ≡ desk.collected.items
  pub probes : desk'.probes.items ≡ desk.probes.items
  pub noted : desk'.noted ≡ desk.noted
  pub noted_with : desk'.noted_with ≡ desk.noted_with

-- lists with the memory of a page, and nothing in them
abbrev pub AreSpare : (wide : ℕ) → List (Vec ℕ Global) → Type 0
AreSpare wide lists = (i : ℕ) (v : Vec ℕ Global) → get_elem? lists i ≡ some v → (v.items ≡ []) × (wide ≤ vec_capacity v)

-- each list of words has the memory of a page, and its place among the collected ones
pub record HasLists (wide : ℕ) (desk : Desk) : Type 0 where
  pub pages : vec_len desk.collected + vec_len desk.spare ≤ vec_capacity desk.collected
  pub spare_words : AreSpare wide desk.spare.items
  pub page_words : (i : ℕ) (v : Vec ℕ Global) → get_elem? desk.collected.items i ≡ some v → vec_len v < wide → wide ≤ vec_capacity v
