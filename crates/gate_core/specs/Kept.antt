-- What the machine keeps, as words and views, and what holds of it. No public clause cites this module.
use Rattle.std.specs.Prelude.{◌≡◌, ℕ, suc, zero, ◌+◌, ◌-◌, ◌*◌, ◌<◌, ◌≤◌, List, [], ◌∷◌, length, map, slice_get, Some, vec_len, vec_capacity, Vec}
use Rattle.std.specs.declared.alloc.Global.{Global}
use mathlib.Core.Option.{some}
use lib.ListN.{get_elem?}
use Rattle.spie_base.specs.declared.Marks.{Marks}
use Rattle.spie_base.specs.declared.PageShape.{PageShape}
use Rattle.hash_family.specs.Positions.{family_of, placed_by}
use Rattle.spie_base.specs.declared.types.Entry.{Entry}
use Rattle.gate_core.specs.declared.states.PassState.{PassState}
use Rattle.gate_core.specs.declared.states.PassState.TheVariants.{Idle, Looked, Inside, Visiting}
use Rattle.gate_core.specs.declared.states.SlotPhase.{SlotPhase}
use Rattle.gate_core.specs.declared.states.SlotPhase.TheVariants.{Free, Open, Sealed, Quiet}
use Rattle.gate_core.specs.declared.core_data.CoreData.{CoreData}
use Rattle.gate_core.specs.declared.core_data.Desk.{Desk}
use Rattle.gate_core.specs.declared.core_data.Log.{Log}
use Rattle.gate_core.specs.declared.core_data.Seat.{Seat}
use Rattle.gate_core.specs.Marks.{width}
use Rattle.gate_core.specs.Views.{Visit, Slot, Role, Pass, Keeper, Duties, no_duties, View, slot_at}
use Rattle.gate_core.specs.Invariant.{PlaneInvariant}
use Rattle.gate_core.specs.declared.steps.Act.{Act}
use Rattle.gate_core.specs.declared.steps.StepAnswer.{StepAnswer}
use Rattle.gate_core.specs.Core.{Core, items_at, Stepped}
use Rattle.gate_core.specs.declared.limits.TheConstants.{SLOTS}

-- ---- the views

-- what all views are made from, beside the seats
pub record Notes : Type 0 where
  pub entries : List Entry
  pub finishers : List ℕ
  pub visits : List Visit
  pub visitors : List ℕ
  pub duties : Duties

abbrev pub role_at : (place : ℕ) → Role
role_at zero = Keeper
role_at (suc number) = Pass

abbrev pub duties_at : (place : ℕ) → Duties → Duties
duties_at zero d = d
duties_at (suc number) d = no_duties

abbrev pub view_of : Notes → (place : ℕ) → PassState → View
view_of notes place st = record {
  role = role_at place;
  number = place - 1;
  state = st;
  entries = items_at place notes.finishers notes.entries;
  visits = items_at place notes.visitors notes.visits;
  floor = 0;
  duties = duties_at place notes.duties;
}

abbrev pub views_from : Notes → (place : ℕ) → List Seat → List View
views_from notes place [] = []
views_from notes place (x ∷ xs) = view_of notes place x.state ∷ views_from notes (place + 1) xs

-- all passes were dealt at the start, and are out
abbrev pub duties_of : Desk → (passes : ℕ) → Duties
duties_of desk passes = record {
  slots = desk.slots;
  next = desk.next;
  pointed = desk.pointed;
  collected = map (λ (v : Vec ℕ Global). v.items) desk.collected.items;
  probes = desk.probes.items;
  noted = desk.noted;
  noted_with = desk.noted_with;
  dealt = passes;
  out = passes;
}

abbrev pub notes_of : CoreData → Notes
notes_of m = record {
  entries = m.entries.items.items;
  finishers = m.entries.places.items;
  visits = m.visits.items.items;
  visitors = m.visits.places.items;
  duties = duties_of m.desk (length m.seats.items - 1);
}

abbrev pub views_of : CoreData → List View
views_of m = views_from (notes_of m) 0 m.seats.items

abbrev pub core_of : CoreData → Core
core_of m = record {
  shape = m.shape;
  words = m.words.items;
  views = views_of m;
  entries = m.entries.items.items;
  finishers = m.entries.places.items;
  room = m.room;
}

-- ---- the room

pub record HasLogRoom {T : Type 0} (log : Log T) (room : ℕ) : Type 0 where
  pub each : length log.places.items ≡ length log.items.items
  pub own : log.own ≡ length (items_at 0 log.places.items log.items.items)
  pub items : vec_len log.items + room ≤ vec_capacity log.items
  pub places : vec_len log.places + room ≤ vec_capacity log.places

-- so many words of a slot's next page are paid for: a slot that is opened again has had all its words drained
abbrev pub paid : (wide : ℕ) → SlotPhase → ℕ
paid wide Free = wide
paid wide Open = 0
paid wide Sealed = 0
paid wide (Quiet next) = next

abbrev pub paid_by : (wide : ℕ) → List Slot → ℕ
paid_by wide [] = 0
paid_by wide (x ∷ xs) = paid wide x.phase + paid_by wide xs

pub record HasDeskRoom (wide : ℕ) (desk : Desk) (room : ℕ) : Type 0 where
  pub probes : vec_len desk.probes + room ≤ vec_capacity desk.probes
  pub pages : vec_len desk.collected + vec_len desk.spare ≤ vec_capacity desk.collected
  pub spare : room + paid_by wide desk.slots ≤ wide * vec_len desk.spare
  pub spare_words : (i : ℕ) (v : Vec ℕ Global) → get_elem? desk.spare.items i ≡ some v → (v.items ≡ []) × (wide ≤ vec_capacity v)
  pub page_words : (i : ℕ) (v : Vec ℕ Global) → get_elem? desk.collected.items i ≡ some v → vec_len v < wide → wide ≤ vec_capacity v

-- ---- the marks

-- an actor inside a slot has the marks of its signature
abbrev pub HasMarks : PageShape → PassState → Marks → Type 0
HasMarks shape Idle marks = Unit {0}
HasMarks shape (Looked s) marks = Unit {0}
HasMarks shape (Inside s page sig m) marks = marks ≡ placed_by (family_of shape page.number) sig
HasMarks shape (Visiting s gate) marks = Unit {0}

-- ---- the whole

pub record Holds (m : CoreData) : Type 0 where
  pub some_seat : 1 ≤ length m.seats.items
  pub plane : PlaneInvariant m.shape m.words.items (views_of m)
  pub entries : HasLogRoom m.entries m.room
  pub visits : HasLogRoom m.visits m.room
  pub desk : HasDeskRoom (width m.shape) m.desk m.room
  pub marks : (j : ℕ) (x : Seat) → get_elem? m.seats.items j ≡ some x → HasMarks m.shape x.state x.marks
  pub families : (s : ℕ) → s < SLOTS → slice_get m.desk.families s ≡ Some (family_of m.shape (slot_at (duties_of m.desk 0) s).page)

-- the machine did what the step asks, or nothing, and what holds of it holds again
pub record DoesAct (m m' : CoreData) (place : ℕ) (a : Act) (reply : StepAnswer) : Type 0 where
  pub stepped : Stepped (core_of m) place a (core_of m') reply
  pub holds : Holds m'
