-- What an act writes: items in a log, a word, and a seat. No public clause cites this module.
use Rattle.std.specs.Prelude.{◌≡◌, ℕ, ◌+◌, ◌-◌, ◌==◌, if◌then◌else◌, List, [], ◌++◌, length, map, slice_index_or, slice_set, vec_capacity}
use Rattle.gate_core.specs.declared.states.PassState.{PassState}
use Rattle.gate_core.specs.declared.states.PassState.TheVariants.{Idle}
use Rattle.gate_core.specs.declared.core_data.CoreData.{CoreData}
use Rattle.gate_core.specs.declared.core_data.Log.{Log}
use Rattle.gate_core.specs.declared.core_data.Seat.{Seat}

abbrev pub no_seat : Seat
no_seat = record { state = Idle; marks = record { at = []; count = 0 } }

abbrev pub seat_at : CoreData → (place : ℕ) → Seat
seat_at m place = slice_index_or m.seats.items place no_seat

-- the actor's seat, in this state
abbrev pub seat_in : CoreData → (place : ℕ) → PassState → Seat
seat_in m place st = record (seat_at m place) { state = st }

-- the log has these items more, of the actor at the place, in the memory that it had
pub record Grows {T : Type 0} (log log' : Log T) (place : ℕ) (more : List T) : Type 0 where
  pub items : log'.items.items ≡ log.items.items ++ more
  pub places : log'.places.items ≡ log.places.items ++ map (λ _. place) more
  pub own : log'.own ≡ log.own + (if place == 0 then length more else 0)
  pub items_room : vec_capacity log'.items ≡ vec_capacity log.items
  pub places_room : vec_capacity log'.places ≡ vec_capacity log.places

-- a word and a seat are written, and of the rest only the logs may change; a step of the room is used
pub record Writes (m m' : CoreData) (at word place : ℕ) (seat : Seat) : Type 0 where
  pub shape : m'.shape ≡ m.shape
  pub words : m'.words.items ≡ slice_set m.words.items at word
  pub seats : m'.seats.items ≡ slice_set m.seats.items place seat
  pub desk : m'.desk ≡ m.desk
  pub room : m'.room ≡ m.room - 1
