use Rattle.std.proofs.Common.{◌≡◌, ◌<◌, ℕ, length, get_or}
use Rattle.regional_agent.specs.Desks.{IsBlank}
use Rattle.traceback_manager.specs.declared.beside.Seat.{Seat}
use Rattle.traceback_manager.proofs.beside.open_seats.Given as goal

abbrev pub invariant-loop-region : goal.invariant-loop-region
invariant-loop-region l = record {
  many : length l.seats.items ≡ l.region;
  regions : (r : ℕ) (d : Seat) → r < length l.seats.items → (get_or l.seats.items r d).desk.region ≡ r;
  blank : (r : ℕ) (d : Seat) → r < length l.seats.items → IsBlank (get_or l.seats.items r d).desk;
}
