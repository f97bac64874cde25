use Rattle.std.proofs.Common.{◌≡◌, ◌<◌, ℕ, take, get_or, false}
use Rattle.std.specs.List.{flat_map}
use Rattle.traceback_manager.specs.Beside.{away_of}
use Rattle.traceback_manager.specs.declared.beside.Seat.{Seat}
use Rattle.traceback_manager.proofs.beside.gather.Given as goal

abbrev pub invariant-loop-seat : goal.invariant-loop-seat
invariant-loop-seat l = record {
  round : l.round.items ≡ flat_map away_of (take l.seat-index l.seats);
  none : (r : ℕ) (d : Seat) → r < l.seat-index → (get_or l.seats r d).short ≡ false;
}
