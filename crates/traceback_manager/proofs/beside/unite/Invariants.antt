use Rattle.std.proofs.Common.{◌≡◌, ◌++◌, length}
use Rattle.std.specs.Vec.Iter.{into_iter_items, into_iter_len}
use Rattle.reverse_flood.specs.Search.{IsFine}
use Rattle.traceback_manager.specs.Beside.{AreUnited}
use Rattle.traceback_manager.proofs.beside.unite.Given as goal

abbrev pub invariant-loop-seat : goal.invariant-loop-seat
invariant-loop-seat l = record {
  rest : l.yielded ++ into_iter_items l.seat-iterator ≡ into_iter_items l.initial.seat-iterator;
  len : into_iter_len l.seat-iterator ≡ length (into_iter_items l.seat-iterator);
  fine : IsFine l.all;
  united : AreUnited l.topology l.yielded l.all;
}
