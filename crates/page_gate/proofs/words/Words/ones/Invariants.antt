use Rattle.std.proofs.Common.{◌≡◌, ◌<◌, ◌*◌, count_by}
use Rattle.std.specs.List.{range_with_len}
use Rattle.hash_family.specs.Entries.{is_marked}
use Rattle.page_gate.specs.Probes.{OnlyNotes}
use Rattle.page_gate.specs.Steps.{IsMet}
use Rattle.page_gate.proofs.words.Words.ones.Given as goal

abbrev pub invariant-loop-j : goal.invariant-loop-j
invariant-loop-j l = record {
  notes : OnlyNotes l.fn.seat l.seat;
  ones : l.ones ≡ count_by (is_marked l.self.shape l.fn.seat.me.0.entries l.page.number) (range_with_len 0 (64 * l.j));
  met : 0 < l.j → IsMet l.self.shape l.seat.me.0;
}
