use Rattle.std.proofs.Common.{take}
use Rattle.reverse_flood.specs.Unions.{has_line, Moves}
use Rattle.reverse_flood.proofs.unions.take_rows.Given as goal

abbrev pub invariant-loop-line : goal.invariant-loop-line
invariant-loop-line l = record {
  moves : Moves l.by (has_line l.topology l.region (take l.line-index l.lines)) l.topology l.region l.other l.fn.search l.search;
}
