use Rattle.std.proofs.Common.{◌≡◌, ℕ, ◌≤◌, ◌++◌, length, take, vec_capacity}
use Rattle.trace_workers.specs.Jobs.{tables_of, floors_of, entries_at}
use Rattle.trace_workers.specs.Records.{lines_at, receipts_by, entries_by}
use Rattle.trace_workers.proofs.work.record_lines.Given as goal

abbrev pub invariant-loop-i : goal.invariant-loop-i
invariant-loop-i g l = record {
  tables : tables_of l.passes ≡ tables_of l.initial.passes;
  floors : floors_of l.passes ≡ floors_of l.initial.passes;
  many : length l.pages.items ≡ l.i;
  entries : (r : ℕ) → entries_at l.passes r ≡ entries_at l.initial.passes r ++ entries_by r (receipts_by l.trace.sigs (lines_at l.trace.lines (take l.i l.places)) l.pages.items);
  room : length l.places ≤ vec_capacity l.pages;
}
