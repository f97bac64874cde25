use Rattle.std.proofs.Common.{◌≡◌, ◌++◌, take}
use Rattle.std.specs.List.{flat_map}
use Rattle.archive_record.specs.Spelling.{spelled_row}
use Rattle.archive_record.proofs.writing.encode_rows.Given as goal

abbrev pub invariant-loop-row : goal.invariant-loop-row
invariant-loop-row l = l.out.items ≡ l.initial.out.items ++ flat_map spelled_row (take l.row-index l.rows)
