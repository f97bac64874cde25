use Rattle.std.proofs.Common.{◌≡◌, take}
use Rattle.std.specs.List.{flat_map}
use Rattle.evidence_check.specs.Sights.{page_rows}
use Rattle.evidence_check.proofs.sights.rows_of.Given as goal

abbrev pub invariant-loop-page : goal.invariant-loop-page
invariant-loop-page l = l.rows.items ≡ flat_map page_rows (take l.page-index l.pages)
