use Rattle.std.proofs.Common.{◌≡◌, length}
use Rattle.transform_table.specs.Tables.{without_page}
use Rattle.transform_table.proofs.table.Table.drop_page.Given as goal

abbrev pub invariant-loop-page : goal.invariant-loop-page
invariant-loop-page l = without_page l.page.number l.self ≡ without_page l.page.number l.initial.self

abbrev pub decreases-loop-page : goal.decreases-loop-page
decreases-loop-page l = length l.self
