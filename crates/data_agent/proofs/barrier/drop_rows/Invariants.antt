use Rattle.std.proofs.Common.{ℕ, ◌≡◌, ◌≤◌}
use Rattle.transform_table.specs.Tables.{rows_of_page}
use Rattle.data_agent.proofs.Rows.{rows_outside}
use Rattle.data_agent.proofs.barrier.drop_rows.Given as goal

-- the pages before this one have no rows
abbrev pub invariant-pages : goal.invariant-pages
invariant-pages l = record {
  within : l.number ≤ l.pages.last.number;
  outside : (page : ℕ) → rows_of_page page l.table ≡ rows_outside l.pages.first.number l.number page (rows_of_page page l.fn.table);
}
