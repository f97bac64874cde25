use Rattle.reverse_flood.specs.declared.cells.Cell.TheVariants.{Free}
use Rattle.reverse_flood.specs.Search.{rows_in}
use Rattle.reverse_flood.proofs.RowFacts.{cell_more}
use Rattle.reverse_flood.proofs.cells.put_cell.Goals as goal

pub returns-clause-cells : goal.returns-clause-cells
returns-clause-cells c = λ n few. cell_more Free c.args.cell (rows_in c.args.search.now) c.args.search.now.cells.items c.args.row c.args.node.now c.requires.rows c.requires.row c.requires.few n few
