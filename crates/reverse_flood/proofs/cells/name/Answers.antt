use Rattle.std.proofs.Common.{◌∙◌, sym}
use Rattle.reverse_flood.proofs.CellFacts.{IsNamed, name_more}
use Rattle.reverse_flood.proofs.cells.name.Goals as goal
use Rattle.reverse_flood.proofs.cells.name.Goals.{After-put_cell}

made : (c : After-put_cell) → IsNamed c.args.node.now c.args.search.now c.put_cell.new.search
made c = name_more c.args.node.now c.args.search.now c.put_cell.new.search c.requires.fine c.put_cell.ensures.rows c.put_cell.ensures.changed c.put_cell.ensures.size c.requires.few c.put_cell.ensures.cells (sym c.is_there.ensures ∙ c.if-is_there.false)

pub returns-clause-fine : goal.returns-clause-fine
returns-clause-fine c = (made c).fine

pub returns-clause-named : goal.returns-clause-named
returns-clause-named c = (made c).named

pub returns-clause-kept : goal.returns-clause-kept
returns-clause-kept c = (made c).kept

pub returns-clause-only : goal.returns-clause-only
returns-clause-only c = (made c).only
