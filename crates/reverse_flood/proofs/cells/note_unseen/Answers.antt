use Rattle.reverse_flood.proofs.CellFacts.{settles_unseen}
use Rattle.reverse_flood.proofs.cells.note_unseen.Goals as goal

pub returns : goal.returns
returns c = settles_unseen c.args.node.now c.args.search.now c.put_cell.new.search c.requires.fine c.put_cell.ensures.rows c.put_cell.ensures.changed c.put_cell.ensures.size c.requires.few c.put_cell.ensures.cells
