use Rattle.std.proofs.Common.{◌∙◌, sym}
use Rattle.reverse_flood.proofs.CellFacts.{settles_alone, settles_changed}
use Rattle.reverse_flood.proofs.cells.note_found.Goals as goal

pub returns-then-is_alone : goal.returns-then-is_alone
returns-then-is_alone c =
    settles_alone c.args.node.now c.args.origins.items c.args.search.now c.put_cell.new.search c.requires.fine c.put_cell.ensures.rows c.put_cell.ensures.changed c.put_cell.ensures.size c.requires.few c.put_cell.ensures.cells
    (sym c.deref.ensures.value ∙ c.is_alone.ensures c.if-is_alone.true)

pub returns : goal.returns
returns c =
    settles_changed c.args.node.now c.in_ok-cell.cell c.args.origins.items c.args.search.now c.keep_origins.new.search c.put_cell-2.new.search c.requires.fine c.keep_origins.ensures.rows c.keep_origins.ensures.cells c.in_ok-cell.ensures.changed c.in_ok-cell.ensures.cell
    c.put_cell-2.ensures.rows c.put_cell-2.ensures.changed c.put_cell-2.ensures.size c.requires.few c.put_cell-2.ensures.cells c.requires.ascend
