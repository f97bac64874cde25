use Rattle.std.proofs.Common.{◌≡◌, ◌∙◌, ◌++◌, replicate, length, List, None, sym, subst, ap, arith}
use Rattle.std.specs.BTreeMap.{get}
use Rattle.spie_base.specs.Order.{sig_cmp}
use Rattle.reverse_flood.specs.declared.cells.Cell.{Cell}
use Rattle.reverse_flood.specs.declared.cells.Cell.TheVariants.{Free}
use Rattle.reverse_flood.specs.Rows.{AreRows, cell_of}
use Rattle.reverse_flood.proofs.RowFacts.{rows_keep, rows_more, rows_same}
use Rattle.reverse_flood.proofs.cells.row_of.Goals as goal

same : goal.returns-clause-same
same c = λ n few.
    let cells : List Cell = c.args.search.now.cells.items in
    let longer : c.extend_from_slice.new.self.items ≡ cells ++ replicate 64 Free = c.in_ok-extend_from_slice.ensures.items in
    let none : get sig_cmp c.args.search.now.rows c.args.sig.now ≡ None = sym c.in_default.ensures.value in
    ap (λ (l : List Cell). cell_of Free (get sig_cmp c.insert.new.self) l n) longer
    ∙ rows_same Free c.args.sig.now c.len-row.result (get sig_cmp c.args.search.now.rows) (get sig_cmp c.insert.new.self) cells (omega (arith, c.len-row.ensures)) none c.in_ok-insert.ensures.updates.0 c.requires.rows n few

pub returns-clause-same : goal.returns-clause-same
returns-clause-same c = same c

pub returns-clause-fine : goal.returns-clause-fine
returns-clause-fine c =
    let P : _ → Type 0 = λ size. AreRows (get sig_cmp c.insert.new.self) size in
    record {
      rows = subst P (omega (arith, c.extend_from_slice.ensures.len, c.in_ok-extend_from_slice.ensures.len))
          (rows_more c.args.sig.now c.len-row.result (length c.args.search.now.cells.items) (get sig_cmp c.args.search.now.rows) (get sig_cmp c.insert.new.self) (omega (arith, c.len-row.ensures)) c.in_ok-insert.ensures.updates.0 c.requires.rows);
      places = λ n place few e. c.requires.places n place few (sym (same c n few) ∙ e);
      ascend = c.requires.ascend;
    }

pub returns-clause-kept : goal.returns-clause-kept
returns-clause-kept c =
    rows_keep c.args.sig.now c.len-row.result (get sig_cmp c.args.search.now.rows) (get sig_cmp c.insert.new.self) (sym c.in_default.ensures.value) c.in_ok-insert.ensures.updates.0
