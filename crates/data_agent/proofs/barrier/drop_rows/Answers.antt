use Rattle.std.proofs.Common.{ℕ, ◌≡◌, ap, subst, ◌∙◌, arith}
use Rattle.transform_table.specs.Tables.{rows_of_page}
use Rattle.data_agent.proofs.Rows.{rows_drop, rows_start, rows_outside}
use Rattle.data_agent.proofs.barrier.drop_rows.Goals as goal

pub pages-init : goal.pages-init
pages-init c = record { within = c.requires.some; outside = rows_start c.args.pages.now.first.number c.args.table.now }

pub pages-preserved : goal.pages-preserved
pages-preserved c = record {
  within = omega (arith, c.pages-test.true);
  outside = λ page. ap (rows_of_page page) c.drop_page.ensures ∙ rows_drop c.args.pages.now.first.number c.pages.number c.args.table.now c.pages.table (omega (arith, c.pages.auto.number)) c.pages.invariant.outside page;
}

pub returns : goal.returns
returns c = λ page.
    let at : c.pages.number ≡ c.args.pages.now.last.number = omega (arith, c.pages-test.false, c.pages.invariant.within) in
    ap (rows_of_page page) c.drop_page-2.ensures
    ∙ rows_drop c.args.pages.now.first.number c.args.pages.now.last.number c.args.table.now c.pages.table c.requires.some
    (subst (λ n. (p : ℕ) → rows_of_page p c.pages.table ≡ rows_outside c.args.pages.now.first.number n p (rows_of_page p c.args.table.now)) at c.pages.invariant.outside) page
