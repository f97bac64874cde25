use Rattle.std.proofs.Common.{◌≡◌, None, IfOk, ◌∙◌, ap, subst, arith}
use Rattle.std.proofs.lemmas.List.{get_or_past}
use Rattle.index_rings.specs.Orders.{first_in}
use Rattle.transform_table.specs.Tables.{rows_of_page}
use Rattle.transform_table.specs.Chained.{page_at}
use Rattle.transform_table.proofs.Tabled.{ids_held, page_chain, no_page_chain}
use Rattle.transform_table.proofs.table.Table.rows_of.Goals as goal

pub rows_at-requires : goal.rows_at-requires
rows_at-requires c = let t = c.self.inside in let f = t.filing in ids_held f.rows f.all f.buckets f.pages t.olds c.self.invariant

pub returns-then-chain-len : goal.returns-then-chain-len
returns-then-chain-len c =
    let t = c.self.inside in let f = t.filing in let page = c.args.page.number in
    let none : first_in f.pages page ≡ None = get_or_past f.pages.firsts.items page None (omega (arith, c.if-chain-len.true, c.len.ensures)) in
    c.new.ensures.items ∙ no_page_chain f.rows f.all f.buckets f.pages t.olds c.self.invariant page none ∙ ap (rows_of_page page) c.self.view_is

pub returns : goal.returns
returns c =
    let t = c.self.inside in let f = t.filing in let i = c.self.invariant in let page = c.args.page.number in
    subst (λ l. IfOk c.rows_at.result (λ rows. rows.items ≡ l))
    (page_chain f.rows f.all f.buckets f.pages t.olds i page _
    (c.places-places.ensures.all (page_at f.rows) i.order i.stands.listed.distinct (omega (arith, i.stands.listed.count, c.len-2.ensures)) i.stands.in_pages) ∙ ap (rows_of_page page) c.self.view_is) c.rows_at.ensures
