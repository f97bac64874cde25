use Rattle.std.proofs.Common.{◌≡◌, ◌+◌, true, length, sym, ap, ◌∙◌, subst}
use Rattle.transform_table.specs.Tables.{without_page}
use Rattle.transform_table.specs.Rows.{keeps_id, pairs_in}
use Rattle.transform_table.proofs.Tabled.{ids_held, first_has, page_is_empty, table_fewer, others_fewer, shown_fewer}
use Rattle.transform_table.proofs.table.Table.drop_first.Goals as goal

pub returns-in_default-clause-none : goal.returns-in_default-clause-none
returns-in_default-clause-none c =
    let t = c.self.inside in let f = t.filing in
    subst (λ l. l ≡ without_page c.args.page.number l) c.self.view_is (sym (page_is_empty f.rows f.all f.buckets f.pages t.olds c.self.invariant c.args.page.number (sym c.in_default.ensures)))

pub remove-line-requires : goal.remove-line-requires
remove-line-requires c =
    let t = c.self.inside in let f = t.filing in let i = c.self.invariant in
    record { stands = (i.order, i.stands, first_has f.rows f.all f.buckets f.pages t.olds i c.args.page.number c.in-Some.place (sym c.in-Some.ensures)) }

pub give_up-requires : goal.give_up-requires
give_up-requires c = λ id keeps.
    let t = c.self.inside in let f = t.filing in
    ids_held f.rows f.all f.buckets f.pages t.olds c.self.invariant c.in-Some.place id (subst (λ o. keeps_id id o ≡ true) (sym c.remove-line.ensures.row) keeps)

pub invariant_of-self : goal.invariant_of-self
invariant_of-self c =
    let t = c.self.inside in let f = t.filing in let r = c.remove-line.new.filing in let e = c.remove-line.ensures in
    table_fewer f.rows f.all f.buckets f.pages t.olds c.self.invariant r.rows r.all r.buckets r.pages c.give_up.new.olds c.args.page.number c.in-Some.place c.remove-line.result (sym c.in-Some.ensures) e.row e.rows e.stands
    c.give_up.ensures.uses c.give_up.ensures.others

pub returns-clause-others : goal.returns-clause-others
returns-clause-others c =
    let t = c.self.inside in let f = t.filing in let r = c.remove-line.new.filing in let e = c.remove-line.ensures in
    others_fewer f.rows f.all f.buckets f.pages t.olds c.self.invariant r.rows r.all r.buckets r.pages c.give_up.new.olds c.args.page.number c.in-Some.place c.remove-line.result (sym c.in-Some.ensures) e.row e.rows e.stands
    c.give_up.ensures.uses c.give_up.ensures.others ∙ ap (without_page c.args.page.number) c.self.view_is

pub returns-clause-fewer : goal.returns-clause-fewer
returns-clause-fewer c =
    let t = c.self.inside in let f = t.filing in let r = c.remove-line.new.filing in let e = c.remove-line.ensures in
    subst (λ l. length (pairs_in r.rows r.all c.give_up.new.olds) + 1 ≡ length l) c.self.view_is
    (shown_fewer f.rows f.all f.buckets f.pages t.olds c.self.invariant r.rows r.all r.buckets r.pages c.give_up.new.olds c.args.page.number c.in-Some.place c.remove-line.result (sym c.in-Some.ensures) e.row e.rows e.stands
    c.give_up.ensures.uses c.give_up.ensures.others)
