use Rattle.std.proofs.Common.{◌≡◌, [], ◌∷◌, ◌++◌, sym, ap, ◌∙◌, subst}
use Rattle.transform_table.specs.Rows.{pairs_in}
use Rattle.transform_table.specs.Chained.{IsTable}
use Rattle.transform_table.proofs.Tabled.{on_err, table_roomier, shown_roomier, table_more, shown_more}
use Rattle.transform_table.proofs.table.Table.add.Goals as goal

pub invariant_of-self : goal.invariant_of-self
invariant_of-self c =
    let t = c.self.inside in let f = t.filing in let r = c.make_room.new.filing in let e = c.make_room.ensures in
    table_roomier f.rows f.all f.buckets f.pages t.olds c.self.invariant r.rows r.all r.buckets r.pages r.rows.capacity e.slots e.stands

pub returns-in_err-make_room-clause-unchanged : goal.returns-in_err-make_room-clause-unchanged
returns-in_err-make_room-clause-unchanged c =
    let t = c.self.inside in let f = t.filing in let r = c.make_room.new.filing in let e = c.make_room.ensures in
    on_err c.from_residual.result (pairs_in r.rows r.all t.olds ≡ c.args.self.now)
    (shown_roomier f.rows f.all f.buckets f.pages t.olds c.self.invariant r.rows r.all r.buckets r.pages r.rows.capacity e.slots e.stands ∙ c.self.view_is)

pub invariant_of-self-in_err-kept : goal.invariant_of-self-in_err-kept
invariant_of-self-in_err-kept c =
    let t = c.self.inside in let f = t.filing in let r = c.make_room.new.filing in let e = c.make_room.ensures in
    subst (λ olds. IsTable r.rows r.all r.buckets r.pages olds) (sym c.in_err-kept.ensures.unchanged)
    (table_roomier f.rows f.all f.buckets f.pages t.olds c.self.invariant r.rows r.all r.buckets r.pages r.rows.capacity e.slots e.stands)

pub returns-in_err-kept-clause-unchanged : goal.returns-in_err-kept-clause-unchanged
returns-in_err-kept-clause-unchanged c =
    let t = c.self.inside in let f = t.filing in let r = c.make_room.new.filing in let e = c.make_room.ensures in
    on_err c.from_residual-in_err-kept.result (pairs_in r.rows r.all c.keep.new.olds ≡ c.args.self.now)
    (ap (pairs_in r.rows r.all) c.in_err-kept.ensures.unchanged ∙ shown_roomier f.rows f.all f.buckets f.pages t.olds c.self.invariant r.rows r.all r.buckets r.pages r.rows.capacity e.slots e.stands ∙ c.self.view_is)

pub invariant_of-self-2 : goal.invariant_of-self-2
invariant_of-self-2 c =
    let t = c.self.inside in let f = t.filing in let r = c.make_room.new.filing in let e = c.make_room.ensures in let n = c.insert.new.filing in
    let roomier = table_roomier f.rows f.all f.buckets f.pages t.olds c.self.invariant r.rows r.all r.buckets r.pages r.rows.capacity e.slots e.stands in
    table_more r.rows r.all r.buckets r.pages t.olds roomier n.rows n.all n.buckets n.pages c.keep.new.olds c.insert.result
    (record { page = c.args.page; key = c.args.row.now.key; kind = c.args.row.now.kind; kept = c.in_ok-kept.kept })
    c.insert.ensures.vacant c.insert.ensures.row c.insert.ensures.stands c.in_ok-kept.ensures.uses c.in_ok-kept.ensures.others

pub returns-clause-added : goal.returns-clause-added
returns-clause-added c =
    let t = c.self.inside in let f = t.filing in let r = c.make_room.new.filing in let e = c.make_room.ensures in let n = c.insert.new.filing in let row = c.args.row.now in
    let roomier = table_roomier f.rows f.all f.buckets f.pages t.olds c.self.invariant r.rows r.all r.buckets r.pages r.rows.capacity e.slots e.stands in
    shown_more r.rows r.all r.buckets r.pages t.olds roomier n.rows n.all n.buckets n.pages c.keep.new.olds c.insert.result
    (record { page = c.args.page; key = row.key; kind = row.kind; kept = c.in_ok-kept.kept })
    c.insert.ensures.vacant c.insert.ensures.row c.insert.ensures.stands c.in_ok-kept.ensures.uses c.in_ok-kept.ensures.others
    ∙ ap (λ d. pairs_in r.rows r.all t.olds ++ (c.args.page, record { key = row.key; kind = row.kind; old = d }) ∷ []) c.in_ok-kept.ensures.shown
    ∙ ap (λ l. l ++ (c.args.page, row) ∷ []) (shown_roomier f.rows f.all f.buckets f.pages t.olds c.self.invariant r.rows r.all r.buckets r.pages r.rows.capacity e.slots e.stands ∙ c.self.view_is)
