use Rattle.std.proofs.Common.{◌≡◌, ◌+◌, ◌-◌, ◌∙◌, ◌&&◌, [], ap, cond, drop, nat_le, nat_lt, refl, arith}
use Rattle.page_catalogue.specs.Catalogues.{Catalogued}
use Rattle.transform_table.specs.Tables.{rows_of_page}
use Rattle.router_account.specs.Shelves.{ShelfView}
use Rattle.shelved_page.specs.Shelving.{view_of}
use Rattle.data_agent.proofs.Expiry.{expired, none_expired, some_expired}
use Rattle.data_agent.proofs.Results.{if_ok}
use Rattle.data_agent.proofs.agent.Agent.expire.Goals as goal

pub returns-in_default-clause-discarded : goal.returns-in_default-clause-discarded
returns-in_default-clause-discarded g c = λ rules l s.
    let x : ShelfView = view_of g.H.Shelf.tells g.H.Shelf.contents g.H.Shelf.faults c.args.shelf.now in
    none_expired c.args.self.now rules l c.args.clock c.expire.new.self.gone c.new.result.items x s c.expire.ensures.exact c.in_default.ensures.now c.new.ensures.items

pub returns-clause-discarded : goal.returns-clause-discarded
returns-clause-discarded g c =
    let x : ShelfView = view_of g.H.Shelf.tells g.H.Shelf.contents g.H.Shelf.faults c.args.shelf.now in
    let z : ShelfView = view_of g.H.Shelf.tells g.H.Shelf.contents g.H.Shelf.faults c.discard_pages-left.new.shelf in
    if_ok c.discard_pages-left.result (λ left d rules l s.
    some_expired c.args.self.now rules l c.args.clock c.expire.new.self.gone c.in-Some.pages.first.number c.in-Some.pages.last.number left.items x z s c.expire.ensures.exact
    c.in-Some.ensures.now.0 c.in-Some.ensures.now.1 c.expire.ensures.never_back c.expire.ensures.within d) c.discard_pages-left.ensures.discarded

pub returns-clause-expired : goal.returns-clause-expired
returns-clause-expired g c = λ rules l s.
    let is = c.expire.ensures.expired in
    let now = c.in-Some.ensures.now in
    let many : c.in-Some.pages.last.number - c.in-Some.pages.first.number + 1 ≡ c.expire.new.self.gone - c.args.self.now.catalogue.gone = let a = now.0 in let b = now.1 in let d = now.2 in omega arith in
    expired c.args.self.now _ rules l c.args.clock s refl refl refl refl refl
    (ap (λ (x : Catalogued). x.rules) is) (ap (λ (x : Catalogued). x.closings) is) (ap (λ (x : Catalogued). x.clock) is)
    c.expire.ensures.never_back c.expire.ensures.within c.expire.ensures.exact
    (c.let_go.ensures ∙ ap (λ n. drop n c.args.self.now.closed.items) many)
    (λ page. c.drop_rows.ensures page
    ∙ ap (λ n. cond (nat_le n page && nat_lt page (c.in-Some.pages.last.number + 1)) [] (rows_of_page page c.args.self.now.table)) now.0
    ∙ ap (λ n. cond (nat_le c.args.self.now.catalogue.gone page && nat_lt page n) [] (rows_of_page page c.args.self.now.table)) now.1)
