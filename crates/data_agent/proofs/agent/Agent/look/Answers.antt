use Rattle.std.proofs.Common.{◌-◌, ◌∙◌, ap, arith, get_or}
use Rattle.router_account.specs.Shelves.{ShelfView}
use Rattle.shelved_page.specs.Shelving.{view_of}
use Rattle.data_agent.proofs.ReadingBack.{on_shelf_is, looked_of}
use Rattle.data_agent.proofs.Results.{if_ok}
use Rattle.data_agent.proofs.agent.Agent.look.Goals as goal

pub returns-in-OnShelf-clause-looked : goal.returns-in-OnShelf-clause-looked
returns-in-OnShelf-clause-looked g c =
    let x : ShelfView = view_of g.H.Shelf.tells g.H.Shelf.contents g.H.Shelf.faults c.args.shelf.now in
    let z : ShelfView = view_of g.H.Shelf.tells g.H.Shelf.contents g.H.Shelf.faults c.read_page.new.shelf in
    let (rules0, l0, s0, from, to) = c.requires.near in
    if_ok c.read_page.result (λ looked read rules l s.
    let here = on_shelf_is c.args.self.now rules l c.args.page.number c.index.result.now c.in-OnShelf.digests s from (omega (arith, to, c.if-page-self.false))
    (c.index.ensures ∙ ap (λ f. get_or c.args.self.now.closed.items (c.args.page.number - f) c.index.result.now) c.first.ensures) c.in-OnShelf.is in
    looked_of rules l c.args.page.number x z looked here.0 (read rules l s here.1)) c.read_page.ensures.read
