use Rattle.std.proofs.Common.{◌∙◌, sym, ap, subst}
use Rattle.router_account.specs.Shelves.{ShelfView}
use Rattle.shelved_page.specs.Shelving.{view_of}
use Rattle.shelved_page.specs.Reading.{IsBack}
use Rattle.data_agent.specs.Residents.{IsRead}
use Rattle.data_agent.proofs.Kept.{times_of}
use Rattle.data_agent.proofs.ReadingBack.{back_is, got_is}
use Rattle.data_agent.proofs.agent.Agent.read_page.Goals as goal

pub of-requires-clause-size : goal.of-requires-clause-size
of-requires-clause-size g c =
    let (rules, l, s, from, to, ds) = c.requires.closed in
    let x : ShelfView = view_of g.H.Shelf.tells g.H.Shelf.contents g.H.Shelf.faults c.args.shelf.now in
    let z : ShelfView = view_of g.H.Shelf.tells g.H.Shelf.contents g.H.Shelf.faults c.read_back.new.shelf in
    let back = subst (IsBack rules l.account c.args.page.number x z) c.in-Got.is
    (back_is c.args.self.now rules l c.args.page.number c.head.result c.args.digests.now x z c.in_ok-content.field-0 s from to (c.head.ensures rules l.account (times_of c.args.self.now rules l.account s.pages) to) ds c.in_ok-content.ensures.got) in
    back.0.bits.n ∙ sym (ap (λ r. r.n) s.pages.rules_are)

pub returns-in_ok-resident-in-Got-clause-read : goal.returns-in_ok-resident-in-Got-clause-read
returns-in_ok-resident-in-Got-clause-read g c = λ rules l s ds.
    let (rules0, l0, s0, from, to, ds0) = c.requires.closed in
    let x : ShelfView = view_of g.H.Shelf.tells g.H.Shelf.contents g.H.Shelf.faults c.args.shelf.now in
    let z : ShelfView = view_of g.H.Shelf.tells g.H.Shelf.contents g.H.Shelf.faults c.read_back.new.shelf in
    let back = subst (IsBack rules l.account c.args.page.number x z) c.in-Got.is
    (back_is c.args.self.now rules l c.args.page.number c.head.result c.args.digests.now x z c.in_ok-content.field-0 s from to (c.head.ensures rules l.account (times_of c.args.self.now rules l.account s.pages) to) ds c.in_ok-content.ensures.got) in
    got_is c.args.self.now rules l c.args.page.number c.in-Got.content c.of-page.result x s
    (subst (IsRead c.args.self.now.rules c.args.self.now.router.number c.args.page.number c.in-Got.content.bits) (sym c.of-page.ensures.resident) c.in_ok-resident-in-Got.ensures)
    (record { read = c.of-page.ensures.read; same = c.of-page.ensures.same }) back

pub returns-in-Bad-clause-read : goal.returns-in-Bad-clause-read
returns-in-Bad-clause-read g c = λ rules l s ds.
    let (rules0, l0, s0, from, to, ds0) = c.requires.closed in
    let x : ShelfView = view_of g.H.Shelf.tells g.H.Shelf.contents g.H.Shelf.faults c.args.shelf.now in
    let z : ShelfView = view_of g.H.Shelf.tells g.H.Shelf.contents g.H.Shelf.faults c.read_back.new.shelf in
    subst (IsBack rules l.account c.args.page.number x z) c.in-Bad.is
    (back_is c.args.self.now rules l c.args.page.number c.head.result c.args.digests.now x z c.in_ok-content.field-0 s from to (c.head.ensures rules l.account (times_of c.args.self.now rules l.account s.pages) to) ds c.in_ok-content.ensures.got)
