use Rattle.std.proofs.Common.{◌≡◌, ◌<◌, sym, subst, arith}
use Rattle.bloom_page.specs.Sets.{is_in}
use Rattle.router_account.specs.Shelves.{ShelfView}
use Rattle.shelved_page.specs.Shelving.{IsPut, view_of}
use Rattle.data_agent.specs.declared.agent.Agent.{Agent}
use Rattle.data_agent.specs.declared.closed_page.Whereabouts.TheVariants.{InMemory}
use Rattle.data_agent.specs.Archiving.{IsSized, place_at}
use Rattle.data_agent.specs.Standing.{standing}
use Rattle.data_agent.proofs.Fitting.{held_at, noted_fits, put_held}
use Rattle.data_agent.proofs.Noting.{noted_put_once}
use Rattle.data_agent.proofs.agent.Agent.note.Goals as goal

pub put_bits-requires : goal.put_bits-requires
put_bits-requires g c =
    let agent : Agent = c.args.self.now in
    let (rules, l, k) = c.requires.knows in
    let page = c.args.page.number in
    let first : c.first.result ≡ agent.catalogue.gone = c.first.ensures in
    let here : page < standing agent = omega (arith, first, c.if-page-first.false, c.len.ensures, k.within, k.times.few) in
    let at : place_at agent page ≡ InMemory c.in-Some.resident.now = held_at (place_at agent page) c.held.result c.in-Some.resident c.held.ensures c.in-Some.is in
    let sized = subst (IsSized rules (is_in l.put_before page)) at (k.sized page c.requires.closed.0 here) in
    noted_fits agent rules l page c.head.result c.in-Some.resident.now.page k c.requires.closed.1 (c.head.ensures rules l.account k.times c.requires.closed.1) sized.1

pub returns-clause-noted : goal.returns-clause-noted
returns-clause-noted g c = λ rules l k.
    let agent : Agent = c.args.self.now in
    let page = c.args.page.number in
    let x : ShelfView = view_of g.H.Shelf.tells g.H.Shelf.contents g.H.Shelf.faults c.args.shelf.now in
    let z : ShelfView = view_of g.H.Shelf.tells g.H.Shelf.contents g.H.Shelf.faults c.put_bits.new.shelf in
    let first : c.first.result ≡ agent.catalogue.gone = c.first.ensures in
    let here : page < standing agent = omega (arith, first, c.if-page-first.false, c.len.ensures, k.within, k.times.few) in
    let at : place_at agent page ≡ InMemory c.in-Some.resident.now = held_at (place_at agent page) c.held.result c.in-Some.resident c.held.ensures c.in-Some.is in
    let sized = subst (IsSized rules (is_in l.put_before page)) at (k.sized page c.requires.closed.0 here) in
    let put = put_held agent rules l page c.head.result c.in-Some.resident.now x z c.in_ok-put.put (c.head.ensures rules l.account k.times c.requires.closed.1) sized.1 at c.in_ok-put.ensures.put in
    (sized.0, noted_put_once agent rules l.account c.args.page c.of.result x z here c.of.ensures.known (subst (IsPut _ _ x z) (sym c.of.ensures.digest) put))
