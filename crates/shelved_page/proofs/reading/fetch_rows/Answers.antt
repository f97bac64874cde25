use Rattle.std.proofs.Common.{ap, subst}
use Rattle.page_shelf.specs.declared.ShelfName.{ShelfName}
use Rattle.page_shelf.specs.declared.ShelfPart.TheVariants.{Rows}
use Rattle.router_account.specs.Shelves.{ShelfView}
use Rattle.shelved_page.specs.Reading.{as_rows, true_rows, IsFetched}
use Rattle.shelved_page.proofs.Lengths.{short_rows}
use Rattle.shelved_page.proofs.reading.fetch_rows.Goals as goal

pub returns-clause-got : goal.returns-clause-got
returns-clause-got g c = λ rules a router fits d.
    let x : ShelfView = record { tells = g.H.Shelf.tells c.args.shelf.now; contents = g.H.Shelf.contents c.args.shelf.now; faults = g.H.Shelf.faults c.args.shelf.now } in
    let z : ShelfView = record { tells = g.H.Shelf.tells c.fetch.new.shelf; contents = g.H.Shelf.contents c.fetch.new.shelf; faults = g.H.Shelf.faults c.fetch.new.shelf } in
    let page = c.args.page.number in
    let value = as_rows (true_rows a page) in
    let got = c.in_ok-got.ensures.got value fits.fits fits.plain d (short_rows (true_rows a page) fits.plain fits.fits.count) in
    c.rows_back.ensures.got a x z router
    (subst (λ (m : ShelfName). IsFetched m value x z c.in_ok-got.got) (ap (λ r. let m : ShelfName = record { router = record { number = r }; page = record { number = page }; part = Rows } in m) router) got)
