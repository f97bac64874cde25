use Rattle.std.proofs.Common.{ap, subst}
use Rattle.page_shelf.specs.declared.ShelfName.{ShelfName}
use Rattle.page_shelf.specs.declared.ShelfPart.TheVariants.{Bits}
use Rattle.archive_record.specs.declared.BitsHead.{BitsHead}
use Rattle.router_account.specs.Shelves.{ShelfView}
use Rattle.shelved_page.specs.Reading.{as_bits, true_bits, IsFetched}
use Rattle.shelved_page.proofs.Lengths.{short_bits}
use Rattle.shelved_page.proofs.reading.fetch_bits.Goals as goal

pub returns-clause-got : goal.returns-clause-got
returns-clause-got g c = λ rules a page head n fits d.
    let x : ShelfView = record { tells = g.H.Shelf.tells c.args.shelf.now; contents = g.H.Shelf.contents c.args.shelf.now; faults = g.H.Shelf.faults c.args.shelf.now } in
    let z : ShelfView = record { tells = g.H.Shelf.tells c.fetch.new.shelf; contents = g.H.Shelf.contents c.fetch.new.shelf; faults = g.H.Shelf.faults c.fetch.new.shelf } in
    let value = as_bits (true_bits rules a page) in
    let got = c.in_ok-got.ensures.got value fits.fits fits.plain d (short_bits (true_bits rules a page) fits.fits.high) in
    c.bits_back.ensures.got rules a page x z head n
    (subst (λ (m : ShelfName). IsFetched m value x z c.in_ok-got.got) (ap (λ (h : BitsHead). let m : ShelfName = record { router = h.router; page = h.page; part = Bits } in m) head) got)
