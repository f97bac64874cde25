use Rattle.std.proofs.Common.{◌≡◌, ap, subst}
use Rattle.sha2.specs.Sha256.{sha256}
use Rattle.page_shelf.specs.declared.ShelfPart.TheVariants.{Rows}
use Rattle.router_account.specs.Records.{true_text}
use Rattle.archive_record.specs.declared.BitsHead.{BitsHead}
use Rattle.router_account.specs.Shelves.{ShelfView}
use Rattle.shelved_page.specs.declared.reading.BitsBack.{BitsBack}
use Rattle.shelved_page.specs.declared.reading.Content.{Content}
use Rattle.shelved_page.specs.Reading.{IsBitsBack, IsRowsBack, IsTrueRows}
use Rattle.shelved_page.proofs.Backs.{cause_of_rows, true_back}
use Rattle.shelved_page.proofs.reading.read_back.Goals as goal

pub returns-in-LostRows-clause-got : goal.returns-in-LostRows-clause-got
returns-in-LostRows-clause-got g c = λ rules a page head n fits fit_rows d e.
    let x : ShelfView = record { tells = g.H.Shelf.tells c.args.shelf.now; contents = g.H.Shelf.contents c.args.shelf.now; faults = g.H.Shelf.faults c.args.shelf.now } in
    let y : ShelfView = record { tells = g.H.Shelf.tells c.fetch_bits.new.shelf; contents = g.H.Shelf.contents c.fetch_bits.new.shelf; faults = g.H.Shelf.faults c.fetch_bits.new.shelf } in
    let z : ShelfView = record { tells = g.H.Shelf.tells c.fetch_rows.new.shelf; contents = g.H.Shelf.contents c.fetch_rows.new.shelf; faults = g.H.Shelf.faults c.fetch_rows.new.shelf } in
    let at : c.args.head.now.page.number ≡ page = ap (λ (h : BitsHead). h.page.number) head in
    let router : c.args.head.now.router.number ≡ a.router = ap (λ (h : BitsHead). h.router.number) head in
    let got : IsRowsBack a page y z c.in_ok-rows.field-0 =
    subst (λ k. IsTrueRows a k → c.args.digests.now.rows ≡ sha256 (true_text rules a k Rows) → IsRowsBack a k y z c.in_ok-rows.field-0) at (c.in_ok-rows.ensures.got rules a router) fit_rows e in
    cause_of_rows rules a page x y z c.in-LostRows.cause c.in_ok-bits.ensures.gets (subst (IsRowsBack a page y z) c.in-LostRows.is got)

pub returns-clause-got : goal.returns-clause-got
returns-clause-got g c = λ rules a page head n fits fit_rows d e.
    let x : ShelfView = record { tells = g.H.Shelf.tells c.args.shelf.now; contents = g.H.Shelf.contents c.args.shelf.now; faults = g.H.Shelf.faults c.args.shelf.now } in
    let y : ShelfView = record { tells = g.H.Shelf.tells c.fetch_bits.new.shelf; contents = g.H.Shelf.contents c.fetch_bits.new.shelf; faults = g.H.Shelf.faults c.fetch_bits.new.shelf } in
    let z : ShelfView = record { tells = g.H.Shelf.tells c.fetch_rows.new.shelf; contents = g.H.Shelf.contents c.fetch_rows.new.shelf; faults = g.H.Shelf.faults c.fetch_rows.new.shelf } in
    let at : c.args.head.now.page.number ≡ page = ap (λ (h : BitsHead). h.page.number) head in
    let router : c.args.head.now.router.number ≡ a.router = ap (λ (h : BitsHead). h.router.number) head in
    let got : IsRowsBack a page y z c.in_ok-rows.field-0 =
    subst (λ k. IsTrueRows a k → c.args.digests.now.rows ≡ sha256 (true_text rules a k Rows) → IsRowsBack a k y z c.in_ok-rows.field-0) at (c.in_ok-rows.ensures.got rules a router) fit_rows e in
    let made : Content = record { bits = c.in-GotBits.bits; rows = c.in-GotRows.rows } in
    let b = subst (λ (o : BitsBack). IsBitsBack rules a page x y o) c.in-GotBits.is (c.in_ok-bits.ensures.got rules a page head n fits d) in
    true_back rules a page made x y z c.in_ok-bits.ensures.gets b (subst (IsRowsBack a page y z) c.in-GotRows.is got)
