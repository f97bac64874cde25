use Rattle.std.proofs.Common.{Bool, not, ◌&&◌, sym, subst}
use Rattle.router_account.specs.Shelves.{ShelfView}
use Rattle.shelved_page.specs.Shelving.{Clears}
use Rattle.shelved_page.proofs.Discards.{cleared}
use Rattle.shelved_page.proofs.shelving.discard_both.Goals as goal

pub returns-then-bits-clause-cleared : goal.returns-then-bits-clause-cleared
returns-then-bits-clause-cleared g c =
    let x : ShelfView = record { tells = g.H.Shelf.tells c.args.shelf.now; contents = g.H.Shelf.contents c.args.shelf.now; faults = g.H.Shelf.faults c.args.shelf.now } in
    let y : ShelfView = record { tells = g.H.Shelf.tells c.discard_one.new.shelf; contents = g.H.Shelf.contents c.discard_one.new.shelf; faults = g.H.Shelf.faults c.discard_one.new.shelf } in
    let z : ShelfView = record { tells = g.H.Shelf.tells c.discard_one-2.new.shelf; contents = g.H.Shelf.contents c.discard_one-2.new.shelf; faults = g.H.Shelf.faults c.discard_one-2.new.shelf } in
    subst (λ (b : Bool). Clears c.args.router.number c.args.page.number (not (b && c.in_ok-rows.rows)) x z) c.if-bits.true
    (cleared c.args.router.number c.args.page.number x y z c.in_ok-bits.bits c.in_ok-rows.rows c.in_ok-bits.ensures.discarded c.in_ok-rows.ensures.discarded)

pub returns-else-bits-clause-cleared : goal.returns-else-bits-clause-cleared
returns-else-bits-clause-cleared g c =
    let x : ShelfView = record { tells = g.H.Shelf.tells c.args.shelf.now; contents = g.H.Shelf.contents c.args.shelf.now; faults = g.H.Shelf.faults c.args.shelf.now } in
    let y : ShelfView = record { tells = g.H.Shelf.tells c.discard_one.new.shelf; contents = g.H.Shelf.contents c.discard_one.new.shelf; faults = g.H.Shelf.faults c.discard_one.new.shelf } in
    let z : ShelfView = record { tells = g.H.Shelf.tells c.discard_one-2.new.shelf; contents = g.H.Shelf.contents c.discard_one-2.new.shelf; faults = g.H.Shelf.faults c.discard_one-2.new.shelf } in
    subst (λ (b : Bool). Clears c.args.router.number c.args.page.number (not b) x z) (sym c.if-bits.false)
    (subst (λ (b : Bool). Clears c.args.router.number c.args.page.number (not (b && c.in_ok-rows.rows)) x z) c.if-bits.false
    (cleared c.args.router.number c.args.page.number x y z c.in_ok-bits.bits c.in_ok-rows.rows c.in_ok-bits.ensures.discarded c.in_ok-rows.ensures.discarded))
