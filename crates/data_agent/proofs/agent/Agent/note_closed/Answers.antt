use Rattle.std.proofs.Common.{arith}
use Rattle.spie_base.proofs.Membership.{into_map}
use Rattle.router_account.specs.Shelves.{ShelfView}
use Rattle.shelved_page.specs.Shelving.{view_of}
use Rattle.data_agent.specs.Archiving.{held_bits}
use Rattle.data_agent.specs.Standing.{noted_page}
use Rattle.data_agent.proofs.Covering.{archived, more_of}
use Rattle.data_agent.proofs.CoveringBeside.{archived_beside}
use Rattle.data_agent.proofs.agent.Agent.note_closed.Goals as goal

pub returns-clause-noted : goal.returns-clause-noted
returns-clause-noted g c =
    let (rules, l, k) = c.requires.knows in
    let x : ShelfView = view_of g.H.Shelf.tells g.H.Shelf.contents g.H.Shelf.faults c.args.shelf.now in
    let z : ShelfView = view_of g.H.Shelf.tells g.H.Shelf.contents g.H.Shelf.faults c.notes.new.shelf in (
      more_of (held_bits c.args.self.now) c.in_ok-notes.notes.items,
      archived c.args.self.now c.in_ok-notes.notes x z c.requires.none c.in_ok-notes.ensures.noted,
      (λ away. archived_beside c.args.self.now c.in_ok-notes.notes x z c.requires.none c.in_ok-notes.ensures.noted away),
      (c.in_ok-notes.ensures.noted rules l k).rose,
    )

pub returns-clause-deferred : goal.returns-clause-deferred
returns-clause-deferred g c = λ page (note, has, at, is).
    let (rules, l, k) = c.requires.knows in
    let noted = c.in_ok-notes.ensures.noted rules l k in
    let (from, to, unput) = (noted.covers note.page.number).0 (into_map noted_page c.in_ok-notes.notes.items note has) in
    let low = noted.known note has is in
    (omega arith, omega arith)
