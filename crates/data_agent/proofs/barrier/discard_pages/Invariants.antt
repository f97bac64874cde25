use Rattle.std.proofs.Common.{◌≡◌, ◌≤◌, ◌+◌}
use Rattle.shelved_page.specs.Shelving.{view_of}
use Rattle.data_agent.specs.Expiring.{Discards, covers_at}
use Rattle.data_agent.proofs.barrier.discard_pages.Given as goal

-- of the pages before this one the records are discarded
abbrev pub invariant-pages : goal.invariant-pages
invariant-pages g l = record {
  later : g.H.Shelf.faults l.fn.shelf ≤ g.H.Shelf.faults l.shelf;
  still : g.H.Shelf.tells l.shelf ≡ g.H.Shelf.tells l.fn.shelf;
  within : l.number ≤ l.pages.last.number + 1;
  discarded : Discards l.router.number (covers_at l.pages.first.number l.closed.items) l.pages.first.number l.number l.left.items (view_of g.H.Shelf.tells g.H.Shelf.contents g.H.Shelf.faults l.fn.shelf) (view_of g.H.Shelf.tells g.H.Shelf.contents g.H.Shelf.faults l.shelf);
}
