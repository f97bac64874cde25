use Rattle.std.proofs.Common.{◌≡◌, ◌≤◌}
use Rattle.spie_base.specs.declared.Rules.{Rules}
use Rattle.router_account.specs.Ledger.{Ledger}
use Rattle.shelved_page.specs.Shelving.{view_of}
use Rattle.data_agent.specs.Archiving.{KnowsPages, NotesTo}
use Rattle.data_agent.proofs.agent.Agent.notes.Given as goal

-- the pages before this one are noted
abbrev pub invariant-pages : goal.invariant-pages
invariant-pages g l = record {
  later : g.H.Shelf.faults l.fn.shelf ≤ g.H.Shelf.faults l.shelf;
  still : g.H.Shelf.tells l.shelf ≡ g.H.Shelf.tells l.fn.shelf;
  within : l.number ≤ l.self.page.number;
  noted : (rules : Rules) (m : Ledger) → KnowsPages l.self rules m → NotesTo l.self rules m l.self.catalogue.gone l.number l.notes.items (view_of g.H.Shelf.tells g.H.Shelf.contents g.H.Shelf.faults l.fn.shelf) (view_of g.H.Shelf.tells g.H.Shelf.contents g.H.Shelf.faults l.shelf);
}
