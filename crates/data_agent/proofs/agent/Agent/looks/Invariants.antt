use Rattle.std.proofs.Common.{◌≤◌, ◌+◌, ◌-◌, max}
use Rattle.spie_base.specs.declared.Rules.{Rules}
use Rattle.router_account.specs.Ledger.{Ledger}
use Rattle.shelved_page.specs.Reading.{Gets}
use Rattle.shelved_page.specs.Shelving.{view_of}
use Rattle.data_agent.specs.Looking.{LooksTo}
use Rattle.data_agent.specs.Standing.{Stands}
use Rattle.data_agent.proofs.agent.Agent.looks.Given as goal

-- the pages before this one were looked at
abbrev pub invariant-pages : goal.invariant-pages
invariant-pages g l = record {
  within : l.number ≤ max l.from (l.last + 1);
  gets : Gets (view_of g.H.Shelf.tells g.H.Shelf.contents g.H.Shelf.faults l.fn.shelf) (view_of g.H.Shelf.tells g.H.Shelf.contents g.H.Shelf.faults l.shelf);
  looked : (rules : Rules) (m : Ledger) → Stands l.self rules m → LooksTo rules m l.from (l.number - l.from) l.looks.items (view_of g.H.Shelf.tells g.H.Shelf.contents g.H.Shelf.faults l.fn.shelf) (view_of g.H.Shelf.tells g.H.Shelf.contents g.H.Shelf.faults l.shelf);
}
