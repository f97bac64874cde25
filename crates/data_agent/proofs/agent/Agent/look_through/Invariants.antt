use Rattle.std.proofs.Common.{ℕ, ◌≡◌, ◌≤◌, ◌<◌, List, false}
use Rattle.spie_base.specs.declared.Rules.{Rules}
use Rattle.gate_core.specs.declared.view.Probed.{Probed}
use Rattle.router_account.specs.Ledger.{Ledger}
use Rattle.data_agent.specs.Planes.{IsOwnPlane}
use Rattle.data_agent.specs.Probing.{HasNoted}
use Rattle.data_agent.specs.Standing.{StandsAmid}
use Rattle.data_agent.specs.Watching.{shows_now}
use Rattle.data_agent.proofs.ReadMarks.{AreUnseen}
use Rattle.data_agent.proofs.agent.Agent.look_through.Given as goal

-- no page before this one shows the signature, and the keeper alone noted something
abbrev pub invariant-pages : goal.invariant-pages
invariant-pages l = record {
  own : IsOwnPlane l.plane l.self;
  read : (reads : List Probed) × HasNoted l.fn.self l.self reads × AreUnseen l.fn.self reads l.window.first.number l.page l.sig;
  unseen : (rules : Rules) (m : Ledger) → StandsAmid l.fn.self rules m → (page : ℕ) → l.fn.self.catalogue.gone ≤ page → l.window.first.number ≤ page → page < l.page → shows_now rules m l.sig page ≡ false;
  amid : (rules : Rules) (m : Ledger) → StandsAmid l.fn.self rules m → StandsAmid l.self rules m;
}
