use Rattle.std.proofs.Common.{ℕ, ◌≡◌, ◌≤◌, ◌<◌, false}
use Rattle.spie_base.specs.declared.Rules.{Rules}
use Rattle.bloom_page.specs.Sets.{is_in}
use Rattle.router_account.specs.Ledger.{Ledger}
use Rattle.data_agent.specs.Standing.{StandsAmid}
use Rattle.data_agent.specs.Watching.{TellsShelf}
use Rattle.data_agent.proofs.agent.Agent.lacks.Given as goal

-- each page before this one is in memory
abbrev pub invariant-pages : goal.invariant-pages
invariant-pages l = record {
  here : (page : ℕ) → l.window.first.number ≤ page → page < l.page → TellsShelf l.self page false;
  unput : (rules : Rules) (m : Ledger) → StandsAmid l.self rules m → (page : ℕ) → l.window.first.number ≤ page → page < l.page → is_in m.put_before page ≡ false;
}
