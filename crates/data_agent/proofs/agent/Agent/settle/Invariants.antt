use Rattle.std.proofs.Common.{◌≡◌, take}
use Rattle.std.specs.List.{Contains}
use Rattle.spie_base.specs.declared.Rules.{Rules}
use Rattle.router_account.specs.Ledger.{Ledger}
use Rattle.data_agent.specs.declared.finishing.Settled.{Settled}
use Rattle.data_agent.specs.Finishing.{IsSettled, settled_all}
use Rattle.data_agent.specs.Planes.{IsPlaneSame}
use Rattle.data_agent.specs.Standing.{Stands}
use Rattle.data_agent.proofs.agent.Agent.settle.Given as goal

-- what became of the pages so far took effect
abbrev pub invariant-loop-one : goal.invariant-loop-one
invariant-loop-one l = record {
  catalogue : l.self.catalogue ≡ l.fn.self.catalogue;
  page : l.self.page ≡ l.fn.self.page;
  noted : l.self.noted ≡ l.fn.self.noted;
  plane : IsPlaneSame l.fn.self l.self;
  settled : (rules : Rules) (m : Ledger) → Stands l.fn.self rules m → ((one : Settled) → Contains l.fn.settled one → IsSettled rules m.account one) → Stands l.self rules (settled_all m (take l.one-index l.settled));
}
