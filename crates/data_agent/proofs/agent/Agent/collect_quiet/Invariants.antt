use Rattle.std.proofs.Common.{◌≡◌, ◌≤◌}
use Rattle.data_agent.specs.Archiving.{KeepsStanding}
use Rattle.data_agent.specs.Beside.{MindsPages, out_of}
use Rattle.data_agent.specs.Planes.{IsOwnPlane}
use Rattle.data_agent.specs.Standing.{standing}
use Rattle.data_agent.proofs.agent.Agent.collect_quiet.Given as goal

-- the pages before this one were collected
abbrev pub invariant-pages : goal.invariant-pages
invariant-pages l = record {
  own : IsOwnPlane l.plane l.self;
  minds : MindsPages l.self;
  keeps : KeepsStanding l.fn.self l.self;
  here : standing l.self ≡ l.counter;
  within : l.counter ≤ l.fn.self.page.number;
  out : out_of l.self ≡ out_of l.fn.self;
}
