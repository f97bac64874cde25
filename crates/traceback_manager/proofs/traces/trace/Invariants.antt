use Rattle.std.proofs.Common.{◌≡◌, ◌∷◌, []}
use Rattle.reverse_flood.specs.Flood.{net_of, everywhere}
use Rattle.reverse_flood.specs.Leads.{nodes_of, AreLeads}
use Rattle.reverse_flood.specs.Search.{IsFine, IsUnderWay}
use Rattle.traceback_manager.proofs.traces.trace.Given as goal

abbrev pub invariant-loop-turn : goal.invariant-loop-turn
invariant-loop-turn g l = record {
  fine : IsFine l.search;
  home : l.leads.home.items ≡ [];
  away : l.leads.away.items ≡ [];
  round : AreLeads l.topology l.search l.round.items;
  under_way : IsUnderWay (net_of g.S.Sighting.shown l.sights l.topology) everywhere (l.start ∷ []) l.search (nodes_of l.round.items);
}
