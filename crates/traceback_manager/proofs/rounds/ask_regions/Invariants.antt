use Rattle.std.proofs.Common.{◌≡◌, ◌++◌, [], List}
use Rattle.reverse_flood.specs.declared.graphs.Node.{Node}
use Rattle.reverse_flood.specs.Flood.{net_of, everywhere}
use Rattle.reverse_flood.specs.Leads.{nodes_of, AreLeads, KeepsNames}
use Rattle.reverse_flood.specs.Search.{IsFine, IsUnderWay}
use Rattle.traceback_manager.specs.Rounds.{later}
use Rattle.traceback_manager.proofs.rounds.ask_regions.Given as goal

abbrev pub invariant-loop-region : goal.invariant-loop-region
invariant-loop-region g l =
    let net = net_of g.S.Sighting.shown l.sights l.topology in
    record {
      fine : IsFine l.search;
      kept : KeepsNames l.fn.search l.search;
      home : l.leads.home.items ≡ [];
      away : AreLeads l.topology l.search l.leads.away.items;
      under_way : (entries : List Node) → IsUnderWay net everywhere entries l.fn.search (nodes_of l.round) → IsUnderWay net everywhere entries l.search (nodes_of l.leads.away.items ++ nodes_of (later l.topology l.region l.round));
    }
