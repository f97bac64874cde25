use Rattle.std.proofs.Common.{◌≡◌, ◌-◌, ◌^◌, ◌≤◌, List, None, length}
use Rattle.reverse_flood.specs.declared.graphs.Node.{Node}
use Rattle.reverse_flood.specs.Flood.{net_of, is_within}
use Rattle.reverse_flood.specs.Leads.{AreLeads, KeepsNames, LeadsOut, NamesWithin}
use Rattle.reverse_flood.specs.Search.{IsFine, IsUnderWay}
use Rattle.reverse_flood.proofs.AskFacts.{waiting_from}
use Rattle.reverse_flood.proofs.asks.follow.Given as goal

abbrev pub invariant-loop-next : goal.invariant-loop-next
invariant-loop-next g l =
    let net = net_of g.S.Sighting.shown l.sights l.topology in
    let inside = is_within l.topology l.bound in
    record {
      few : length l.topology.names ≤ 64;
      fine : IsFine l.search;
      kept : KeepsNames l.fn.search l.search;
      home : AreLeads l.topology l.search l.leads.home.items;
      away : AreLeads l.topology l.search l.leads.away.items;
      stays : l.lane ≡ None → l.leads.away.items ≡ l.fn.leads.away.items;
      elsewhere : LeadsOut (is_within l.topology l.lane) l.fn.leads.away.items l.leads.away.items;
      within : NamesWithin (is_within l.topology l.lane) l.fn.search l.search l.leads.away.items;
      bound : l.next ≤ length l.leads.home.items;
      under_way : (entries rest : List Node) → IsUnderWay net inside entries l.fn.search (waiting_from l.fn.leads.home.items 0 l.fn.leads.away.items rest) → IsUnderWay net inside entries l.search (waiting_from l.leads.home.items l.next l.leads.away.items rest);
    }

abbrev pub decreases-loop-next : goal.decreases-loop-next
decreases-loop-next g l = 2 ^ 64 - l.next
