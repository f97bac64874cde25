use Rattle.std.proofs.Common.{None, take}
use Rattle.reverse_flood.specs.Leads.{HomeFrom, Names}
use Rattle.reverse_flood.proofs.leads.add_each.Given as goal

abbrev pub invariant-loop-node : goal.invariant-loop-node
invariant-loop-node l = record {
  names : Names None l.topology (take l.node-index l.nodes) l.fn.search l.search l.fn.leads l.leads;
  from : HomeFrom (take l.node-index l.nodes) l.fn.leads.home.items l.leads.home.items;
}
