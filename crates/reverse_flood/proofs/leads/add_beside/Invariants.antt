use Rattle.std.proofs.Common.{take}
use Rattle.std.specs.List.{filter}
use Rattle.spie_base.specs.declared.RouterId.{RouterId}
use Rattle.reverse_flood.specs.Flood.{is_within}
use Rattle.reverse_flood.specs.Leads.{Names, pairs_with}
use Rattle.reverse_flood.proofs.leads.add_beside.Given as goal

abbrev pub invariant-loop-router : goal.invariant-loop-router
invariant-loop-router l = record {
  names : Names l.lane l.topology (pairs_with (filter (λ (q : RouterId). is_within l.topology l.bound q.number) (take l.router-index l.near)) l.sig) l.fn.search l.search l.fn.leads l.leads;
}
