use Rattle.std.proofs.Common.{take}
use Rattle.std.specs.List.{filter, flat_map}
use Rattle.spie_base.specs.declared.RouterId.{RouterId}
use Rattle.reverse_flood.specs.Flood.{is_within}
use Rattle.reverse_flood.specs.Leads.{Names, pairs_with}
use Rattle.reverse_flood.proofs.leads.add_steps.Given as goal

abbrev pub invariant-loop-sig : goal.invariant-loop-sig
invariant-loop-sig l = record {
  names : Names l.lane l.topology (flat_map (pairs_with (filter (λ (q : RouterId). is_within l.topology l.bound q.number) l.near)) (take l.sig-index l.origins)) l.fn.search l.search l.fn.leads l.leads;
}
