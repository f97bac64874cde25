use Rattle.std.proofs.Common.{◌≡◌, ◌++◌, take}
use Rattle.reverse_flood.specs.Leads.{nodes_of}
use Rattle.traceback_manager.proofs.beside.push_away.Given as goal

abbrev pub invariant-loop-lead : goal.invariant-loop-lead
invariant-loop-lead l = l.round.items ≡ l.fn.round.items ++ nodes_of (take l.lead-index l.seat.desk.leads.away.items)
