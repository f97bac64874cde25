use Rattle.std.proofs.Common.{◌≡◌, take}
use Rattle.reverse_flood.specs.Leads.{pairs_with}
use Rattle.evidence_check.proofs.walk.pairs_beside.Given as goal

abbrev pub invariant-loop-router : goal.invariant-loop-router
invariant-loop-router l = l.pairs.items ≡ pairs_with (take l.router-index l.near) l.sig
