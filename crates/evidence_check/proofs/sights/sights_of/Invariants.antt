use Rattle.std.proofs.Common.{◌≡◌, take}
use Rattle.evidence_check.proofs.sights.sights_of.Given as goal

abbrev pub invariant-loop-router : goal.invariant-loop-router
invariant-loop-router l = l.sights.items ≡ take l.router-index l.routers
