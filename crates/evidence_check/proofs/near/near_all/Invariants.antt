use Rattle.std.proofs.Common.{◌≡◌, ◌≤◌, ◌-◌, length}
use Rattle.evidence_check.specs.Steps.{AreNear}
use Rattle.evidence_check.proofs.near.near_all.Given as goal

abbrev pub invariant-loop-number : goal.invariant-loop-number
invariant-loop-number l = record {
  within : l.number ≤ l.routers;
  each : length l.near.items ≡ l.number;
  near : AreNear l.links l.near.items;
}

abbrev pub decreases-loop-number : goal.decreases-loop-number
decreases-loop-number l = l.routers - l.number
