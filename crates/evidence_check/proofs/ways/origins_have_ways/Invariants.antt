use Rattle.std.proofs.Common.{◌≤◌, ◌-◌, length}
use Rattle.evidence_check.specs.Pairs.{HaveWays}
use Rattle.evidence_check.proofs.OriginWalks.{IsWalked}
use Rattle.evidence_check.proofs.ways.origins_have_ways.Given as goal

abbrev pub invariant-loop-next : goal.invariant-loop-next
invariant-loop-next l = record {
  within : l.next ≤ length l.origins;
  ways : HaveWays l.pairs l.edges l.down (IsWalked l.near l.origins l.next);
}

abbrev pub decreases-loop-next : goal.decreases-loop-next
decreases-loop-next l = length l.origins - l.next
