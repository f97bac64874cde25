use Rattle.std.proofs.Common.{◌≤◌, ◌-◌, length}
use Rattle.evidence_check.specs.Pairs.{AreListed}
use Rattle.evidence_check.proofs.OriginWalks.{IsWalked}
use Rattle.evidence_check.proofs.ends.origins_listed.Given as goal

abbrev pub invariant-loop-next : goal.invariant-loop-next
invariant-loop-next l = record {
  within : l.next ≤ length l.origins;
  listed : AreListed l.pairs (IsWalked l.near l.origins l.next);
}

abbrev pub decreases-loop-next : goal.decreases-loop-next
decreases-loop-next l = length l.origins - l.next
