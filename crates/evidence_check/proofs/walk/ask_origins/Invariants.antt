use Rattle.std.proofs.Common.{◌≤◌, ◌-◌, length}
use Rattle.evidence_check.specs.Pairs.{Asks, IsFine}
use Rattle.evidence_check.proofs.OriginWalks.{IsWalked}
use Rattle.evidence_check.proofs.walk.ask_origins.Given as goal

abbrev pub invariant-loop-next : goal.invariant-loop-next
invariant-loop-next l = record {
  within : l.next ≤ length l.origins;
  fine : IsFine l.pairs;
  asks : Asks (IsWalked l.near l.origins l.next) l.fn.pairs l.pairs;
}

abbrev pub decreases-loop-next : goal.decreases-loop-next
decreases-loop-next l = length l.origins - l.next
