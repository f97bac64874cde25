use Rattle.std.proofs.Common.{ℕ, ◌<◌, ◌≤◌, ◌-◌, length, take}
use Rattle.reverse_flood.specs.Flood.{net_of}
use Rattle.evidence_check.specs.Evidence.{stated_links}
use Rattle.evidence_check.specs.Pairs.{IsFine, LeftAtIn, Tells}
use Rattle.evidence_check.proofs.left.first_bad_left.Given as goal

abbrev pub invariant-loop-place : goal.invariant-loop-place
invariant-loop-place g l = record {
  within : l.place ≤ length l.left;
  holds : (i : ℕ) → i < l.place → LeftAtIn (net_of g.S.Sighting.shown l.sights (stated_links l.links)) l.fn.pairs l.misses l.left i;
  fine : IsFine l.pairs;
  told : Tells (take l.place l.left) l.fn.pairs l.pairs;
}

abbrev pub decreases-loop-place : goal.decreases-loop-place
decreases-loop-place g l = length l.left - l.place
