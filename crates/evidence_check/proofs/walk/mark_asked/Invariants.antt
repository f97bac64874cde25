use Rattle.std.proofs.Common.{◌≤◌, ◌-◌, length}
use Rattle.reverse_flood.specs.Flood.{net_of}
use Rattle.evidence_check.specs.Evidence.{stated_links}
use Rattle.evidence_check.specs.Pairs.{Asks, IsFine}
use Rattle.evidence_check.proofs.WalkFacts.{IsAskedTo}
use Rattle.evidence_check.proofs.walk.mark_asked.Given as goal

abbrev pub invariant-loop-place : goal.invariant-loop-place
invariant-loop-place g l = record {
  within : l.place ≤ length l.nodes;
  fine : IsFine l.pairs;
  asks : Asks (IsAskedTo (net_of g.S.Sighting.shown l.sights (stated_links l.links)) l.start l.nodes l.place) l.fn.pairs l.pairs;
}

abbrev pub decreases-loop-place : goal.decreases-loop-place
decreases-loop-place g l = length l.nodes - l.place
