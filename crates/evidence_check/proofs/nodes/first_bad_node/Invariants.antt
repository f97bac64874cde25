use Rattle.std.proofs.Common.{ℕ, ◌<◌, ◌≤◌, ◌-◌, length, map, take}
use Rattle.reverse_flood.specs.Flood.{net_of}
use Rattle.evidence_check.specs.Evidence.{stated_links}
use Rattle.evidence_check.specs.Judging.{NodeAt, named_node}
use Rattle.evidence_check.specs.Pairs.{AreNoted, IsFine, IsFresh}
use Rattle.evidence_check.specs.Steps.{Knows}
use Rattle.evidence_check.proofs.nodes.first_bad_node.Given as goal

abbrev pub invariant-loop-place : goal.invariant-loop-place
invariant-loop-place g l = record {
  within : l.place ≤ length l.nodes;
  knows : Knows (net_of g.S.Sighting.shown l.sights (stated_links l.links)) l.last;
  holds : (i : ℕ) → i < l.place → NodeAt (net_of g.S.Sighting.shown l.sights (stated_links l.links)) l.start l.nodes i;
  fine : IsFine l.pairs;
  fresh : IsFresh l.pairs;
  noted : AreNoted l.pairs (take l.place (map named_node l.nodes));
}

abbrev pub decreases-loop-place : goal.decreases-loop-place
decreases-loop-place g l = length l.nodes - l.place
