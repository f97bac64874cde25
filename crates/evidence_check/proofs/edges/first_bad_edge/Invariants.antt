use Rattle.std.proofs.Common.{ℕ, ◌<◌, ◌≤◌, ◌-◌, List, length}
use Rattle.reverse_flood.specs.declared.graphs.Node.{Node}
use Rattle.reverse_flood.specs.Flood.{net_of}
use Rattle.evidence_check.specs.Evidence.{stated_links}
use Rattle.evidence_check.specs.Judging.{EdgeAt}
use Rattle.evidence_check.specs.Pairs.{AreNoted}
use Rattle.evidence_check.specs.Steps.{Knows}
use Rattle.evidence_check.proofs.edges.first_bad_edge.Given as goal

abbrev pub invariant-loop-place : goal.invariant-loop-place
invariant-loop-place g l = record {
  within : l.place ≤ length l.edges;
  knows : Knows (net_of g.S.Sighting.shown l.sights (stated_links l.links)) l.last;
  holds : (nodes : List Node) → AreNoted l.pairs nodes → (i : ℕ) → i < l.place → EdgeAt (net_of g.S.Sighting.shown l.sights (stated_links l.links)) nodes l.edges i;
}

abbrev pub decreases-loop-place : goal.decreases-loop-place
decreases-loop-place g l = length l.edges - l.place
