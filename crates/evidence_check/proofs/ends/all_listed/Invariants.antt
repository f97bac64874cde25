use Rattle.std.proofs.Common.{◌≤◌, ◌-◌, length}
use Rattle.reverse_flood.specs.Flood.{net_of}
use Rattle.evidence_check.specs.Evidence.{stated_links}
use Rattle.evidence_check.specs.Pairs.{AreListed}
use Rattle.evidence_check.proofs.WalkFacts.{IsAskedTo}
use Rattle.evidence_check.proofs.ends.all_listed.Given as goal

abbrev pub invariant-loop-place : goal.invariant-loop-place
invariant-loop-place g l = record {
  within : l.place ≤ length l.nodes;
  listed : AreListed l.pairs (IsAskedTo (net_of g.S.Sighting.shown l.sights (stated_links l.links)) l.start l.nodes l.place);
}

abbrev pub decreases-loop-place : goal.decreases-loop-place
decreases-loop-place g l = length l.nodes - l.place
