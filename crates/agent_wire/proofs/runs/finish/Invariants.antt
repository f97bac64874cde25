use Rattle.std.proofs.Common.{◌≤◌, ◌+◌, ◌*◌}
use Rattle.reverse_flood.specs.Flood.{net_of}
use Rattle.agent_wire.specs.Schedule.{AreRounds, Keeps}
use Rattle.agent_wire.proofs.runs.finish.Given as goal

abbrev pub invariant-loop-round : goal.invariant-loop-round
invariant-loop-round g l = record {
  asked : AreRounds (net_of g.S.Sighting.shown l.sights l.topology) l.topology l._round l.fn.state l.repeated l.state l.counted;
  kept : Keeps (net_of g.S.Sighting.shown l.sights l.topology) l.topology l.fn.state l.state;
  few : l.counted ≤ l.repeated + 3 * l._round;
}
