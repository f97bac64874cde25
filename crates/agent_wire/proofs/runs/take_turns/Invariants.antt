use Rattle.std.proofs.Common.{◌≡◌, ◌≤◌}
use Rattle.hash_family.specs.SplitMix.{state_after}
use Rattle.reverse_flood.specs.Flood.{net_of}
use Rattle.agent_wire.specs.Schedule.{AreTurns, Keeps}
use Rattle.agent_wire.proofs.runs.take_turns.Given as goal

abbrev pub invariant-loop-turn : goal.invariant-loop-turn
invariant-loop-turn g l = record {
  generator : l.generator ≡ state_after l.seed l._turn;
  turned : AreTurns (net_of g.S.Sighting.shown l.sights l.topology) l.topology l.seed l._turn l.fn.state l.state l.repeated;
  kept : Keeps (net_of g.S.Sighting.shown l.sights l.topology) l.topology l.fn.state l.state;
  few : l.repeated ≤ l._turn;
}
