use Rattle.reverse_flood.specs.Flood.{net_of}
use Rattle.traceback_manager.specs.Beside.{IsRound}
use Rattle.traceback_manager.proofs.joined.ask_rounds.Given as goal

abbrev pub invariant-loop-turn : goal.invariant-loop-turn
invariant-loop-turn g l = record {
  round : IsRound (net_of g.S.Sighting.shown l.sights l.topology) l.topology l.start l.seats l.round.items;
}
