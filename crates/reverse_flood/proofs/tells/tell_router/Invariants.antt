use Rattle.reverse_flood.specs.Flood.{is_missing, is_within}
use Rattle.reverse_flood.specs.Told.{IsTold}
use Rattle.reverse_flood.proofs.ToldFacts.{walked_to}
use Rattle.reverse_flood.proofs.tells.tell_router.Given as goal

abbrev pub invariant-loop-line : goal.invariant-loop-line
invariant-loop-line g l = record {
  told : IsTold l.search l.topology (is_within l.topology l.bound) (is_missing g.S.Sighting.shown l.sights) (walked_to l.lines l.router l.line-index) l.told;
}
