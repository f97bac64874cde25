use Rattle.reverse_flood.specs.Flood.{is_missing, is_within}
use Rattle.reverse_flood.specs.Told.{IsTold, pairs_below}
use Rattle.reverse_flood.proofs.tells.tell_all.Given as goal

abbrev pub invariant-loop-number : goal.invariant-loop-number
invariant-loop-number g l = record {
  told : IsTold l.search l.topology (is_within l.topology l.bound) (is_missing g.S.Sighting.shown l.sights) (pairs_below l.search.rows.entries l.number) l.told;
}
