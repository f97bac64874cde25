use Rattle.gate_core.proofs.Drawn.{visit_fits, no_visit}
use Rattle.gate_core.proofs.laws.floors_hold.Goals as goal

pub returns : goal.returns
returns c = λ shape plane r. record {
  visit_above = λ i j v x at here. (visit_fits shape plane.words plane.views r.head.duties r.head.entries r.fits i v at j x here).from_floor;
  visit_not_open = λ i j s v x at here. (visit_fits shape plane.words plane.views r.head.duties r.head.entries r.fits i v at j x here).not_open s;
  no_visit = λ i s v at. no_visit shape plane.words plane.views r.head.duties r.head.entries r.fits i v at s;
  entry_above = λ i j v e at here. ((r.fits.actors i v at).entries j e here).1;
  entry_below = λ i j v e at here. ((r.fits.actors i v at).entries j e here).0;
  ordered = λ i j k v e f at role. (r.fits.actors i v at).ordered role j k e f;
}
