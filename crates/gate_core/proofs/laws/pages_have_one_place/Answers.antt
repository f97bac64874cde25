use Rattle.gate_core.proofs.Drawn.{one_slot, one_open, standing_apart}
use Rattle.gate_core.proofs.laws.pages_have_one_place.Goals as goal

pub returns : goal.returns
returns c = λ shape plane r. record {
  one_open = λ s t a b h k. one_open shape plane.words plane.views r.head.duties r.head.entries r.fits s t a b h k;
  one_slot = λ s t a b h k e. one_slot shape plane.words plane.views r.head.duties r.head.entries r.fits s t a b h k e;
  not_both = λ s near stands. standing_apart shape plane.words plane.views r.head.duties r.head.entries r.fits s near stands;
}
