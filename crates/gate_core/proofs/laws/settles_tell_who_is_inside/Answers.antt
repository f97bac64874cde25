use Rattle.std.proofs.Common.{◌≤◌, sym, subst, ℕ, ◌+◌}
use Rattle.gate_core.specs.Acts.{busy}
use Rattle.gate_core.proofs.Drawn.{gate_empty}
use Rattle.gate_core.proofs.Alone.{alone}
use Rattle.gate_core.proofs.Inside.{gate_counts, few_inside}
use Rattle.gate_core.proofs.laws.settles_tell_who_is_inside.Goals as goal

pub returns : goal.returns
returns c = λ shape plane r. record {
  empty = λ s i v near none at. gate_empty shape plane.words plane.views r.head.duties r.head.entries r.fits s near none i v at;
  bounded = λ s near. subst (λ (x : ℕ). x ≤ r.head.duties.out + busy r.head.state) (sym (gate_counts shape plane.words plane.views r.head.duties r.head.entries r.fits s near)) (few_inside shape plane.words plane.views r.place r.head r.there r.keeps r.fits s);
  noted = r.fits.noted;
  alone = λ s none idle near. (alone shape plane.words plane.views r.head r r.place r.there r.keeps none idle).nobody s near;
}
