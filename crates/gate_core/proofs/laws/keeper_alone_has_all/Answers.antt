use Rattle.gate_core.proofs.Duty.{the_keeper}
use Rattle.gate_core.proofs.Alone.{whole, alone}
use Rattle.gate_core.proofs.laws.keeper_alone_has_all.Goals as goal

pub returns : goal.returns
returns c = λ shape plane r. record {
  one_keeper = λ i v at role. the_keeper shape plane.words plane.views r i v at role;
  whole = λ none. whole shape plane.words plane.views r.head r r.place r.there r.keeps none;
  alone = λ none idle. alone shape plane.words plane.views r.head r r.place r.there r.keeps none idle;
}
