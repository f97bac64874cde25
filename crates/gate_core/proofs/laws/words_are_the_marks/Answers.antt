use Rattle.gate_core.proofs.Drawn.{collected_marks, standing_marks, quiet_marks, quiet_empty, free_empty}
use Rattle.gate_core.proofs.laws.words_are_the_marks.Goals as goal

pub returns : goal.returns
returns c = λ shape plane r. record {
  collected = λ page p below all small. collected_marks shape plane.words plane.views r.head.duties r.head.entries r.fits page below all p small;
  standing = λ s p near stands small. standing_marks shape plane.words plane.views r.head.duties r.head.entries r.fits s near stands p small;
  quiet = λ s p near still small. quiet_marks shape plane.words plane.views r.head.duties r.head.entries r.fits s near still p small;
  nobody_inside = λ s i v still at. quiet_empty shape plane.words plane.views r.head.duties r.head.entries r.fits s still i v at;
  free = λ s i near free lt. free_empty shape plane.words plane.views r.head.duties r.head.entries r.fits s near free i lt;
}
