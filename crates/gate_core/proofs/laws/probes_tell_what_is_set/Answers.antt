use Rattle.gate_core.proofs.Drawn.{probe_set, probe_unset}
use Rattle.gate_core.proofs.laws.probes_tell_what_is_set.Goals as goal

pub returns : goal.returns
returns c = λ shape plane r. record {
  set = λ i x at one. probe_set shape plane.words plane.views r.head.duties r.head.entries r.fits i x at one;
  not_set = λ i j x e at none lt here of. probe_unset shape plane.words plane.views r.head.duties r.head.entries r.fits i x at none j e lt here of;
}
