use Rattle.std.proofs.Common.{sym, subst}
use Rattle.gate_core.specs.Invariant.{IsFresh}
use Rattle.gate_core.proofs.Starts.{starts}
use Rattle.page_gate.proofs.plane.Plane.open.Goals as goal

pub of_words-requires : goal.of_words-requires
of_words-requires c = starts c.args.shape c.deref.result.now (subst (IsFresh c.args.shape) (sym c.deref.ensures.value) c.in_ok-words.ensures.fresh)
