-- Lines behind others, one part after another.
use Rattle.std.proofs.Common.{◌≡◌, List, [], ◌∷◌, ◌++◌, refl}
use Rattle.trace_format.specs.Said.{Said}
use Rattle.made_trace.specs.Fitting.{AllFit}
use Rattle.made_trace.specs.Made.{behind}

pub behind_append : (before a b : List Said) → behind before (a ++ b) ≡ behind (behind before a) b
behind_append before [] b = refl
behind_append before (s ∷ a) b = behind_append (s ∷ before) a b

pub all_fit_append : (before a b : List Said) → AllFit before a → AllFit (behind before a) b → AllFit before (a ++ b)
all_fit_append before [] b h r = r
all_fit_append before (s ∷ a) b h r = (h.0, all_fit_append (s ∷ before) a b h.1 r)
