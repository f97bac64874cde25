-- What calls count.
use Rattle.std.proofs.Common.{ℕ, ◌∙◌, List, cond, ap}
use Rattle.spie_base.specs.Memory.{counted, is_listed}
use Rattle.page_shelf.specs.Laws.{NoneListedNoneFails}

pub none_listed_none_fails : NoneListedNoneFails
none_listed_none_fails before after is none = (
  is.failing ∙ none,
  is.failed ∙ ap (λ (listed : List ℕ). cond (is_listed listed before.made) (counted before.failed) before.failed) none,
)
