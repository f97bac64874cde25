use Rattle.std.proofs.Common.{◌-◌, ◌<◌, ◌≤◌, ℕ}
use Rattle.page_catalogue.specs.Private.{IsOld}
use Rattle.page_catalogue.proofs.catalogue.Catalogue.gone_by.Given as goal

abbrev pub invariant-loop-gone : goal.invariant-loop-gone
invariant-loop-gone l = record {
  within : l.gone ≤ l.count;
  grown : l.self-inside.gone ≤ l.gone;
  old : (p : ℕ) → p < l.gone → IsOld l.self-inside.rules l.self-inside.closings.items l.clock p;
}

abbrev pub decreases-loop-gone : goal.decreases-loop-gone
decreases-loop-gone l = l.count - l.gone
