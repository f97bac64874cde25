use Rattle.std.specs.Prelude.{ℕ}
use Rattle.data_agent.specs.Beside.{IsMinding, KeepsWords}
use Rattle.data_agent.proofs.slots.settle_until_quiet.Given as goal

-- nothing is known more, and the keeper minds the same pages
abbrev pub invariant-looks : goal.invariant-looks
invariant-looks g l =
    KeepsWords l.plane.shape l.fn.keeper l.keeper
    × ((first last : ℕ) → IsMinding l.plane.shape l.fn.keeper first last → IsMinding l.plane.shape l.keeper first last)
