-- What holds of every shelf in memory.
use Rattle.std.specs.Prelude.{◌≡◌, []}
use Rattle.page_shelf.specs.Memory.{Calls, IsCounted}

-- where no call is listed as failing, a call counts no fault, and none is listed behind it
abbrev pub NoneListedNoneFails : Type 0
NoneListedNoneFails =
    (before after : Calls) → IsCounted before after → before.failing ≡ [] → (after.failing ≡ []) × (after.failed ≡ before.failed)
