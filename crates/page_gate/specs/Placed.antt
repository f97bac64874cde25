-- The marks of a signature in a page, as a record sets them one by one. No public clause cites this module.
use Rattle.std.specs.Prelude.{◌≡◌, ℕ, ◌<◌, slice_index}
use Rattle.spie_base.specs.declared.Marks.{Marks}
use Rattle.spie_base.specs.declared.PageShape.{PageShape}
use Rattle.spie_base.specs.declared.Sig.{Sig}
use Rattle.hash_family.specs.Positions.{position}

-- the first k places are the positions of the signature, in order
abbrev pub AreMarks : PageShape → (page : ℕ) → Sig → Marks → Type 0
AreMarks shape page sig marks = (i : ℕ) → i < shape.k → slice_index marks.at i ≡ position shape page sig i
