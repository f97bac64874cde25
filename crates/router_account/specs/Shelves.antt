-- A shelf as it is seen at one time.
use Rattle.std.specs.Prelude.{ℕ, Bool}
use Rattle.page_shelf.specs.Shelves.{Contents}

-- whether it tells what stands under its names, what stands there, and how many of its calls have failed
pub record ShelfView : Type 0 where
  pub tells : Bool
  pub contents : Contents
  pub faults : ℕ

-- a shelf as it is seen at one time
abbrev pub view_of : {H : Type 0} → (H → Bool) → (H → Contents) → (H → ℕ) → H → ShelfView
view_of tells contents faults shelf = record { tells = tells shelf; contents = contents shelf; faults = faults shelf }
