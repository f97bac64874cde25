-- A map of names to bytes, and what calls do to it.
use Rattle.std.specs.Prelude.{ℕ, ◌+◌, ◌≤◌, ◌≡◌, List, take, Option, Some, None, Result, IsErrOf, Vec, MatchOption}
use Rattle.std.specs.declared.alloc.Global.{Global}
use Rattle.spie_base.specs.Causes.{Rose}
use Rattle.page_shelf.specs.declared.names.ShelfName.{ShelfName}
use Rattle.page_shelf.specs.declared.names.ShelfRefused.{ShelfRefused}
use Rattle.page_shelf.specs.declared.names.ShelfRefused.TheVariants.{Failed}

-- what stands under each name
abbrev pub Contents : Type 0
Contents = ShelfName → Option (List ℕ)

-- the same stands under each name
abbrev pub IsSame : (before after : Contents) → Type 0
IsSame before after = (name : ShelfName) → after name ≡ before name

-- something stands under one name, and the same as before under each other name
pub record IsSet (name : ShelfName) (content : Option (List ℕ)) (before after : Contents) : Type 0 where
  pub here : after name ≡ content
  pub others : (other : ShelfName) → (other ≡ name → ⊥) → after other ≡ before other

-- the same as before stands under each name that is none of these
abbrev pub ChangesOnly : (names : ShelfName → Type 0) → (before after : Contents) → Type 0
ChangesOnly names before after = (name : ShelfName) → (names name → ⊥) → after name ≡ before name

-- the count of faults never falls, and a call fails exactly where it rose
pub record IsCaused {T : Type 0} (before after : ℕ) (result : Result T ShelfRefused) : Type 0 where
  pub later : before ≤ after
  pub failed : IsErrOf result Failed → Rose before after
  pub kept : (IsErrOf result Failed → ⊥) → after ≡ before

-- what a get found: the bytes, or one more than asked for where there are more
abbrev pub Finds : Option (List ℕ) → (most : ℕ) → Option (Vec ℕ Global) → Type 0
Finds content most got = MatchOption got (content ≡ None) (λ v. (bytes : List ℕ) × (content ≡ Some bytes) × (v.items ≡ take (most + 1) bytes))
