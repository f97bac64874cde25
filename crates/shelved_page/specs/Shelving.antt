-- What calls do to the records of a page on a shelf.
use Rattle.std.specs.Prelude.{ℕ, ◌≡◌, ◌+◌, Bool, true, false, List, Option, None, Some, if◌then◌else◌}
use Rattle.std.specs.Option.{is_some}
use Rattle.sha2.specs.Sha256.{sha256}
use Rattle.spie_base.specs.Causes.{Rose, RoseBy}
use Rattle.page_shelf.specs.Shelves.{Contents, IsSame, IsSet}
use Rattle.page_shelf.specs.declared.ShelfName.{ShelfName}
use Rattle.page_shelf.specs.declared.ShelfPart.{ShelfPart}
use Rattle.page_shelf.specs.declared.ShelfPart.TheVariants.{Bits, Rows}
use Rattle.router_account.specs.Records.{name_of}
use Rattle.router_account.specs.Shelves.{ShelfView}
pub use Rattle.router_account.specs.Shelves.{view_of}

-- a record was put without a fault, and this is its digest; or the put failed
abbrev pub IsPut : ShelfName → (text : List ℕ) → (before after : ShelfView) → Option (List ℕ) → Type 0
IsPut name text before after (Some digest) =
    (digest ≡ sha256 text) × (after.tells ≡ before.tells) × (after.faults ≡ before.faults) × (before.tells ≡ true → IsSet name (Some text) before.contents after.contents)
IsPut name text before after None =
    (after.tells ≡ before.tells) × Rose before.faults after.faults × (before.tells ≡ true → IsSame before.contents after.contents)

-- nothing is left under a name, without a fault; or the discard failed
abbrev pub IsDiscard : ShelfName → (before after : ShelfView) → (done : Bool) → Type 0
IsDiscard name before after true =
    (after.tells ≡ before.tells) × (after.faults ≡ before.faults) × (before.tells ≡ true → IsSet name None before.contents after.contents)
IsDiscard name before after false =
    (after.tells ≡ before.tells) × Rose before.faults after.faults × (before.tells ≡ true → IsSame before.contents after.contents)

abbrev pub count_if : Bool → ℕ
count_if b = if b then 1 else 0

-- under how many of a page's two names something stands
abbrev pub names_there : (router page : ℕ) → Contents → ℕ
names_there router page contents = count_if (is_some (contents (name_of router page Bits))) + count_if (is_some (contents (name_of router page Rows)))

-- what was done to the names of a page: each that is still there is there for a fault of its own
pub record Clears (router page : ℕ) (left : Bool) (before after : ShelfView) : Type 0 where
  pub still : after.tells ≡ before.tells
  pub rose : RoseBy (count_if left) before.faults after.faults
  pub there : before.tells ≡ true → RoseBy (names_there router page after.contents) before.faults after.faults
  pub away : before.tells ≡ true → left ≡ false → (part : ShelfPart) → after.contents (name_of router page part) ≡ None
  pub others : before.tells ≡ true → (name : ShelfName) → ((part : ShelfPart) → name ≡ name_of router page part → ⊥) → after.contents name ≡ before.contents name
