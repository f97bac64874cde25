-- What a shelf in memory is seen as, and what its calls do; and what stands under the names of a tree.
use Rattle.std.specs.Prelude.{ℕ, ◌≡◌, Bool, List, option_map, Vec, if◌then◌else◌}
use Rattle.std.specs.BTreeMap.{BTreeMap, get}
use Rattle.std.specs.Ordering.{nat_cmp, ordering_then}
use Rattle.std.specs.declared.alloc.Global.{Global}
use Rattle.std.specs.declared.cmp.Ordering.{Ordering}
use Rattle.spie_base.specs.Memory.{counted, is_listed}
use Rattle.page_shelf.specs.Shelves.{Contents}
use Rattle.page_shelf.specs.declared.memory.MemShelf.{MemShelf}
use Rattle.page_shelf.specs.declared.names.ShelfName.{ShelfName}
use Rattle.page_shelf.specs.declared.names.ShelfPart.{ShelfPart}
use Rattle.page_shelf.specs.declared.names.ShelfPart.TheVariants.{Bits, Rows}

-- the place of a part among the two
abbrev pub part_place : ShelfPart → ℕ
part_place Bits = 0
part_place Rows = 1

-- a name as a key, and how keys are ordered: by router, page and part
abbrev pub Key : Type 0
Key = ℕ × ℕ × ℕ

abbrev pub key_of : ShelfName → Key
key_of name = (name.router.number, name.page.number, part_place name.part)

abbrev pub key_cmp : Key → Key → Ordering
key_cmp a b = ordering_then (ordering_then (nat_cmp a.0 b.0) (nat_cmp a.1 b.1)) (nat_cmp a.2 b.2)

-- the bytes under each name of a tree
abbrev pub contents_of : BTreeMap Key (Vec ℕ Global) → Contents
contents_of tree name = option_map (λ (bytes : Vec ℕ Global). bytes.items) (get key_cmp tree (key_of name))

-- ---- a shelf in memory, and its calls

-- what stands under each name
abbrev pub held_by : MemShelf → Contents
held_by shelf = contents_of shelf.kept

-- the numbers of the calls that fail, how many calls were made, and how many of them failed
pub record Calls : Type 0 where
  pub failing : List ℕ
  pub made : ℕ
  pub failed : ℕ

abbrev pub calls_of : MemShelf → Calls
calls_of shelf = record { failing = shelf.failing.items; made = shelf.calls; failed = shelf.faults }

-- whether the next call fails: its number is listed
abbrev pub fails_now : Calls → Bool
fails_now s = is_listed s.failing s.made

-- a call was counted, and its fault where it failed; the same calls fail as before
pub record IsCounted (before after : Calls) : Type 0 where
  pub failing : after.failing ≡ before.failing
  pub made : after.made ≡ counted before.made
  pub failed : after.failed ≡ if fails_now before then counted before.failed else before.failed
