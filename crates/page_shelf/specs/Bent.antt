-- A shelf that lies once: which get is bent, and how.
use Rattle.std.specs.Prelude.{ℕ, ◌+◌, ◌-◌, ◌==◌, List, length, take, bit_xor, slice_set, slice_index_or, Option, Some, None, option_map, option_and_then, Vec, if◌then◌else◌}
use Rattle.std.specs.declared.alloc.Global.{Global}
use Rattle.page_shelf.specs.Memory.{held_by}
use Rattle.page_shelf.specs.Shelves.{Contents}
use Rattle.page_shelf.specs.declared.bent.BentShelf.{BentShelf}
use Rattle.page_shelf.specs.declared.bent.Bend.{Bend}
use Rattle.page_shelf.specs.declared.bent.Bend.TheVariants.{Flip, Cut, Gone}
use Rattle.page_shelf.specs.declared.memory.MemShelf.{MemShelf}
use Rattle.page_shelf.specs.declared.names.ShelfName.{ShelfName}

-- some bytes, with the other lowest bit of the last one
abbrev pub flipped : List ℕ → List ℕ
flipped bytes = slice_set bytes (length bytes - 1) (bit_xor (slice_index_or bytes (length bytes - 1) 0) 1)

-- what is handed out in place of some bytes
abbrev pub bent_by : Bend → List ℕ → Option (List ℕ)
bent_by Flip bytes = Some (flipped bytes)
bent_by Cut bytes = Some (take (length bytes - 1) bytes)
bent_by Gone bytes = None

-- what the next get hands out: what stands there, or its front; bent where it is the get of that number
abbrev pub handed_out : BentShelf → ShelfName → (most : ℕ) → Option (List ℕ)
handed_out s name most =
    let front = option_map (take (most + 1)) (held_by s.inner name) in
    if s.gets == s.bent then option_and_then (bent_by s.bend) front else front

-- which get is bent and how, and how many gets were made
pub record Bent : Type 0 where
  pub number : ℕ
  pub bend : Bend
  pub gets : ℕ

abbrev pub bent_of : BentShelf → Bent
bent_of s = record { number = s.bent; bend = s.bend; gets = s.gets }

-- the shelf beneath it
abbrev pub shelf_in : BentShelf → MemShelf
shelf_in s = s.inner

-- what stands under each name of it, whatever its gets hand out
abbrev pub held_in : BentShelf → Contents
held_in s = held_by s.inner

abbrev pub bytes_of : Option (Vec ℕ Global) → Option (List ℕ)
bytes_of got = option_map (λ (bytes : Vec ℕ Global). bytes.items) got
