-- The pages of a router that a query uses, and what they show.
use Rattle.std.specs.Prelude.{ℕ, List, ◌∷◌, filter, map, Bool, ◌==◌}
use Rattle.std.specs.List.{list_any, flat_map}
use Rattle.spie_base.specs.declared.PageShape.{PageShape}
use Rattle.spie_base.specs.declared.Sig.{Sig}
use Rattle.hash_family.specs.Positions.{marks_of}
use Rattle.bloom_page.specs.Sets.{are_in}
use Rattle.packet_signature.specs.declared.Row.{Row}
use Rattle.packet_signature.specs.Row.{key_of, inverse_of}

-- what a page holds: positions, ascending, and transforms
pub record Held : Type 0 where
  pub bits : List ℕ
  pub rows : List Row

-- a page that a query uses, by its number
pub record UsedPage : Type 0 where
  pub number : ℕ
  pub held : Held

-- ---- hits

-- whether a page has all marks of a signature
abbrev pub holds_sig : PageShape → Sig → UsedPage → Bool
holds_sig shape sig page = are_in page.held.bits (marks_of shape page.number sig)

-- whether one of a router's used pages has them
abbrev pub is_hit : PageShape → List UsedPage → Sig → Bool
is_hit shape used sig = list_any (holds_sig shape sig) used

-- ---- origins

abbrev pub has_key : (key : ℕ) → Row → Bool
has_key key row = row.key == key

-- what rows say that a signature was before
abbrev pub rows_undone : Sig → List Row → List Sig
rows_undone sig rows = map (λ row. inverse_of row sig) (filter (has_key (key_of sig)) rows)

abbrev pub undone : Sig → UsedPage → List Sig
undone sig page = rows_undone sig page.held.rows

-- the signatures that a packet may have had before this router: the signature itself, and what the rows of used pages say
abbrev pub origins_of : List UsedPage → Sig → List Sig
origins_of used sig = sig ∷ flat_map (undone sig) used
