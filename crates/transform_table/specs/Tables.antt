-- What a table holds: its rows, each with its page, in the order of adding.
use Rattle.std.specs.Prelude.{ℕ, Bool, nat_eq, List, Option, Some, None, filter, filter_map, map, not, ◌==◌}
use Rattle.std.specs.Cmp.Lexicographic.{pointwise}
use Rattle.std.specs.Set.{distinct_count}
use Rattle.spie_base.specs.declared.types.PageNo.{PageNo}
use Rattle.spie_base.specs.declared.types.Sig.{Sig}
use Rattle.packet_signature.specs.declared.rows.Row.{Row}
use Rattle.packet_signature.specs.declared.rows.RowData.{RowData}
use Rattle.packet_signature.specs.declared.rows.RowData.TheVariants.{Direct, Indirect}

abbrev pub has_key : (key : ℕ) → PageNo × Row → Bool
has_key key pair = pair.1.key == key

abbrev pub is_of_page : (page : ℕ) → PageNo × Row → Bool
is_of_page page pair = pair.0.number == page

-- those with a key
abbrev pub with_key : (key : ℕ) → List (PageNo × Row) → List (PageNo × Row)
with_key key table = filter (has_key key) table

-- the rows of a page
abbrev pub rows_of_page : (page : ℕ) → List (PageNo × Row) → List Row
rows_of_page page table = map (λ pair. pair.1) (filter (is_of_page page) table)

-- all but those of a page
abbrev pub without_page : (page : ℕ) → List (PageNo × Row) → List (PageNo × Row)
without_page page table = filter (λ pair. not (is_of_page page pair)) table

-- the old signature that a row keeps, if it keeps all of it
abbrev pub old_in : RowData → Option Sig
old_in (Direct bytes) = None
old_in (Indirect sig) = Some sig

-- those of all rows
abbrev pub olds_in : List (PageNo × Row) → List Sig
olds_in table = filter_map (λ pair. old_in pair.1.old) table

abbrev pub same_sig : Sig → Sig → Bool
same_sig a b = pointwise nat_eq a.bytes b.bytes

-- how many different ones there are
abbrev pub different_olds : List (PageNo × Row) → ℕ
different_olds table = distinct_count same_sig (olds_in table)
