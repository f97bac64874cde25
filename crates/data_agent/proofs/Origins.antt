-- What the rows in a table say of a signature, and what an account's rows say.
use Rattle.std.proofs.Common.{ℕ, ◌≡◌, ◌≤◌, ◌<◌, ◌+◌, ◌-◌, ◌∙◌, ◌&&◌, Bool, List, filter, nat_le, length, get_or, ap, refl, subst, arith}
use Rattle.std.specs.List.{Contains, range_with_len}
use Rattle.std.proofs.lemmas.Bool.{eqb-true, eq-eqb}
use Rattle.std.proofs.lemmas.List.FromFn.{length-range_with_len, get_or-range_with_len}
use Rattle.spie_base.proofs.Membership.{from_map, into_map, from_filter, into_filter}
use Rattle.spie_base.specs.declared.PageNo.{PageNo}
use Rattle.packet_signature.specs.declared.Row.{Row}
use Rattle.transform_table.specs.Tables.{rows_of_page, is_of_page}

range_has : (first count n : ℕ) → first ≤ n → n < first + count → Contains (range_with_len first count) n
range_has first count n le lt =
    let len : length (range_with_len first count) ≡ count = length-range_with_len first count in
    (n - first, omega arith, get_or-range_with_len first count (n - first) n (omega arith) ∙ (let e : first + (n - first) ≡ n = omega arith in e))

pub has_range : (first count n : ℕ) → Contains (range_with_len first count) n → (first ≤ n) × (n < first + count)
has_range first count n (i, within, is) =
    let len : length (range_with_len first count) ≡ count = length-range_with_len first count in
    let at : get_or (range_with_len first count) i n ≡ first + i = get_or-range_with_len first count i n (omega arith) in
    (omega arith, omega arith)

-- the rows of a page, in a table and out of it
pub table_has : (page : PageNo) (table : List (PageNo × Row)) (row : Row) → Contains table (page, row) → Contains (rows_of_page page.number table) row
table_has page table row has =
    into_map (λ (pair : PageNo × Row). pair.1) (filter (is_of_page page.number) table) (page, row) (into_filter (is_of_page page.number) table (page, row) has (eq-eqb page.number page.number refl))

pub has_table : (page : ℕ) (table : List (PageNo × Row)) (row : Row) → Contains (rows_of_page page table) row → Contains table (record { number = page }, row)
has_table page table row has =
    let image = from_map (λ (pair : PageNo × Row). pair.1) (filter (is_of_page page) table) row has in
    let kept = from_filter (is_of_page page) table image.of image.has in
    let number : image.of.0.number ≡ page = eqb-true image.of.0.number page kept.1 in
    let is : image.of ≡ (record { number = page }, row) = ap (λ n. let p : PageNo × Row = (record { number = n }, image.of.1) in p) number ∙ ap (λ r. let p : PageNo × Row = (record { number = page }, r) in p) image.is in
    subst (Contains table) is kept.0

-- between two pages
abbrev pub is_between : (first last : ℕ) → PageNo × Row → Bool
is_between first last pair = nat_le first pair.0.number && nat_le pair.0.number last
