-- The rows as they are shown and the uses of their old signatures, after one row more and one fewer.
use Rattle.std.proofs.Common.{◌≡◌, ◌≢◌, ℕ, ◌+◌, ◌-◌, ◌%◌, Bool, true, false, not, eqb, filter, List, [], ◌∷◌, ◌++◌, length, Option, Some, None, IsSome, refl, sym, ap, ◌∙◌, subst, arith}
use Rattle.std.specs.Prelude.{filter_map, option_map}
use Rattle.std.specs.List.{cons_option}
use Rattle.std.proofs.lemmas.Bool.Decides.{nat_tests}
use Rattle.std.proofs.lemmas.List.Elements.{filter_map-append}
use Rattle.slab.specs.Slab.{Slab, get, Updates}
use Rattle.index_rings.specs.Rings.{Lacks, Distinct, without}
use Rattle.index_rings.specs.Orders.{labelled}
use Rattle.index_rings.proofs.Filed.{lacks_itself}
use Rattle.spie_base.specs.declared.types.PageNo.{PageNo}
use Rattle.indirect_store.specs.Held.{held_at, uses_in, uses_at, sig_at}
use Rattle.indirect_store.specs.Stores.{ListsKeys}
use Rattle.indirect_store.specs.declared.held.Held.{Held}
use Rattle.packet_signature.specs.declared.rows.Row.{Row}
use Rattle.packet_signature.specs.declared.rows.RowData.TheVariants.{Indirect}
use Rattle.transform_table.specs.declared.line.Line.{Line}
use Rattle.transform_table.specs.declared.line.Kept.{Kept}
use Rattle.transform_table.specs.declared.line.Kept.TheVariants.{Bytes, Id}
use Rattle.transform_table.specs.Tables.{has_key, is_of_page, with_key, without_page}
use Rattle.transform_table.specs.Rows.{sig_or_none, data_of, pair_of, pair_at, is_id, keeps_id, one_if, uses_by, AreHeld}
use Rattle.transform_table.specs.Chained.{page_of, page_at, bucket_of, bucket_at}
use Rattle.transform_table.proofs.Gathered.{Has, gathered_same, gathered_filter, gathered_part, gathered_without, gathered_length, filter_whole, passing_same, passing_more, passing_without, passing_some}

-- each id's use count is the number of rows that keep it
abbrev pub AreCounted : Slab Line → List ℕ → List (Option Held) → Type 0
AreCounted rows order olds = (id : ℕ) → uses_at olds id ≡ uses_by rows order id

some_line : (o : Option Line) (id : ℕ) → keeps_id id o ≡ true → o ≢ None
some_line None id k e = (cc)
some_line (Some line) id k e = (cc)

held_used : (o : Option Held) → uses_in o ≢ 0 → IsSome o
held_used None some = absurd (some refl)
held_used (Some held) some = refl

-- a row that keeps an id counts
pub kept_used : (rows : Slab Line) (order : List ℕ) (olds : List (Option Held)) (x id : ℕ) → Distinct order → AreCounted rows order olds → Has order x → keeps_id id (get rows x) ≡ true → uses_at olds id ≢ 0
kept_used rows order olds x id d counted has keeps zero = passing_some (λ place. keeps_id id (get rows place)) x order d has keeps (sym (counted id) ∙ zero)

pub are_held : (rows : Slab Line) (order : List ℕ) (olds : List (Option Held)) → ListsKeys rows order → AreCounted rows order olds → AreHeld rows olds
are_held rows order olds listed counted x id keeps =
    held_used (held_at olds id) (kept_used rows order olds x id listed.distinct counted (λ l. some_line (get rows x) id keeps (listed.free x l)) keeps)

same_id : (id : ℕ) → eqb id id ≡ true
same_id id = grind (arith, nat_tests)

-- what is kept is shown alike where its signature stays
data_same : (olds olds' : List (Option Held)) (kept : Kept) → ((id : ℕ) → is_id id kept ≡ true → sig_at olds' id ≡ sig_at olds id) → data_of olds' kept ≡ data_of olds kept
data_same olds olds' (Bytes bytes) same = refl
data_same olds olds' (Id id) same = ap (λ s. Indirect (sig_or_none s)) (same id (same_id id))

line_same : (olds olds' : List (Option Held)) (o : Option Line) → ((id : ℕ) → keeps_id id o ≡ true → sig_at olds' id ≡ sig_at olds id) → option_map (pair_of olds') o ≡ option_map (pair_of olds) o
line_same olds olds' None same = refl
line_same olds olds' (Some line) same =
    ap (λ d. Some (line.page, record { key = line.key; kind = line.kind; old = d })) (data_same olds olds' line.kept same)

pub pair_same : (rows rows' : Slab Line) (olds olds' : List (Option Held)) (x : ℕ) → get rows' x ≡ get rows x → ((id : ℕ) → keeps_id id (get rows x) ≡ true → sig_at olds' id ≡ sig_at olds id)
    → pair_at rows' olds' x ≡ pair_at rows olds x
pair_same rows rows' olds olds' x e same = ap (option_map (pair_of olds')) e ∙ line_same olds olds' (get rows x) same

has_apart : (i x : ℕ) (order : List ℕ) → Lacks order i → Has order x → x ≢ i
has_apart i x order l has e = has (subst (λ y. Lacks order y) (sym e) l)

-- ---- one row more

pub pairs_more : (rows rows' : Slab Line) (order : List ℕ) (olds olds' : List (Option Held)) (i : ℕ) (line : Line) → ListsKeys rows order → AreCounted rows order olds
    → get rows i ≡ None → Updates rows rows' i (Some line) → ((id : ℕ) → uses_at olds id ≢ 0 → sig_at olds' id ≡ sig_at olds id)
    → filter_map (pair_at rows' olds') (order ++ i ∷ []) ≡ filter_map (pair_at rows olds) order ++ pair_of olds' line ∷ []
pairs_more rows rows' order olds olds' i line listed counted vacant up kept =
    filter_map-append (pair_at rows' olds') order (i ∷ [])
    ∙ ap (λ l. l ++ filter_map (pair_at rows' olds') (i ∷ [])) (gathered_same (pair_at rows' olds') (pair_at rows olds) order
    (λ x has. pair_same rows rows' olds olds' x (up.others x (has_apart i x order (listed.held i vacant) has)) (λ id keeps. kept id (kept_used rows order olds x id listed.distinct counted has keeps))))
    ∙ ap (λ o. filter_map (pair_at rows olds) order ++ cons_option (option_map (pair_of olds') o) []) up.changed

pub counted_more : (rows rows' : Slab Line) (order : List ℕ) (olds olds' : List (Option Held)) (i : ℕ) (line : Line) → ListsKeys rows order → AreCounted rows order olds
    → get rows i ≡ None → Updates rows rows' i (Some line) → ((id : ℕ) → uses_at olds' id ≡ uses_at olds id + one_if (is_id id line.kept)) → AreCounted rows' (order ++ i ∷ []) olds'
counted_more rows rows' order olds olds' i line listed counted vacant up more id =
    let p : ℕ → Bool = λ place. keeps_id id (get rows place) in let p' : ℕ → Bool = λ place. keeps_id id (get rows' place) in
    let same : filter p' order ≡ filter p order = passing_same p' p order (λ x has. ap (keeps_id id) (up.others x (has_apart i x order (listed.held i vacant) has))) in
    omega (arith, more id, counted id, passing_more p' i order, ap (λ (l : List ℕ). length l) same, ap (λ o. one_if (keeps_id id o)) up.changed)

-- ---- one row fewer

stays : (i x : ℕ) (order : List ℕ) → Has (without i order) x → x ≢ i
stays i x order has e = has (subst (λ y. Lacks (without i order) y) (sym e) (lacks_itself i order))

pub counted_fewer : (rows rows' : Slab Line) (order : List ℕ) (olds olds' : List (Option Held)) (i : ℕ) (line : Line) → Distinct order → Has order i → AreCounted rows order olds
    → get rows i ≡ Some line → Updates rows rows' i None → ((id : ℕ) → uses_at olds' id ≡ uses_at olds id - one_if (is_id id line.kept)) → AreCounted rows' (without i order) olds'
counted_fewer rows rows' order olds olds' i line d has counted found up fewer id =
    let p : ℕ → Bool = λ place. keeps_id id (get rows place) in let p' : ℕ → Bool = λ place. keeps_id id (get rows' place) in
    let same : filter p' (without i order) ≡ filter p (without i order) = passing_same p' p (without i order) (λ x h. ap (keeps_id id) (up.others x (stays i x order h))) in
    omega (arith, fewer id, counted id, passing_without p i order d has, ap (λ (l : List ℕ). length l) same, ap (λ o. one_if (keeps_id id o)) found)

pub pairs_fewer : (rows rows' : Slab Line) (order : List ℕ) (olds olds' : List (Option Held)) (i : ℕ) → Distinct (without i order) → AreCounted rows' (without i order) olds' → Updates rows rows' i None
    → ((id : ℕ) → uses_at olds' id ≢ 0 → sig_at olds' id ≡ sig_at olds id) → filter_map (pair_at rows' olds') (without i order) ≡ filter_map (pair_at rows olds) (without i order)
pairs_fewer rows rows' order olds olds' i d counted up kept =
    gathered_same (pair_at rows' olds') (pair_at rows olds) (without i order) (λ x has.
    let there : get rows' x ≡ get rows x = up.others x (stays i x order has) in
    pair_same rows rows' olds olds' x there (λ id keeps. kept id (kept_used rows' (without i order) olds' x id d counted has (ap (keeps_id id) there ∙ keeps))))

is_page : (n page : ℕ) → n ≡ page → not (eqb n page) ≡ false
is_page n page e = grind (arith, nat_tests)

pub page_fewer : (rows : Slab Line) (order : List ℕ) (olds : List (Option Held)) (i page : ℕ) → page_at rows i ≡ page
    → without_page page (filter_map (pair_at rows olds) (without i order)) ≡ without_page page (filter_map (pair_at rows olds) order)
page_fewer rows order olds i page e = gathered_without (λ pair. not (is_of_page page pair)) (pair_at rows olds) i order (λ v h. out (get rows i) v e h)
  where
    out : (o : Option Line) (v : PageNo × Row) → page_of o ≡ page → option_map (pair_of olds) o ≡ Some v → not (is_of_page page v) ≡ false
    out None v e h = absurd (cc)
    out (Some line) v e h = let same : pair_of olds line ≡ v = cc in is_page v.0.number page (sym (ap (λ (w : PageNo × Row). w.0.number) same) ∙ e)

-- each place of the order shows a row
pub all_shown : (rows : Slab Line) (order : List ℕ) (olds : List (Option Held)) → ListsKeys rows order → length (filter_map (pair_at rows olds) order) ≡ length order
all_shown rows order olds listed = gathered_length (pair_at rows olds) order (λ x has. shown (get rows x) (λ e. has (listed.held x e)))
  where
    shown : (o : Option Line) → o ≢ None → IsSome (option_map (pair_of olds) o)
    shown None ne = absurd (ne refl)
    shown (Some line) ne = refl

-- ---- parts of the table

-- the rows of a page stand in its chain
pub page_part : (rows : Slab Line) (order : List ℕ) (olds : List (Option Held)) (page : ℕ)
    → filter (is_of_page page) (filter_map (pair_at rows olds) order) ≡ filter_map (pair_at rows olds) (labelled (page_at rows) page order)
page_part rows order olds page = gathered_filter (is_of_page page) (pair_at rows olds) (λ x. eqb (page_at rows x) page) order (λ x has v h. same (get rows x) v h)
  where
    same : (o : Option Line) (v : PageNo × Row) → option_map (pair_of olds) o ≡ Some v → is_of_page page v ≡ eqb (page_of o) page
    same None v h = absurd (cc)
    same (Some line) v h = let e : pair_of olds line ≡ v = cc in sym (ap (is_of_page page) e)

-- a page whose chain is empty has no row
pub page_none : (rows : Slab Line) (order : List ℕ) (olds : List (Option Held)) (page : ℕ) → labelled (page_at rows) page order ≡ [] → without_page page (filter_map (pair_at rows olds) order) ≡ filter_map (pair_at rows olds) order
page_none rows order olds page e = filter_whole (is_of_page page) (filter_map (pair_at rows olds) order) (page_part rows order olds page ∙ ap (filter_map (pair_at rows olds)) e)

-- the rows of a key stand in the chain of its bucket
pub key_part : (rows : Slab Line) (order : List ℕ) (olds : List (Option Held)) (key : ℕ)
    → with_key key (filter_map (pair_at rows olds) (labelled (bucket_at rows) (key % 1024) order)) ≡ with_key key (filter_map (pair_at rows olds) order)
key_part rows order olds key = gathered_part (has_key key) (pair_at rows olds) (λ x. eqb (bucket_at rows x) (key % 1024)) order (λ x v h out. other (get rows x) v h out)
  where
    not_key : (a : ℕ) → eqb (a % 1024) (key % 1024) ≡ false → eqb a key ≡ false
    not_key a e = grind (arith, nat_tests)

    other : (o : Option Line) (v : PageNo × Row) → option_map (pair_of olds) o ≡ Some v → eqb (bucket_of o) (key % 1024) ≡ false → has_key key v ≡ false
    other None v h out = absurd (cc)
    other (Some line) v h out = let e : pair_of olds line ≡ v = cc in sym (ap (has_key key) e) ∙ not_key line.key out
