-- What the used pages of a router show.
use Rattle.std.proofs.Common.{◌≡◌, ◌∙◌, ◌↔◌, inl, inr, ⊎_elim, ◌∷◌, [], ◌++◌, ℕ, ◌<◌, length, get_or, Bool, true, List, map, filter, sym, subst, ap}
use Rattle.std.specs.Cmp.{IsTotalOrder}
use Rattle.std.specs.Cmp.Lexicographic.{nat_list_cmp_total}
use Rattle.std.specs.List.{Contains, flat_map, list_any}
use Rattle.spie_base.proofs.Booleans.{one_holds}
use Rattle.std.specs.List.Sorted.{IsStrictlySortedBy}
use Rattle.std.specs.declared.cmp.Ordering.TheVariants.{Equal}
use Rattle.std.proofs.lemmas.Cmp.{on_total}
use Rattle.std.proofs.lemmas.Map.Lookups.{exact_bytes}
use Rattle.spie_base.proofs.Ascents.{order_has, order_is, order_sorted}
use Rattle.spie_base.proofs.Membership.{from_filter, from_flat_map, from_map, has_cases, has_first, has_later, has_none, into_filter, into_flat_map, into_map}
use Rattle.spie_base.specs.Ascending.{in_order}
use Rattle.spie_base.specs.Order.{sig_cmp}
use Rattle.spie_base.specs.declared.Sig.{Sig}
use Rattle.packet_signature.specs.Row.{inverse_of, key_of}
use Rattle.packet_signature.specs.declared.rows.Row.{Row}
use Rattle.used_pages.specs.UsedPages.{UsedPage, has_key, origins_of, rows_undone, undone}
use Rattle.evidence_text.specs.declared.certificates.PageEvidence.{PageEvidence}
use Rattle.evidence_text.specs.declared.certificates.RouterPages.{RouterPages}
use Rattle.evidence_check.specs.Evidence.{stated_page, stated_pages}
use Rattle.spie_base.specs.Shapes.{IsShape}
use Rattle.evidence_check.specs.Sights.{AreSized, IsIndexed, page_rows}

-- ---- signatures in order

pub same_sig : (a b : Sig) → sig_cmp a b ≡ Equal → a ≡ b
same_sig a b e = let S : List ℕ → Sig = λ bytes. record { bytes = bytes } in ap S (exact_bytes a.bytes b.bytes e)

pub sigs_total : IsTotalOrder sig_cmp
sigs_total = on_total (λ (s : Sig). s.bytes) nat_list_cmp_total

pub sigs_ascend : (sigs : List Sig) → IsStrictlySortedBy sig_cmp (in_order sig_cmp sigs)
sigs_ascend sigs = order_sorted sig_cmp sigs_total same_sig sigs

pub sigs_have : (sigs : List Sig) (z : Sig) → Contains (in_order sig_cmp sigs) z ↔ Contains sigs z
sigs_have sigs z = order_has sig_cmp same_sig sigs z

-- the same signatures in any order
same_order : (xs ys : List Sig) → ((z : Sig) → Contains xs z → Contains ys z) → ((z : Sig) → Contains ys z → Contains xs z) → in_order sig_cmp xs ≡ in_order sig_cmp ys
same_order xs ys forth back = order_is sig_cmp sigs_total same_sig (in_order sig_cmp xs) ys (sigs_ascend xs)
    (λ z. let h = sigs_have xs z in ((λ a. forth z (h.0 a)), (λ b. h.1 (back z b))))

-- ---- what rows say

from_rows : (sig : Sig) (rows : List Row) (pages : List PageEvidence) (z : Sig) → ((row : Row) → Contains rows row → Contains (flat_map page_rows pages) row) → Contains (rows_undone sig rows) z → Contains (flat_map (undone sig) (map stated_page pages)) z
from_rows sig rows pages z forth has =
    let inverse : Row → Sig = λ row. inverse_of row sig in
    let i = from_map inverse (filter (has_key (key_of sig)) rows) z has in
    let k = from_filter (has_key (key_of sig)) rows i.of i.has in
    let p = from_flat_map page_rows pages i.of (forth i.of k.0) in
    let here : Contains (undone sig (stated_page p.of)) (inverse i.of) = into_map inverse (filter (has_key (key_of sig)) p.of.rows) i.of (into_filter (has_key (key_of sig)) p.of.rows i.of p.in_piece k.1) in
    let Has : Sig → Type 0 = λ s. Contains (flat_map (undone sig) (map stated_page pages)) s in
    subst Has i.is (into_flat_map (undone sig) (map stated_page pages) (stated_page p.of) (inverse i.of) (into_map stated_page pages p.of p.has) here)

into_rows : (sig : Sig) (rows : List Row) (pages : List PageEvidence) (z : Sig) → ((row : Row) → Contains (flat_map page_rows pages) row → Contains rows row) → Contains (flat_map (undone sig) (map stated_page pages)) z → Contains (rows_undone sig rows) z
into_rows sig rows pages z back has =
    let inverse : Row → Sig = λ row. inverse_of row sig in
    let p = from_flat_map (undone sig) (map stated_page pages) z has in
    let e = from_map stated_page pages p.of p.has in
    let In : UsedPage → Type 0 = λ u. Contains (undone sig u) z in
    let i = from_map inverse (filter (has_key (key_of sig)) e.of.rows) z (subst In (sym e.is) p.in_piece) in
    let k = from_filter (has_key (key_of sig)) e.of.rows i.of i.has in
    let row : Contains rows i.of = back i.of (into_flat_map page_rows pages e.of i.of e.has k.0) in
    let Has : Sig → Type 0 = λ s. Contains (rows_undone sig rows) s in
    subst Has i.is (into_map inverse (filter (has_key (key_of sig)) rows) i.of (into_filter (has_key (key_of sig)) rows i.of row k.1))

-- the rows of all pages say what those of each page say
pub origins_are : (r : RouterPages) (rows : List Row) (sig : Sig) → IsIndexed r rows → in_order sig_cmp (sig ∷ rows_undone sig rows) ≡ in_order sig_cmp (origins_of (stated_pages r) sig)
origins_are r rows sig is =
    let forth : (row : Row) → Contains rows row → Contains (flat_map page_rows r.pages) row = λ row. let s = is.same row in s.0 in
    let back : (row : Row) → Contains (flat_map page_rows r.pages) row → Contains rows row = λ row. let s = is.same row in s.1 in
    let olds : List Sig = rows_undone sig rows in
    let stated : List Sig = flat_map (undone sig) (stated_pages r) in
    same_order (sig ∷ olds) (sig ∷ stated)
    (λ z h. ⊎_elim
    (λ (e : sig ≡ z). let P : Sig → Type 0 = λ s. Contains (sig ∷ stated) s in subst P e (has_first sig stated))
    (λ later. has_later sig stated z (from_rows sig rows r.pages z forth later))
    (has_cases sig olds z h))
    (λ z h. ⊎_elim
    (λ (e : sig ≡ z). let P : Sig → Type 0 = λ s. Contains (sig ∷ olds) s in subst P e (has_first sig olds))
    (λ later. has_later sig olds z (into_rows sig rows r.pages z back later))
    (has_cases sig stated z h))

-- what was gathered
pub gathered : (sig s0 : Sig) (o0 o1 : List Sig) (rows : List Row) → s0 ≡ sig → o0 ≡ sig ∷ [] → o1 ≡ o0 ++ rows_undone s0 rows → o1 ≡ sig ∷ rows_undone sig rows
gathered sig s0 o0 o1 rows same begun more = more ∙ ap (λ (s : Sig). o0 ++ rows_undone s rows) same ∙ ap (λ (o : List Sig). o ++ rows_undone sig rows) begun

pub indexed : (r : RouterPages) (rows all : List Row) → IsShape r.shape → AreSized r → all ≡ flat_map page_rows r.pages → ((row : Row) → Contains rows row ↔ Contains all row) → IsIndexed r rows
indexed r rows all shape sizes is same = record {
  shaped = record { shape = shape; sizes = sizes };
  same = λ row. let s = same row in let Has : List Row → Type 0 = λ l. Contains l row in ((λ h. subst Has is (s.0 h)), (λ h. s.1 (subst Has (sym is) h)));
}

-- ---- items of lists

pub has_item : {X : Type 0} (xs ys : List X) (place : ℕ) (x : X) → ys ≡ xs → place < length ys → x ≡ get_or ys place x → Contains xs x
has_item {X} xs ys place x same within is = let Has : List X → Type 0 = λ l. Contains l x in subst Has same (place, within, sym is)

pub any_has : {X : Type 0} (p : X → Bool) (xs : List X) (x : X) → Contains xs x → p x ≡ true → list_any p xs ≡ true
any_has p [] x has e = absurd (has_none x has)
any_has {X} p (y ∷ ys) x has e = ⊎_elim
    (λ (same : y ≡ x). let P : X → Type 0 = λ z. p z ≡ true in one_holds (p y) (list_any p ys) (inl (subst P (sym same) e)))
    (λ later. one_holds (p y) (list_any p ys) (inr (any_has p ys x later e)))
    (has_cases y ys x has)
