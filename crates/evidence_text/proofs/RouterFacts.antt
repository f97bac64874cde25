-- What is so of the routers that were told, and stays so with a page or a row more.
use Rattle.std.proofs.Common.{ℕ, zero, suc, ◌≡◌, ◌+◌, ◌-◌, ◌^◌, ◌<◌, List, [], ◌∷◌, ◌++◌, length, slice_get, refl, ap, sym, ◌∙◌, subst, arith, true, length-append}
use Rattle.std.proofs.lemmas.Cmp.{nat_cmp_total}
use Rattle.std.proofs.lemmas.List.Elements.{All-append, All-cons, All-nil, All-head, All-tail}
use Rattle.std.proofs.lemmas.List.Sums.{sum_by-append}
use Rattle.std.specs.List.{All, sum_by}
use Rattle.std.specs.List.Sorted.{IsStrictlySortedBy}
use Rattle.std.specs.Ordering.{nat_cmp}
use Rattle.std.specs.declared.cmp.Ordering.{Ordering}
use Rattle.std.specs.declared.cmp.Ordering.TheVariants.{Less}
use Rattle.std.specs.declared.option.Option.{Option}
use Rattle.std.specs.declared.option.Option.TheVariants.{None, Some}
use Rattle.packet_signature.specs.declared.rows.Row.{Row}
use Rattle.spie_base.specs.declared.types.PageNo.{PageNo}
use Rattle.evidence_text.proofs.Ascents.{less_is, sorted_first, sorted_push, sorted_swap}
use Rattle.evidence_text.proofs.LastItems.{with_last_at}
use Rattle.evidence_text.specs.Judgeable.{page_lines, router_lines, IsRow, IsPage, IsRouterAt}
use Rattle.evidence_text.specs.Language.{size_in, new_page, with_last, with_page, with_row, with_row_in}
use Rattle.evidence_text.specs.Order.{is_page_above, is_there}
use Rattle.evidence_text.specs.Spelling.{AreWords}
use Rattle.evidence_text.specs.declared.certificates.PageEvidence.{PageEvidence}
use Rattle.evidence_text.specs.declared.certificates.RouterPages.{RouterPages}

-- ---- routers by their places

abbrev pub RoutersFrom : ℕ → List RouterPages → Type 0
RoutersFrom first [] = Unit {0}
RoutersFrom first (r ∷ more) = IsRouterAt first r × RoutersFrom (suc first) more

router_is : (i j : ℕ) (r : RouterPages) → i ≡ j → IsRouterAt i r → IsRouterAt j r
router_is i j r e h = let P : ℕ → Type 0 = λ k. IsRouterAt k r in subst P e h

pub router_at : (first router : ℕ) (routers : List RouterPages) (r : RouterPages) → RoutersFrom first routers → slice_get routers router ≡ Some r → IsRouterAt (first + router) r
router_at first router [] r h e = absurd (cc)
router_at first zero (x ∷ more) r h e =
    let is : x ≡ r = cc in
    let P : RouterPages → Type 0 = λ v. IsRouterAt (first + 0) v in
    subst P is (router_is first (first + 0) x (omega arith) h.0)
router_at first (suc router) (x ∷ more) r h e = router_is (suc first + router) (first + suc router) r (omega arith) (router_at (suc first) router more r h.1 e)

pub router_by_place : (router : ℕ) (routers : List RouterPages) (r : RouterPages) → RoutersFrom 0 routers → slice_get routers router ≡ Some r → IsRouterAt router r
router_by_place router routers r h e = router_is (0 + router) router r (omega arith) (router_at 0 router routers r h e)

pub push_router : (first : ℕ) (routers : List RouterPages) (r : RouterPages) → RoutersFrom first routers → IsRouterAt (first + length routers) r → RoutersFrom first (routers ++ r ∷ [])
push_router first [] r h is = (router_is (first + 0) first r (omega arith) is, tt)
push_router first (x ∷ more) r h is = (h.0, push_router (suc first) more r h.1 (router_is (first + suc (length more)) (suc first + length more) r (omega arith) is))

swap_router : (first : ℕ) (routers : List RouterPages) (r q : RouterPages) → ((i : ℕ) → IsRouterAt i r → IsRouterAt i q) → RoutersFrom first (routers ++ r ∷ []) → RoutersFrom first (routers ++ q ∷ [])
swap_router first [] r q same h = (same first h.0, tt)
swap_router first (x ∷ more) r q same h = (h.0, swap_router (suc first) more r q same h.1)

-- ---- the latest router and its latest page

abbrev pub page_cmp : PageEvidence → PageEvidence → Ordering
page_cmp a b = nat_cmp a.page.number b.page.number

pub record IsLastPage (pages : List PageEvidence) (number : ℕ) : Type 0 where
  pub before : List PageEvidence
  pub latest : PageEvidence
  pub are : pages ≡ before ++ latest ∷ []
  pub number_is : latest.page.number ≡ number

abbrev pub LastPage : List PageEvidence → Option ℕ → Type 0
LastPage pages None = pages ≡ []
LastPage pages (Some number) = IsLastPage pages number

pub record IsLastRouter (routers : List RouterPages) (n : ℕ) (page : Option ℕ) : Type 0 where
  pub before : List RouterPages
  pub latest : RouterPages
  pub are : routers ≡ before ++ latest ∷ []
  pub size : latest.shape.n ≡ n
  pub pages : LastPage latest.pages page

abbrev pub LastRouter : List RouterPages → Option ℕ → Option ℕ → Type 0
LastRouter routers None page = (routers ≡ []) × (page ≡ None)
LastRouter routers (Some n) page = IsLastRouter routers n page

-- the routers with a line more
pub record IsAdded (old new : List RouterPages) (n page : Option ℕ) : Type 0 where
  pub routers : RoutersFrom 0 new
  pub long : length new ≡ length old
  pub latest : LastRouter new n page
  pub lines : sum_by router_lines new ≡ sum_by router_lines old + 1

-- ---- a page more

pages_push : (pages : List PageEvidence) (page : Option ℕ) (e : PageEvidence) → IsStrictlySortedBy page_cmp pages → LastPage pages page → is_page_above page e.page.number ≡ true → IsStrictlySortedBy page_cmp (pages ++ e ∷ [])
pages_push pages None e s is above =
    let P : List PageEvidence → Type 0 = λ z. IsStrictlySortedBy page_cmp (z ++ e ∷ []) in
    subst P (sym is) (sorted_first page_cmp e)
pages_push pages (Some number) e s l above =
    let P : List PageEvidence → Type 0 = λ z. IsStrictlySortedBy page_cmp (z ++ e ∷ []) in
    let Q : List PageEvidence → Type 0 = λ z. IsStrictlySortedBy page_cmp z in
    let less : page_cmp l.latest e ≡ Less = ap (λ k. nat_cmp k e.page.number) l.number_is ∙ less_is _ above in
    subst P (sym l.are) (sorted_push page_cmp (λ x y z. nat_cmp_total.trans x.page.number y.page.number z.page.number) l.before l.latest e (subst Q l.are s) less)

with_page_is : (n : ℕ) (page : PageNo) (words : List ℕ) (last : Option ℕ) (r : RouterPages) → r.shape.n ≡ n → LastPage r.pages last → is_page_above last page.number ≡ true → page.number < 2 ^ 32 → length words ≡ 2 ^ (n - 6) → All (λ w. w < 2 ^ 64) words → (i : ℕ) → IsRouterAt i r → IsRouterAt i (with_page page n words r)
with_page_is n page words last r size l above small count each i h = record {
  number = h.number;
  in_range = h.in_range;
  base = h.base;
  ascend = pages_push r.pages last (new_page page n words) h.ascend l above;
  pages =
      let P : PageEvidence → Type 0 = λ e. IsPage r.shape.n e in
      let Q : ℕ → Type 0 = λ k. IsPage k (new_page page n words) in
      let own : IsPage n (new_page page n words) = record { number = small; words = words; count = count; each = each; bits = refl; rows = All-nil _ } in
      All-append P r.pages (new_page page n words ∷ []) h.pages (All-cons P (new_page page n words) [] (subst Q (sym size) own) (All-nil P));
}

page_more : (page : PageNo) (n : ℕ) (words : List ℕ) (r : RouterPages) → router_lines (with_page page n words r) ≡ router_lines r + 1
page_more page n words r = let e = sum_by-append page_lines r.pages (new_page page n words ∷ []) in omega (arith, e)

lines_more : (before : List RouterPages) (r q : RouterPages) → router_lines q ≡ router_lines r + 1 → sum_by router_lines (before ++ q ∷ []) ≡ sum_by router_lines (before ++ r ∷ []) + 1
lines_more before r q e =
    let a = sum_by-append router_lines before (q ∷ []) in
    let b = sum_by-append router_lines before (r ∷ []) in
    omega (arith, a, b, e)

long_same : (before : List RouterPages) (r q : RouterPages) → length (before ++ q ∷ []) ≡ length (before ++ r ∷ [])
long_same before r q = length-append before (q ∷ []) ∙ sym (length-append before (r ∷ []))

-- the latest router is another
swapped : (before : List RouterPages) (r q : RouterPages) (n : ℕ) (page : Option ℕ) → RoutersFrom 0 (before ++ r ∷ []) → ((i : ℕ) → IsRouterAt i r → IsRouterAt i q) → router_lines q ≡ router_lines r + 1 → q.shape.n ≡ n → LastPage q.pages page → IsAdded (before ++ r ∷ []) (before ++ q ∷ []) (Some n) page
swapped before r q n page h same lines size last = record {
  routers = swap_router 0 before r q same h;
  long = long_same before r q;
  latest = record { before = before; latest = q; are = refl; size = size; pages = last };
  lines = lines_more before r q lines;
}

added_by : (routers before : List RouterPages) (r : RouterPages) (f : RouterPages → RouterPages) (n : ℕ) (page : Option ℕ) → routers ≡ before ++ r ∷ [] → (RoutersFrom 0 (before ++ r ∷ []) → IsAdded (before ++ r ∷ []) (before ++ f r ∷ []) (Some n) page) → RoutersFrom 0 routers → IsAdded routers (with_last f routers) (Some n) page
added_by routers before r f n page are more h =
    let P : List RouterPages → Type 0 = λ z. RoutersFrom 0 z in
    let Q : List RouterPages → Type 0 = λ z. IsAdded z (with_last f z) (Some n) page in
    let R : List RouterPages → Type 0 = λ z. IsAdded (before ++ r ∷ []) z (Some n) page in
    subst Q (sym are) (subst R (sym (with_last_at f before r)) (more (subst P are h)))

pub added_page : (routers : List RouterPages) (n last : Option ℕ) (page : PageNo) (words : List ℕ) → RoutersFrom 0 routers → LastRouter routers n last → AreWords n words → page.number < 2 ^ 32 → is_page_above last page.number ≡ true → IsAdded routers (with_last (with_page page (size_in n) words) routers) n (Some page.number)
added_page routers None last page words h l w small above = absurd w
added_page routers (Some n) last page words h l w small above =
    added_by routers l.before l.latest (with_page page n words) n (Some page.number) l.are (λ g.
    swapped l.before l.latest (with_page page n words l.latest) n (Some page.number) g
    (with_page_is n page words last l.latest l.size l.pages above small w.0 w.1)
    (page_more page n words l.latest) l.size
    (record { before = l.latest.pages; latest = new_page page n words; are = refl; number_is = refl })) h

-- ---- a row more

all_swap : {X : Type 0} (P : X → Type 0) (xs : List X) (x z : X) → All P (xs ++ x ∷ []) → (P x → P z) → All P (xs ++ z ∷ [])
all_swap P [] x z h p = All-cons P z [] (p (All-head P x [] h)) (All-nil P)
all_swap P (y ∷ ys) x z h p = All-cons P y (ys ++ z ∷ []) (All-head P y (ys ++ x ∷ []) h) (all_swap P ys x z (All-tail P y (ys ++ x ∷ []) h) p)

with_row_is : (n : ℕ) (row : Row) (e : PageEvidence) → IsRow row → IsPage n e → IsPage n (with_row row e)
with_row_is n row e fits h = record {
  number = h.number;
  words = h.words;
  count = h.count;
  each = h.each;
  bits = h.bits;
  rows = let P : Row → Type 0 = λ r. IsRow r in All-append P e.rows (row ∷ []) h.rows (All-cons P row [] fits (All-nil P));
}

rows_in : (row : Row) (pages before : List PageEvidence) (latest : PageEvidence) → pages ≡ before ++ latest ∷ [] → with_last (with_row row) pages ≡ before ++ with_row row latest ∷ []
rows_in row pages before latest are = ap (with_last (with_row row)) are ∙ with_last_at (with_row row) before latest

with_row_in_is : (row : Row) (r : RouterPages) (number : ℕ) → IsLastPage r.pages number → IsRow row → (i : ℕ) → IsRouterAt i r → IsRouterAt i (with_row_in row r)
with_row_in_is row r number l fits i h =
    let new = rows_in row r.pages l.before l.latest l.are in
    let S : List PageEvidence → Type 0 = λ z. IsStrictlySortedBy page_cmp z in
    let A : List PageEvidence → Type 0 = λ z. All (IsPage r.shape.n) z in
    record {
      number = h.number;
      in_range = h.in_range;
      base = h.base;
      ascend = subst S (sym new) (sorted_swap page_cmp l.before l.latest (with_row row l.latest) (λ y less. less) (subst S l.are h.ascend));
      pages = subst A (sym new) (all_swap (IsPage r.shape.n) l.before l.latest (with_row row l.latest) (subst A l.are h.pages) (with_row_is r.shape.n row l.latest fits));
    }

row_lines : (row : Row) (e : PageEvidence) → page_lines (with_row row e) ≡ page_lines e + 1
row_lines row e = let a = length-append e.rows (row ∷ []) in omega (arith, a)

row_more : (row : Row) (r : RouterPages) (number : ℕ) → IsLastPage r.pages number → router_lines (with_row_in row r) ≡ router_lines r + 1
row_more row r number l =
    let new : sum_by page_lines (with_last (with_row row) r.pages) ≡ sum_by page_lines (l.before ++ with_row row l.latest ∷ []) = ap (sum_by page_lines) (rows_in row r.pages l.before l.latest l.are) in
    let old : sum_by page_lines r.pages ≡ sum_by page_lines (l.before ++ l.latest ∷ []) = ap (sum_by page_lines) l.are in
    let a = sum_by-append page_lines l.before (with_row row l.latest ∷ []) in
    let b = sum_by-append page_lines l.before (l.latest ∷ []) in
    let c = row_lines row l.latest in
    omega (arith, new, old, a, b, c)

row_last : (row : Row) (r : RouterPages) (number : ℕ) → IsLastPage r.pages number → IsLastPage (with_last (with_row row) r.pages) number
row_last row r number l = record { before = l.before; latest = with_row row l.latest; are = rows_in row r.pages l.before l.latest l.are; number_is = l.number_is }

pub added_row : (routers : List RouterPages) (n last : Option ℕ) (row : Row) → RoutersFrom 0 routers → LastRouter routers n last → is_there last ≡ true → IsRow row → IsAdded routers (with_last (with_row_in row) routers) n last
added_row routers None None row h l there fits = absurd (cc)
added_row routers None (Some number) row h l there fits = let e : Some number ≡ None = l.1 in absurd (cc)
added_row routers (Some n) None row h l there fits = absurd (cc)
added_row routers (Some n) (Some number) row h l there fits =
    added_by routers l.before l.latest (with_row_in row) n (Some number) l.are (λ g.
    swapped l.before l.latest (with_row_in row l.latest) n (Some number) g
    (with_row_in_is row l.latest number l.pages fits)
    (row_more row l.latest number l.pages) l.size
    (row_last row l.latest number l.pages)) h
