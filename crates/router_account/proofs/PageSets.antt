-- The set of a page's marks and its rows, after one more entry, row or closing.
use Rattle.std.proofs.Common.{ℕ, zero, suc, ◌≡◌, ◌≢◌, ◌≤◌, ◌<◌, ◌^◌, ◌∷◌, [], ◌++◌, ◌∙◌, Bool, false, cond, ◌&&◌, ◌||◌, ◌==◌, List, length, get_or, map, sym, ap, refl, filter, arith}
use Rattle.std.specs.List.{All, range_with_len}
use Rattle.std.proofs.lemmas.Bool.{eq-eqb, ne_eqb, false_from_ne_true}
use Rattle.std.proofs.lemmas.List.{map-append, get_or_append_left}
use Rattle.std.proofs.lemmas.List.Elements.{All-contains, filter-append, filter_agree}
use Rattle.std.proofs.lemmas.List.Folds.{list_any-append, list_any_none}
use Rattle.spie_base.proofs.Booleans.{and_false, or_false}
use Rattle.spie_base.specs.Shapes.{shape_of}
use Rattle.spie_base.specs.declared.Entry.{Entry}
use Rattle.spie_base.specs.declared.Rules.{Rules}
use Rattle.spie_base.specs.declared.Sig.{Sig}
use Rattle.hash_family.specs.Entries.{is_marked}
use Rattle.hash_family.proofs.PositionFacts.{marks_of-below}
use Rattle.bloom_page.specs.Sets.{PageSet, is_in, set_of, united}
use Rattle.bloom_page.proofs.Members.{Contains-from_is_in, is_in-filter_range}
use Rattle.packet_signature.specs.declared.Row.{Row}
use Rattle.page_catalogue.specs.Pages.{opened, closed}
use Rattle.router_account.specs.Account.{RowIn, marks, rows_in}

abbrev pub entry_at : (page : ℕ) → Sig → Entry
entry_at page sig = record { page = record { number = page }; sig = sig }

-- no mark stands past the page
mark_past : (rules : Rules) (router page : ℕ) (sig : Sig) (p : ℕ) → 2 ^ rules.n ≤ p → is_in (marks rules router page sig) p ≡ false
mark_past rules router page sig p past =
    false_from_ne_true _ (λ e.
    let below : p < 2 ^ rules.n = All-contains (λ q. q < 2 ^ rules.n) (marks rules router page sig) p (marks_of-below (shape_of rules router) page sig) (Contains-from_is_in _ p e) in
    omega arith)

marked_past : (rules : Rules) (router page : ℕ) (entries : List Entry) (p : ℕ) → 2 ^ rules.n ≤ p → is_marked (shape_of rules router) entries page p ≡ false
marked_past rules router page entries p past =
    list_any_none _ entries (λ k d l.
    ap (λ b. ((get_or entries k d).page.number == page) && b) (mark_past rules router page (get_or entries k d).sig p past) ∙ and_false ((get_or entries k d).page.number == page))

-- the marks of one more entry of the page join its set
pub page_set_more : (rules : Rules) (router page : ℕ) (entries : List Entry) (sig : Sig)
    → set_of rules.n (is_marked (shape_of rules router) (entries ++ entry_at page sig ∷ []) page) ≡ united (set_of rules.n (is_marked (shape_of rules router) entries page)) (marks rules router page sig)
unfolding set_of
page_set_more rules router page entries sig =
    let new = entry_at page sig in
    let test = is_marked (shape_of rules router) entries page in
    let wider = is_marked (shape_of rules router) (entries ++ new ∷ []) page in
    let joined : ℕ → Bool = λ p. is_in (filter test (range_with_len 0 (2 ^ rules.n))) p || is_in (marks rules router page sig) p in
    let each : (p : ℕ) → wider p ≡ joined p = λ p.
    list_any-append (λ entry. (entry.page.number == page) && is_in (marks rules router page entry.sig) p) entries (new ∷ [])
    ∙ ap (λ b. test p || ((b && is_in (marks rules router page sig) p) || false)) (eq-eqb page page refl)
    ∙ ap (λ b. test p || b) (or_false _)
    ∙ ap (λ b. b || is_in (marks rules router page sig) p) (sym (is_in-filter_range test (2 ^ rules.n) p (marked_past rules router page entries p))) in
    ap (λ members. let s : PageSet = record { n = rules.n; members = members } in s) (filter_agree wider joined each (range_with_len 0 (2 ^ rules.n)))

-- an entry of another page changes nothing
pub page_set_other : (rules : Rules) (router page other : ℕ) (entries : List Entry) (sig : Sig) → other ≢ page
    → set_of rules.n (is_marked (shape_of rules router) (entries ++ entry_at other sig ∷ []) page) ≡ set_of rules.n (is_marked (shape_of rules router) entries page)
unfolding set_of
page_set_other rules router page other entries sig ne =
    let new = entry_at other sig in
    let test = is_marked (shape_of rules router) entries page in
    let wider = is_marked (shape_of rules router) (entries ++ new ∷ []) page in
    let each : (p : ℕ) → wider p ≡ test p = λ p.
    list_any-append (λ entry. (entry.page.number == page) && is_in (marks rules router page entry.sig) p) entries (new ∷ [])
    ∙ ap (λ b. test p || ((b && is_in (marks rules router page sig) p) || false)) (ne_eqb other page ne)
    ∙ or_false (test p) in
    ap (λ members. let s : PageSet = record { n = rules.n; members = members } in s) (filter_agree wider test each (range_with_len 0 (2 ^ rules.n)))

filter_never : (xs : List ℕ) → filter (λ x. false) xs ≡ []
filter_never [] = refl
filter_never (x ∷ xs) = filter_never xs

-- nothing is marked in a page behind all entries
pub page_set_fresh : (rules : Rules) (router page last : ℕ) (entries : List Entry) → All (λ entry. entry.page.number ≤ last) entries → last < page
    → set_of rules.n (is_marked (shape_of rules router) entries page) ≡ record { n = rules.n; members = [] }
unfolding set_of
page_set_fresh rules router page last entries all past =
    let test = is_marked (shape_of rules router) entries page in
    let none : (p : ℕ) → test p ≡ false = λ p.
    list_any_none _ entries (λ k d lt. ap (λ b. b && is_in (marks rules router page (get_or entries k d).sig) p) (ne_eqb (get_or entries k d).page.number page (λ e. let le : (get_or entries k d).page.number ≤ last = all k d lt in omega arith))) in
    ap (λ members. let s : PageSet = record { n = rules.n; members = members } in s)
    (filter_agree test (λ p. false) none (range_with_len 0 (2 ^ rules.n)) ∙ filter_never (range_with_len 0 (2 ^ rules.n)))

-- one more row
abbrev row_at : ℕ → Row → RowIn
row_at page row = record { page = page; row = row }

pub rows_more : (rows : List RowIn) (page : ℕ) (row : Row) → rows_in (rows ++ row_at page row ∷ []) page ≡ rows_in rows page ++ row ∷ []
unfolding rows_in
rows_more rows page row =
    ap (map (λ entry. entry.row)) (filter-append (λ entry. entry.page == page) rows (row_at page row ∷ []) ∙ ap (λ b. filter (λ entry. entry.page == page) rows ++ cond b (row_at page row ∷ []) []) (eq-eqb page page refl))
    ∙ map-append (λ (entry : RowIn). entry.row) (filter (λ entry. entry.page == page) rows) (row_at page row ∷ [])

append_none : (rows : List RowIn) → rows ++ [] ≡ rows
append_none [] = refl
append_none (x ∷ xs) = ap (λ r. x ∷ r) (append_none xs)

pub rows_other : (rows : List RowIn) (page other : ℕ) (row : Row) → other ≢ page → rows_in (rows ++ row_at other row ∷ []) page ≡ rows_in rows page
unfolding rows_in
rows_other rows page other row ne =
    ap (map (λ entry. entry.row)) (filter-append (λ entry. entry.page == page) rows (row_at other row ∷ [])
    ∙ ap (λ b. filter (λ entry. entry.page == page) rows ++ cond b (row_at other row ∷ []) []) (ne_eqb other page ne)
    ∙ append_none (filter (λ entry. entry.page == page) rows))

-- one more closing changes nothing of the pages before
pub closed_more : (closings : List ℕ) (time page : ℕ) → page < length closings → closed (closings ++ time ∷ []) page ≡ closed closings page
closed_more closings time page lt = get_or_append_left closings (time ∷ []) 0 page lt

pub opened_more : (closings : List ℕ) (time page : ℕ) → page ≤ length closings → opened (closings ++ time ∷ []) page ≡ opened closings page
opened_more closings time zero le = refl
opened_more closings time (suc page) le = closed_more closings time page (omega arith)
