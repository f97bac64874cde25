-- What pages show where entries come: what was shown is shown still, and a page that no entry is of shows the same.
use Rattle.std.proofs.Common.{ℕ, ◌≡◌, ◌≢◌, ◌^◌, ◌∷◌, [], ◌++◌, ◌∙◌, ⊎_elim, Bool, true, false, cond, ◌&&◌, ◌||◌, ◌==◌, List, filter, map, sym, ap, refl, append-nil}
use Rattle.std.specs.List.{Contains, list_any, list_all, range_with_len}
use Rattle.std.proofs.lemmas.Bool.{false≢true, false_from_ne_true, ne_eqb, eqb-true}
use Rattle.std.proofs.lemmas.List.Elements.{filter-append, filter_agree}
use Rattle.std.proofs.lemmas.List.Folds.{list_any-append}
use Rattle.spie_base.proofs.Booleans.{or_false, both_hold, both_held, one_held}
use Rattle.spie_base.proofs.Membership.{has_first, has_later}
use Rattle.spie_base.specs.Shapes.{shape_of}
use Rattle.spie_base.specs.declared.Entry.{Entry}
use Rattle.spie_base.specs.declared.PageShape.{PageShape}
use Rattle.spie_base.specs.declared.Rules.{Rules}
use Rattle.spie_base.specs.declared.Sig.{Sig}
use Rattle.hash_family.specs.Entries.{is_marked}
use Rattle.hash_family.specs.Positions.{marks_of}
use Rattle.bloom_page.specs.Sets.{is_in, are_in, set_of}
use Rattle.bloom_page.proofs.Members.{is_in-filter}
use Rattle.router_account.specs.Account.{Account, RowIn, bits, marks, rows_in}
use Rattle.router_account.specs.Ledger.{Ledger}
use Rattle.router_account.specs.Watches.{shows, is_shown}
use Rattle.trace_history.proofs.Recorded.{any_true}

found : {X : Type 0} (p : X → Bool) (xs : List X) → list_any p xs ≡ true → (y : X) × Contains xs y × (p y ≡ true)
found p [] h = absurd (false≢true h)
found p (x ∷ xs) h = ⊎_elim (λ e. (x, has_first x xs, e)) (λ more. let m = found p xs more in (m.0, has_later x xs m.0 m.1, m.2)) (one_held (p x) (list_any p xs) h)

pub any_more : {X : Type 0} (p : X → Bool) (xs ys : List X) → ((y : X) → Contains xs y → Contains ys y) → list_any p xs ≡ true → list_any p ys ≡ true
any_more p xs ys all h = let m = found p xs h in any_true p ys m.0 (all m.0 m.1) m.2

all_more : (p q : ℕ → Bool) (xs : List ℕ) → ((x : ℕ) → p x ≡ true → q x ≡ true) → list_all p xs ≡ true → list_all q xs ≡ true
all_more p q [] f h = h
all_more p q (x ∷ xs) f h =
    let b = both_held (p x) (list_all p xs) h in both_hold (q x) (list_all q xs) (f x b.0) (all_more p q xs f b.1)

-- the marks of more entries
bit_more : (rules : Rules) (router page : ℕ) (xs ys : List Entry) → ((e : Entry) → Contains xs e → Contains ys e) → (p : ℕ)
    → is_in (set_of rules.n (is_marked (shape_of rules router) xs page)).members p ≡ true → is_in (set_of rules.n (is_marked (shape_of rules router) ys page)).members p ≡ true
unfolding set_of
bit_more rules router page xs ys all p h =
    let range = range_with_len 0 (2 ^ rules.n) in
    let old = is_marked (shape_of rules router) xs page in
    let new = is_marked (shape_of rules router) ys page in
    let b = both_held (old p) (is_in range p) (sym (is_in-filter old range p) ∙ h) in
    is_in-filter new range p ∙ both_hold (new p) (is_in range p) (any_more (λ (entry : Entry). (entry.page.number == page) && is_in (marks rules router page entry.sig) p) xs ys all b.0) b.1

-- what was shown is shown by more entries
pub shows_more : (rules : Rules) (a b : Account) (sig : Sig) (page : ℕ) → a.router ≡ b.router → ((e : Entry) → Contains a.entries e → Contains b.entries e)
    → shows rules a sig page ≡ true → shows rules b sig page ≡ true
shows_more rules a b sig page router all h =
    let S : ℕ → List Entry → Bool = λ r es. are_in (set_of rules.n (is_marked (shape_of rules r) es page)).members (marks rules r page sig) in
    ap (λ r. S r b.entries) (sym router)
    ∙ all_more (is_in (bits rules a page)) (is_in (set_of rules.n (is_marked (shape_of rules a.router) b.entries page)).members) (marks rules a.router page sig)
    (bit_more rules a.router page a.entries b.entries all) h

-- the same entries show the same
pub shown_same : (rules : Rules) (l : Ledger) (a b : Account) (clock : ℕ) (sig : Sig) → a.router ≡ b.router → a.entries ≡ b.entries
    → is_shown rules l a clock sig ≡ is_shown rules l b clock sig
shown_same rules l a b clock sig router entries =
    let S : ℕ → List Entry → Bool = λ r es. is_shown rules l (record a { router = r; entries = es }) clock sig in
    ap (λ r. S r a.entries) router ∙ ap (λ es. S b.router es) entries

-- ---- a page that no more entry and no more row is of

none_marked : (shape : PageShape) (page p : ℕ) (es : List Entry) → ((e : Entry) → Contains es e → e.page.number ≢ page) → is_marked shape es page p ≡ false
none_marked shape page p es other = false_from_ne_true _ (λ h. (
    let m = found (λ (entry : Entry). (entry.page.number == page) && list_any (λ q. p == q) (marks_of shape page entry.sig)) es h in
    let b = both_held _ _ m.2 in
    other m.0 m.1 (eqb-true m.0.page.number page b.0)))

pub bits_other : (rules : Rules) (a : Account) (es : List Entry) (page : ℕ) → ((e : Entry) → Contains es e → e.page.number ≢ page)
    → bits rules a page ≡ bits rules (record a { entries = a.entries ++ es }) page
unfolding set_of
bits_other rules a es page other =
    let shape = shape_of rules a.router in
    filter_agree (is_marked shape a.entries page) (is_marked shape (a.entries ++ es) page)
    (λ p. sym (
    list_any-append (λ (entry : Entry). (entry.page.number == page) && is_in (marks rules a.router page entry.sig) p) a.entries es
    ∙ ap (λ b. is_marked shape a.entries page p || b) (none_marked shape page p es other)
    ∙ or_false (is_marked shape a.entries page p)))
    (range_with_len 0 (2 ^ rules.n))

none_at : (page : ℕ) (rs : List RowIn) → ((x : RowIn) → Contains rs x → x.page ≢ page) → filter (λ (entry : RowIn). entry.page == page) rs ≡ []
none_at page [] other = refl
none_at page (x ∷ rs) other =
    ap (λ b. cond b (x ∷ filter (λ (entry : RowIn). entry.page == page) rs) (filter (λ (entry : RowIn). entry.page == page) rs)) (ne_eqb x.page page (other x (has_first x rs)))
    ∙ none_at page rs (λ y h. other y (has_later x rs y h))

pub rows_other_all : (rows rs : List RowIn) (page : ℕ) → ((x : RowIn) → Contains rs x → x.page ≢ page) → rows_in rows page ≡ rows_in (rows ++ rs) page
unfolding rows_in
rows_other_all rows rs page other =
    ap (map (λ (entry : RowIn). entry.row))
    (sym (filter-append (λ (entry : RowIn). entry.page == page) rows rs
    ∙ ap (λ (ys : List RowIn). filter (λ (entry : RowIn). entry.page == page) rows ++ ys) (none_at page rs other)
    ∙ append-nil (filter (λ (entry : RowIn). entry.page == page) rows)))
