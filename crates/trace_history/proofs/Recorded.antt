-- What a record leaves in its router's account: its marks are in its page, and its row undoes its change.
use Rattle.std.proofs.Common.{◌≡◌, ℕ, ◌<◌, ◌^◌, Bool, true, false, cond, ◌&&◌, ◌==◌, ◌∷◌, [], ◌∙◌, sym, refl, subst, ap, inl, inr, ⊎_elim, List, filter, arith}
use Rattle.std.specs.List.{Contains, list_any, list_all, range_with_len}
use Rattle.std.proofs.lemmas.Bool.{false≢true, eq-eqb}
use Rattle.std.proofs.lemmas.List.Elements.{All-contains, Contains-append_left, Contains-append_cases, Contains-push}
use Rattle.spie_base.proofs.Booleans.{both_hold, one_holds}
use Rattle.spie_base.proofs.Membership.{has_none, has_first, has_later, has_cases, has_one, into_map, into_filter}
use Rattle.spie_base.specs.Shapes.{shape_of}
use Rattle.spie_base.specs.declared.Entry.{Entry}
use Rattle.spie_base.specs.declared.Rules.{Rules}
use Rattle.spie_base.specs.declared.Sig.{Sig}
use Rattle.hash_family.specs.Entries.{is_marked}
use Rattle.hash_family.proofs.PositionFacts.{marks_of-below}
use Rattle.bloom_page.specs.Sets.{is_in, are_in, set_of}
use Rattle.bloom_page.proofs.Members.{is_in-from_Contains, is_in-filter_range}
use Rattle.packet_signature.specs.declared.Kind.{Kind}
use Rattle.packet_signature.specs.declared.Row.{Row}
use Rattle.packet_signature.specs.Row.{row_of, key_of}
use Rattle.page_catalogue.specs.Pages.{open_page, is_due}
use Rattle.router_account.specs.Account.{Account, RowIn, marks, bits, fill, rows_in, with_closing}
use Rattle.trace_history.specs.History.{Event, recorded, rotated, archived, watched, ticked, queried, ended, History, Hop, Origin, same, changed, account, account_after, clock, with_hop, rows_after}
use Rattle.trace_history.specs.Receipts.{Receipt, receipt_by, receipts}
use Rattle.trace_history.specs.Routers.{RouterRules}
use Rattle.trace_history.proofs.Sequential.{account_router}

-- one that passes a test
pub any_true : {X : Type 0} (p : X → Bool) (xs : List X) (x : X) → Contains xs x → p x ≡ true → list_any p xs ≡ true
any_true p [] x h e = absurd (has_none x h)
any_true p (a ∷ xs) x h e =
    ⊎_elim (λ (s : a ≡ x). one_holds (p a) (list_any p xs) (inl (ap p s ∙ e)))
    (λ t. one_holds (p a) (list_any p xs) (inr (any_true p xs x t e)))
    (has_cases a xs x h)

all_true : {X : Type 0} (p : X → Bool) (xs : List X) → ((x : X) → Contains xs x → p x ≡ true) → list_all p xs ≡ true
all_true p [] h = refl
all_true p (a ∷ xs) h = both_hold (p a) (list_all p xs) (h a (has_first a xs)) (all_true p xs (λ x i. h x (has_later a xs x i)))

-- ---- an account keeps what it has

abbrev entry_of : Receipt → Entry
entry_of x = record { page = record { number = x.page }; sig = x.hop.sig }

-- a choice of two accounts, of which both have a property
either : (P : Account → Type 0) (b : Bool) (a c : Account) → P a → P c → P (cond b a c)
either P true a c h i = h
either P false a c h i = i

record IsWider (a b : Account) : Type 0 where
  pub entries : (e : Entry) → Contains a.entries e → Contains b.entries e
  pub rows : (x : RowIn) → Contains a.rows x → Contains b.rows x

wider_same : (a : Account) → IsWider a a
wider_same a = record { entries = λ e h. h; rows = λ x h. h }

wider_rows : (rows : List RowIn) (page : ℕ) (sig : Sig) (o : Origin) (x : RowIn) → Contains rows x → Contains (rows_after rows page sig o) x
wider_rows rows page sig same x h = h
wider_rows rows page sig (changed kind old) x h = Contains-append_left rows (record { page = page; row = row_of kind old sig } ∷ []) x h

wider_hop : (a : Account) (hop : Hop) (page : ℕ) → IsWider a (with_hop a hop page)
wider_hop a hop page = record {
  entries = λ e h. Contains-append_left a.entries (record { page = record { number = page }; sig = hop.sig } ∷ []) e h;
  rows = wider_rows a.rows page hop.sig hop.origin;
}

wider_closing : (a : Account) (t : ℕ) → IsWider a (with_closing a t)
wider_closing a t = record { entries = λ e h. h; rows = λ x h. h }

wider_after : (rules : Rules) (event : Event) (t : ℕ) (a : Account) → IsWider a (account_after rules event t a)
wider_after rules (recorded hop page) t a = either (IsWider a) (hop.router == a.router) (with_hop a hop page) a (wider_hop a hop page) (wider_same a)
wider_after rules (rotated router page) t a = either (IsWider a) (router == a.router) (with_closing a t) a (wider_closing a t) (wider_same a)
wider_after rules (archived router put kept) t a = wider_same a
wider_after rules (watched router sig answer) t a = wider_same a
wider_after rules (ticked time left) t a = either (IsWider a) (is_due rules a.closings time (fill rules a (open_page a.closings))) (with_closing a time) a (wider_closing a time) (wider_same a)
wider_after rules (queried query left) t a = wider_same a
wider_after rules (ended left) t a = wider_same a

-- the rows that a record makes
abbrev pub HasRow : List RowIn → (page : ℕ) → Sig → Origin → Type 0
HasRow rows page sig same = Unit {0}
HasRow rows page sig (changed kind old) = Contains rows (record { page = page; row = row_of kind old sig })

-- a record's entry and row are in the account
pub record IsKept (x : Receipt) (a : Account) : Type 0 where
  pub entry : Contains a.entries (entry_of x)
  pub row : HasRow a.rows x.page x.hop.sig x.hop.origin

row_kept : (x : Receipt) (a b : Account) → IsWider a b → (o : Origin) → HasRow a.rows x.page x.hop.sig o → HasRow b.rows x.page x.hop.sig o
row_kept x a b w same h = tt
row_kept x a b w (changed kind old) h = w.rows (record { page = x.page; row = row_of kind old x.hop.sig }) h

kept_by : (x : Receipt) (a b : Account) → IsWider a b → IsKept x a → IsKept x b
kept_by x a b w k = record { entry = w.entries (entry_of x) k.entry; row = row_kept x a b w x.hop.origin k.row }

row_new : (rows : List RowIn) (page : ℕ) (sig : Sig) (o : Origin) → HasRow (rows_after rows page sig o) page sig o
row_new rows page sig same = tt
row_new rows page sig (changed kind old) = Contains-push rows (record { page = page; row = row_of kind old sig })

kept_new : (x : Receipt) (a : Account) → IsKept x (with_hop a x.hop x.page)
kept_new x a = record { entry = Contains-push a.entries (entry_of x); row = row_new a.rows x.page x.hop.sig x.hop.origin }

chosen : (b : Bool) (x : Receipt) (a : Account) → b ≡ true → IsKept x (cond b (with_hop a x.hop x.page) a)
chosen true x a e = kept_new x a
chosen false x a e = absurd (false≢true e)

-- a record of this event is kept
kept_event : (rules : Rules) (event : Event) (t : ℕ) (x : Receipt) (a : Account) → a.router ≡ x.hop.router → Contains (receipt_by event) x → IsKept x (account_after rules event t a)
kept_event rules (recorded hop page) t x a at h =
    let own : Receipt = record { hop = hop; page = page } in
    let e : own ≡ x = has_one own x h in
    let P : Receipt → Type 0 = λ y. IsKept x (cond (y.hop.router == a.router) (with_hop a y.hop y.page) a) in
    subst P (sym e) (chosen (x.hop.router == a.router) x a (eq-eqb x.hop.router a.router (sym at)))
kept_event rules (rotated router page) t x a at h = absurd (has_none x h)
kept_event rules (archived router put kept) t x a at h = absurd (has_none x h)
kept_event rules (watched router sig answer) t x a at h = absurd (has_none x h)
kept_event rules (ticked time left) t x a at h = absurd (has_none x h)
kept_event rules (queried query left) t x a at h = absurd (has_none x h)
kept_event rules (ended left) t x a at h = absurd (has_none x h)

pub kept : (rules : RouterRules) (history : History) (x : Receipt) → Contains (receipts history) x → IsKept x (account rules x.hop.router history)
kept rules [] x h = absurd (has_none x h)
kept rules (moment ∷ history) x h =
    let r = x.hop.router in
    let a = account rules r history in
    ⊎_elim
    (λ old. kept_by x a (account_after (rules r) moment.event (clock history) a) (wider_after (rules r) moment.event (clock history) a) (kept rules history x old))
    (λ new. kept_event (rules r) moment.event (clock history) x a (account_router rules r history) new)
    (Contains-append_cases (receipts history) (receipt_by moment.event) x h)

-- ---- what its page holds

-- all marks of an entry are in its page
pub entry_shows : (rules : Rules) (a : Account) (page : ℕ) (sig : Sig) → Contains a.entries (record { page = record { number = page }; sig = sig }) → are_in (bits rules a page) (marks rules a.router page sig) ≡ true
unfolding set_of
entry_shows rules a page sig h =
    let shape = shape_of rules a.router in
    let own : Entry = record { page = record { number = page }; sig = sig } in
    let test : ℕ → Bool = is_marked shape a.entries page in
    all_true (is_in (filter test (range_with_len 0 (2 ^ rules.n)))) (marks rules a.router page sig)
    (λ p m.
    let under : p < 2 ^ rules.n = All-contains (λ q. q < 2 ^ rules.n) (marks rules a.router page sig) p (marks_of-below shape page sig) m in
    is_in-filter_range test (2 ^ rules.n) p (λ past. absurd (omega (arith, under, past)))
    ∙ any_true (λ (e : Entry). (e.page.number == page) && is_in (marks rules a.router page e.sig) p) a.entries own h
    (both_hold (page == page) (is_in (marks rules a.router page sig) p) (eq-eqb page page refl) (is_in-from_Contains (marks rules a.router page sig) p m)))

-- a row stands among those of its page
pub row_stands : (rows : List RowIn) (page : ℕ) (row : Row) → Contains rows (record { page = page; row = row }) → Contains (rows_in rows page) row
unfolding rows_in
row_stands rows page row h =
    let own : RowIn = record { page = page; row = row } in
    into_map (λ (entry : RowIn). entry.row) (filter (λ (entry : RowIn). entry.page == page) rows) own
    (into_filter (λ (entry : RowIn). entry.page == page) rows own h (eq-eqb page page refl))

pub key-row_of : (kind : Kind) (old sig : Sig) → (row_of kind old sig).key ≡ key_of sig
unfolding row_of
key-row_of kind old sig = refl
