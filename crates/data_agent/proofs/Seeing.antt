-- What a query sees.
use Rattle.std.proofs.Common.{ℕ, zero, suc, ◌≡◌, ◌≤◌, ◌<◌, ◌+◌, ◌-◌, ◌∙◌, ◌∷◌, [], ◌++◌, List, length, filter, cond, max, min, Bool, true, false, not, ◌||◌, ◌&&◌, ◌==◌, Some, None, nat_lt, sym, ap, refl, inl, inr, arith}
use Rattle.std.specs.List.{Contains, list_any, range_with_len}
use Rattle.std.proofs.lemmas.Bool.{cases_lt, cases_eq, false_from_ne_true, le-leb, lt-leb, eq-eqb, ne_eqb, false≢true}
use Rattle.std.proofs.lemmas.List.Elements.{filter-append}
use Rattle.spie_base.proofs.Membership.{has_none, has_first, has_later, has_cases, from_filter, into_filter}
use Rattle.spie_base.specs.Shapes.{shape_of}
use Rattle.spie_base.specs.declared.PageRange.{PageRange}
use Rattle.spie_base.specs.declared.Rules.{Rules}
use Rattle.spie_base.specs.declared.Sig.{Sig}
use Rattle.bloom_page.specs.Sets.{are_in}
use Rattle.bloom_page.proofs.Members.{Contains-range}
use Rattle.bloom_page.proofs.Ranges.{range-append}
use Rattle.hash_family.specs.Positions.{positions_by}
use Rattle.hash_family.proofs.PositionFacts.{marks_of-family}
use Rattle.page_catalogue.specs.Pages.{is_in_window}
use Rattle.router_account.specs.declared.words.Cause.{Cause}
use Rattle.used_pages.specs.UsedPages.{Held, holds_sig}
use Rattle.router_account.specs.Account.{Account, below, held, hit, marks, window}
use Rattle.router_account.specs.Ledger.{Ledger, Unfinished, was_expired}
use Rattle.router_account.specs.Shelves.{ShelfView}
use Rattle.router_account.specs.Sights.{GotPage, UnreadPage, Reading, got_or, is_missing, is_unread as is_unread_in, page_by, used_by, expired_by, sight_by, last_of, range_of}
use Rattle.data_agent.specs.declared.agent.Agent.{Agent}
use Rattle.data_agent.specs.declared.looking.Look.{Look}
use Rattle.data_agent.specs.declared.looking.Looked.{Looked}
use Rattle.data_agent.specs.declared.looking.Looked.TheVariants.{Borrowed, ReadBack, Unread}
use Rattle.data_agent.specs.declared.looking.ReadPage.{ReadPage}
use Rattle.data_agent.specs.Looking.{AreLooks, IsKnown, LooksTo, is_unread, look_shows, looked_unread, looked_shows, reading_of}
use Rattle.data_agent.specs.Seeing.{expired_in}
use Rattle.data_agent.specs.Standing.{Stands, StandsWhole}
use Rattle.data_agent.proofs.Looks.{any_looks, fetched_is, into_got, into_lost, look_is, look_same, lost_is}
use Rattle.data_agent.proofs.Runs.{filter_run, any_map}
use Rattle.data_agent.proofs.Watching.{same_shows, any_has, none_has}
use Rattle.data_agent.proofs.Windows.{IsWindow, page_gone, page_live}

-- what was seen of the pages of a window, and of which router at what time
pub record Saw (agent : Agent) (rules : Rules) (l : Ledger) (time first last from : ℕ) (x : ShelfView) (looks : List Look) : Type 0 where
  pub stands : Stands agent rules l
  pub window_is : IsWindow rules l.account time first last
  pub from_is : from ≡ max agent.catalogue.gone first
  pub all : AreLooks rules l x from looks
  pub count : length looks ≡ last + 1 - from

pub saw_by : (agent : Agent) (rules : Rules) (l : Ledger) (u : Unfinished) (time first last from : ℕ) (x z : ShelfView) (looks : List Look) → StandsWhole agent rules l u → IsWindow rules l.account time first last → from ≡ max agent.catalogue.gone first
    → LooksTo rules l from (last + 1 - from) looks x z → Saw agent rules l time first last from x looks
saw_by agent rules l u time first last from x z looks s w at looked = record { stands = s.stands; window_is = w; from_is = at; all = looked.each; count = looked.count_is }

-- ---- what a page says of the reading

not_unread : (looked : Looked) → looked_unread looked ≡ false → (c : Cause) → looked ≡ Unread c → ⊥
not_unread looked none c e = false≢true (sym none ∙ ap looked_unread e)

unread_where_is : (agent : Agent) (rules : Rules) (l : Ledger) (time first last from : ℕ) (x : ShelfView) (looks : List Look) (look : Look) (w : Looked) → Saw agent rules l time first last from x looks → Contains looks look → look.looked ≡ w → is_unread_in (reading_of looks) look.page.number ≡ looked_unread w
unread_where_is agent rules l time first last from x looks look (Unread cause) s has e =
    any_has (λ (y : UnreadPage). y.page == look.page.number) (reading_of looks).unread (record { page = look.page.number; cause = cause }) (into_lost looks look cause has e) (eq-eqb look.page.number look.page.number refl)
unread_where_is agent rules l time first last from x looks look (Borrowed r) s has e =
    none_has (λ (y : UnreadPage). y.page == look.page.number) (reading_of looks).unread (λ y in_it.
    let i = lost_is looks y in_it in
    ne_eqb y.page look.page.number (λ at. not_unread (Borrowed r) refl y.cause (sym e ∙ ap (λ k. k.looked) (sym (look_same rules l x from looks i.look look s.all i.has has (i.at ∙ at))) ∙ i.is)))
unread_where_is agent rules l time first last from x looks look (ReadBack p) s has e =
    none_has (λ (y : UnreadPage). y.page == look.page.number) (reading_of looks).unread (λ y in_it.
    let i = lost_is looks y in_it in
    ne_eqb y.page look.page.number (λ at. not_unread (ReadBack p) refl y.cause (sym e ∙ ap (λ k. k.looked) (sym (look_same rules l x from looks i.look look s.all i.has has (i.at ∙ at))) ∙ i.is)))

pub unread_is : (agent : Agent) (rules : Rules) (l : Ledger) (time first last from : ℕ) (x : ShelfView) (looks : List Look) (look : Look) → Saw agent rules l time first last from x looks → Contains looks look → is_unread_in (reading_of looks) look.page.number ≡ is_unread look
unread_is agent rules l time first last from x looks look s has = unread_where_is agent rules l time first last from x looks look look.looked s has refl

got_step : (x : GotPage) (more : List GotPage) (page : ℕ) (own : Held) (b : Bool) → (x.page == page) ≡ b → got_or (x ∷ more) page own ≡ cond b x.held (got_or more page own)
got_step x more page own b e = ap (λ c. cond c x.held (got_or more page own)) e

got_none : (got : List GotPage) (page : ℕ) (own : Held) → ((y : GotPage) → Contains got y → y.page ≡ page → ⊥) → got_or got page own ≡ own
got_none [] page own none = refl
got_none (x ∷ more) page own none = got_step x more page own false (ne_eqb x.page page (none x (has_first x more))) ∙ got_none more page own (λ y has. none y (has_later x more y has))

got_some : (got : List GotPage) (page : ℕ) (own h : Held) (y : GotPage) → Contains got y → y.page ≡ page → ((z : GotPage) → Contains got z → z.page ≡ page → z.held ≡ h) → got_or got page own ≡ h
got_some [] page own h y has at each = absurd (has_none y has)
got_some (x ∷ more) page own h y has at each = elim (cases_eq x.page page) [
  | inl here ↦ got_step x more page own true (eq-eqb x.page page here) ∙ each x (has_first x more) here
  | inr other ↦ got_step x more page own false (ne_eqb x.page page other) ∙ (elim (has_cases x more y has) [
    | inl same ↦ absurd (other (ap (λ k. k.page) same ∙ at))
    | inr later ↦ got_some more page own h y later at (λ z has_z. each z (has_later x more z has_z))
  ])
]

-- what is held of a page that was seen
abbrev pub held_in : Looked → Held → Held
held_in (Borrowed r) own = own
held_in (ReadBack p) own = record { bits = p.resident.page.members; rows = p.read.value }
held_in (Unread cause) own = own

abbrev pub looked_read : Looked → Bool
looked_read (Borrowed r) = false
looked_read (ReadBack p) = true
looked_read (Unread cause) = false

abbrev pub held_of_read : Held → Looked → Held
held_of_read own (Borrowed r) = own
held_of_read own (ReadBack p) = record { bits = p.resident.page.members; rows = p.read.value }
held_of_read own (Unread cause) = own

not_read : (looked : Looked) (own : Held) (none : looked_read looked ≡ false) (p : ReadPage) → looked ≡ ReadBack p → ⊥
not_read looked own none p e = false≢true (sym none ∙ ap looked_read e)

pub held_is : (agent : Agent) (rules : Rules) (l : Ledger) (time first last from : ℕ) (x : ShelfView) (looks : List Look) (look : Look) (own : Held) (w : Looked) → Saw agent rules l time first last from x looks → Contains looks look → look.looked ≡ w
    → got_or (reading_of looks).got look.page.number own ≡ held_in w own
held_is agent rules l time first last from x looks look own (Borrowed r) s has e = got_none (reading_of looks).got look.page.number own (λ y in_it at.
    let i = fetched_is looks y in_it in
    not_read (Borrowed r) own refl i.page (sym e ∙ ap (λ k. k.looked) (sym (look_same rules l x from looks i.look look s.all i.has has (i.at ∙ at))) ∙ i.is))
held_is agent rules l time first last from x looks look own (Unread c) s has e = got_none (reading_of looks).got look.page.number own (λ y in_it at.
    let i = fetched_is looks y in_it in
    not_read (Unread c) own refl i.page (sym e ∙ ap (λ k. k.looked) (sym (look_same rules l x from looks i.look look s.all i.has has (i.at ∙ at))) ∙ i.is))
held_is agent rules l time first last from x looks look own (ReadBack p) s has e =
    let h : Held = record { bits = p.resident.page.members; rows = p.read.value } in
    got_some (reading_of looks).got look.page.number own h (record { page = look.page.number; held = h }) (into_got looks look p has e) refl (λ y in_it at.
    let i = fetched_is looks y in_it in
    let same : ReadBack i.page ≡ ReadBack p = sym i.is ∙ ap (λ k. k.looked) (look_same rules l x from looks i.look look s.all i.has has (i.at ∙ at)) ∙ e in
    sym i.held_is ∙ ap (held_of_read h) same)

-- ---- the pages of the window

window_run : (rules : Rules) (a : Account) (time first last : ℕ) → IsWindow rules a time first last → window rules a time ≡ range_with_len first (last + 1 - first)
window_run rules a time first last w =
    let some : first ≤ last = w.some in
    let exists : last ≤ length a.closings = w.exists in
    let apart : (i : ℕ) → (first ≤ i → i ≤ last → ⊥) → i < length a.closings + 1 → is_in_window rules a.closings time i ≡ false =
    λ i out lt. false_from_ne_true _ (λ is. let has = w.outside i (into_filter (is_in_window rules a.closings time) (below (length a.closings + 1)) i (Contains-range (length a.closings + 1) i lt) is) in out has.0 has.1) in
    filter_run (is_in_window rules a.closings time) 0 (length a.closings + 1) (length a.closings + 1) first (last + 1 - first) (omega arith) (record {
      from = omega arith;
      to = omega arith;
      inside = λ i le lt. (from_filter (is_in_window rules a.closings time) (below (length a.closings + 1)) i (w.inside i le (omega arith))).1;
      before = λ i le lt. apart i (λ f t. omega arith) (omega arith);
      behind = λ i le lt. apart i (λ f t. omega arith) lt;
    })

pub expired_run : (agent : Agent) (rules : Rules) (l : Ledger) (time first last : ℕ) → ((page : ℕ) → nat_lt page agent.catalogue.gone ≡ was_expired rules l page) → IsWindow rules l.account time first last
    → expired_by rules l (window rules l.account time) ≡ range_with_len first (min agent.catalogue.gone (last + 1) - first)
expired_run agent rules l time first last exact w =
    let some : first ≤ last = w.some in
    ap (filter (was_expired rules l)) (window_run rules l.account time first last w)
    ∙ filter_run (was_expired rules l) first (last + 1 - first) (last + 1) first (min agent.catalogue.gone (last + 1) - first) (omega arith) (record {
      from = omega arith;
      to = omega arith;
      inside = λ i le lt. page_gone agent rules l exact i (omega arith);
      before = λ i le lt. absurd (omega arith);
      behind = λ i le lt. page_live agent rules l exact i (omega arith);
    })

last_run : (first count : ℕ) → last_of first (range_with_len (first + 1) count) ≡ first + count
last_run first zero = omega arith
last_run first (suc count) = last_run (first + 1) count ∙ (let e : first + 1 + count ≡ first + suc count = omega arith in e)

pub range_run : (first last gone : ℕ) → first ≤ last → expired_in first last gone ≡ range_of (range_with_len first (min gone (last + 1) - first))
range_run first last gone some =
    elim (cases_lt first gone) [
      | inl early ↦
          let count : ℕ = min gone (last + 1) - first - 1 in
          let more : suc count ≡ min gone (last + 1) - first = omega arith in
          let end : min last (gone - 1) ≡ first + count = omega arith in
          ap (λ b. cond b None (Some (let r : PageRange = record { first = record { number = first }; last = record { number = min last (gone - 1) } } in r))) (lt-leb gone first early)
          ∙ ap (λ n. Some (let r : PageRange = record { first = record { number = first }; last = record { number = n } } in r)) (end ∙ sym (last_run first count))
          ∙ ap (λ n. range_of (range_with_len first n)) more
      | inr late ↦
          ap (λ b. cond b None (Some (let r : PageRange = record { first = record { number = first }; last = record { number = min last (gone - 1) } } in r))) (le-leb gone first late)
          ∙ ap (λ n. range_of (range_with_len first n)) (let e : 0 ≡ min gone (last + 1) - first = omega arith in e)
    ]

-- ---- the pages that are used

abbrev pub is_used : Rules → Ledger → Reading → ℕ → Bool
is_used rules l reading page = not (is_missing rules l reading page)

rest_run : (test : ℕ → Bool) (first from bound : ℕ) → first ≤ bound → first ≤ from → filter test (range_with_len (first + (min from bound - first)) (bound - from)) ≡ filter test (range_with_len from (bound - from))
rest_run test first from bound le after = elim (cases_lt bound from) [
  | inl past ↦ ap (λ n. filter test (range_with_len (first + (min from bound - first)) n)) (let e : bound - from ≡ 0 = omega arith in e) ∙ sym (ap (λ n. filter test (range_with_len from n)) (let e : bound - from ≡ 0 = omega arith in e))
  | inr within ↦ ap (λ n. filter test (range_with_len n (bound - from))) (let e : first + (min from bound - first) ≡ from = omega arith in e)
]

-- behind pages that fail a test, the others
tail_run : (test : ℕ → Bool) (first from bound : ℕ) → first ≤ bound → first ≤ from → ((i : ℕ) → first ≤ i → i < from → test i ≡ false) → filter test (range_with_len first (bound - first)) ≡ filter test (range_with_len from (bound - from))
tail_run test first from bound le after none =
    let m : ℕ = min from bound - first in
    let k : ℕ = bound - from in
    let parts : bound - first ≡ m + k = omega arith in
    let front : filter test (range_with_len first m) ≡ [] = filter_run test first m (first + m) first 0 refl (record {
      from = omega arith;
      to = omega arith;
      inside = λ i le lt. absurd (omega arith);
      before = λ i le lt. absurd (omega arith);
      behind = λ i le lt. none i (omega arith) (omega arith);
    }) in
    ap (λ n. filter test (range_with_len first n)) parts ∙ ap (filter test) (range-append first m k) ∙ filter-append test (range_with_len first m) (range_with_len (first + m) k)
    ∙ ap (λ xs. xs ++ filter test (range_with_len (first + m) k)) front ∙ rest_run test first from bound le after

pub used_numbers : (agent : Agent) (rules : Rules) (l : Ledger) (time first last from : ℕ) (x : ShelfView) (looks : List Look) → Saw agent rules l time first last from x looks
    → used_by rules l (window rules l.account time) (reading_of looks) ≡ filter (is_used rules l (reading_of looks)) (range_with_len from (length looks))
used_numbers agent rules l time first last from x looks s =
    let reading = reading_of looks in
    let some : first ≤ last = s.window_is.some in
    let at = s.from_is in
    ap (filter (is_used rules l reading)) (window_run rules l.account time first last s.window_is)
    ∙ tail_run (is_used rules l reading) first from (last + 1) (omega arith) (omega arith) (λ i le lt. ap (λ b. not (b || is_unread_in reading i)) (page_gone agent rules l s.stands.expired i (omega arith)))
    ∙ ap (λ n. filter (is_used rules l reading) (range_with_len from n)) (sym s.count)

-- a page that was seen
pub record IsSeenPage (agent : Agent) (rules : Rules) (l : Ledger) (first last : ℕ) (x : ShelfView) (look : Look) : Type 0 where
  pub near : agent.catalogue.gone ≤ look.page.number
  pub from : first ≤ look.page.number
  pub to : look.page.number ≤ last
  pub live : was_expired rules l look.page.number ≡ false
  pub known : IsKnown rules l look.page.number x look.looked

pub seen_page : (agent : Agent) (rules : Rules) (l : Ledger) (time first last from : ℕ) (x : ShelfView) (looks : List Look) (look : Look) → Saw agent rules l time first last from x looks → Contains looks look → IsSeenPage agent rules l first last x look
seen_page agent rules l time first last from x looks look s has =
    let at = look_is rules l x from looks look s.all has in
    let low = at.0 in
    let high = at.1 in
    let e = s.from_is in
    let n = s.count in
    record {
      near = omega arith;
      from = omega arith;
      to = omega arith;
      live = page_live agent rules l s.stands.expired look.page.number (omega arith);
      known = at.2.known;
    }

pub used_is : (agent : Agent) (rules : Rules) (l : Ledger) (time first last from : ℕ) (x : ShelfView) (looks : List Look) (look : Look) → Saw agent rules l time first last from x looks → Contains looks look → is_used rules l (reading_of looks) look.page.number ≡ not (is_unread look)
used_is agent rules l time first last from x looks look s has =
    ap (λ b. not (b || is_unread_in (reading_of looks) look.page.number)) (seen_page agent rules l time first last from x looks look s has).live
    ∙ ap not (unread_is agent rules l time first last from x looks look s has)

-- ---- what is hit

shows_is : (agent : Agent) (rules : Rules) (l : Ledger) (time first last from : ℕ) (x : ShelfView) (looks : List Look) (look : Look) (sig : Sig) (w : Looked) → Saw agent rules l time first last from x looks → Contains looks look → look.looked ≡ w → IsKnown rules l look.page.number x w
    → (not (looked_unread w) && holds_sig (shape_of rules l.account.router) sig (page_by rules l (reading_of looks) look.page.number)) ≡ looked_shows w sig
shows_is agent rules l time first last from x looks look sig (Borrowed r) s has e known =
    ap (λ (h : Held). are_in h.bits (marks rules l.account.router look.page.number sig)) (held_is agent rules l time first last from x looks look (held rules l.account look.page.number) (Borrowed r) s has e)
    ∙ sym (same_shows rules l.account look.page.number r.now sig known.1)
shows_is agent rules l time first last from x looks look sig (ReadBack p) s has e known =
    ap (λ (h : Held). are_in h.bits (marks rules l.account.router look.page.number sig)) (held_is agent rules l time first last from x looks look (held rules l.account look.page.number) (ReadBack p) s has e)
    ∙ ap (are_in p.resident.page.members) (marks_of-family (shape_of rules l.account.router) look.page.number sig)
    ∙ ap (λ f. are_in p.resident.page.members (positions_by f sig)) (sym known.1.family)
shows_is agent rules l time first last from x looks look sig (Unread c) s has e known = refl

pub hit_is : (agent : Agent) (rules : Rules) (l : Ledger) (time first last from : ℕ) (x : ShelfView) (looks : List Look) (sig : Sig) → Saw agent rules l time first last from x looks
    → list_any (λ look. look_shows look sig) looks ≡ hit rules (sight_by rules l (window rules l.account time) (reading_of looks)) sig
hit_is agent rules l time first last from x looks sig s =
    let reading = reading_of looks in
    sym (any_map (holds_sig (shape_of rules l.account.router) sig) (page_by rules l reading) (used_by rules l (window rules l.account time) reading)
    ∙ ap (list_any (λ page. holds_sig (shape_of rules l.account.router) sig (page_by rules l reading page))) (used_numbers agent rules l time first last from x looks s)
    ∙ any_looks rules l x from looks (is_used rules l reading) (λ page. holds_sig (shape_of rules l.account.router) sig (page_by rules l reading page)) (λ look. look_shows look sig) s.all (λ look has.
    ap (λ b. b && holds_sig (shape_of rules l.account.router) sig (page_by rules l reading look.page.number)) (used_is agent rules l time first last from x looks look s has)
    ∙ shows_is agent rules l time first last from x looks look sig look.looked s has refl (seen_page agent rules l time first last from x looks look s has).known))
