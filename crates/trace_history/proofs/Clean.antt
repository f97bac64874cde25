-- Where no page was kept, left or unreadable and what was read is true, a history has the items of its plain one.
use Rattle.std.proofs.Common.{◌≡◌, ℕ, ◌<◌, Bool, true, false, cond, ◌==◌, ◌∷◌, [], ◌++◌, ◌∙◌, sym, refl, subst, ap, List, map, arith, IsTrue}
use Rattle.std.specs.List.{Contains, flat_map}
use Rattle.std.proofs.lemmas.Bool.{eqb-true}
use Rattle.spie_base.proofs.Membership.{has_first, has_later}
use Rattle.spie_base.specs.declared.Rules.{Rules}
use Rattle.used_pages.specs.UsedPages.{Held, UsedPage}
use Rattle.report_text.specs.declared.Item.{Item}
use Rattle.report_text.specs.declared.Item.TheVariants as item
use Rattle.topology.specs.Layout.{is_linked}
use Rattle.trace_format.specs.declared.Trace.{Trace}
use Rattle.router_account.specs.Account.{Account, Sight, held, hit, origins, window}
use Rattle.router_account.specs.Barriers.{closing_at}
use Rattle.router_account.specs.Ledger.{Ledger}
use Rattle.router_account.specs.Records.{AreTrue}
use Rattle.router_account.specs.Sights.{GotPage, Reading, UnreadPage, expired_by, got_or, no_reading, page_by, page_no, range_of, sight_by, used_by}
use Rattle.trace_history.specs.History.{Event, recorded, rotated, archived, watched, ticked, queried, ended, History, QueryRun}
use Rattle.trace_history.specs.Ledgers.{ledger}
use Rattle.trace_history.specs.Outcomes.{AreFaultless, AreNoneLeft, EachQuery, HasNoneUnread, IfQuery, IsFaultless, IsTrueQuery}
use Rattle.trace_history.specs.Report.{AreItems, AreItemsOf, AreQueryItems, bad_of, closed_items, closing_items, graph_items, left_items, pages_item}
use Rattle.trace_history.specs.Routers.{RouterRules, count, router_id, routers, rules_of}
use Rattle.trace_history.specs.Sights.{net_at, query_window, sight_at, start_of}
use Rattle.trace_history.proofs.Nets.{AgreeBelow, flood_same}
use Rattle.trace_history.proofs.Plain.{ledger_plain, none_left, plain, plain_event, plain_query}
use Rattle.trace_history.proofs.RouterLists.{flat_map_same, map_same}

-- ---- what a query sees

map_each : {X Y : Type 0} (f g : X → Y) → ((x : X) → f x ≡ g x) → (xs : List X) → map f xs ≡ map g xs
map_each f g same [] = refl
map_each f g same (x ∷ xs) = rw (same x, map_each f g same xs) refl

-- of a page what was recorded in it, where all that was read is true
got_true : (rules : Rules) (a : Account) (got : List GotPage) (page : ℕ) → ((x : GotPage) → Contains got x → x.held ≡ held rules a x.page)
    → got_or got page (held rules a page) ≡ held rules a page
got_true rules a [] page all = refl
got_true rules a (x ∷ got) page all =
    let rest = got_true rules a got page (λ y h. all y (has_later x got y h)) in
    let here : (b : Bool) → (x.page == page) ≡ b → cond b x.held (got_or got page (held rules a page)) ≡ held rules a page =
    elim [
      | true ↦ λ e. all x (has_first x got) ∙ ap (held rules a) (eqb-true x.page page e)
      | false ↦ λ e. rest
    ] in
    here (x.page == page) refl

page_true : (rules : Rules) (l : Ledger) (got : List GotPage) (page : ℕ) → ((x : GotPage) → Contains got x → x.held ≡ held rules l.account x.page)
    → page_by rules l (record { unread = []; got = got }) page ≡ page_by rules l no_reading page
page_true rules l got page all =
    let P : Held → UsedPage = λ h. record { number = page; held = h } in
    ap P (got_true rules l.account got page all)

-- a query that read nothing but the truth sees what one sees that read nothing
sight_clean : (rules : Rules) (l : Ledger) (pages : List ℕ) (reading : Reading) → reading.unread ≡ [] → AreTrue rules l.account reading
    → sight_by rules l pages reading ≡ sight_by rules l pages no_reading
sight_clean rules l pages reading none all =
    let own : Reading = record { unread = []; got = reading.got } in
    let S : List UsedPage → Sight = λ used. record { router = l.account.router; used = used; missing = (sight_by rules l pages no_reading).missing } in
    ap (λ (unread : List UnreadPage). sight_by rules l pages (record { unread = unread; got = reading.got })) none
    ∙ ap S (map_each (page_by rules l own) (page_by rules l no_reading) (λ page. page_true rules l reading.got page all) (used_by rules l pages no_reading))

-- by the plain history
sight_plain : (rules : RouterRules) (after : History) (query : QueryRun) (r : ℕ)
    → sight_by (rules r) (ledger rules r after) (query_window rules after query r) no_reading ≡ sight_at rules (plain after) (plain_query query) r
sight_plain rules after query r =
    ap (λ (l : Ledger). sight_by (rules r) l (window (rules r) l.account query.time) no_reading) (sym (ledger_plain rules r after))

sight_same : (n : ℕ) (rules : RouterRules) (after : History) (query : QueryRun) → HasNoneUnread n after query → IsTrueQuery n rules after query → (r : ℕ) → r < n
    → sight_at rules after query r ≡ sight_at rules (plain after) (plain_query query) r
sight_same n rules after query none all r l =
    sight_clean (rules r) (ledger rules r after) (query_window rules after query r) (query.reads r) (none r l) (all r l)
    ∙ sight_plain rules after query r

nets_agree : (t : Trace) (after : History) (query : QueryRun) → HasNoneUnread (count t) after query → IsTrueQuery (count t) (rules_of t) after query
    → ((r q : ℕ) → IsTrue (is_linked t.topology.links r q) → q < count t)
    → AgreeBelow (count t) (net_at (rules_of t) t.topology after query) (net_at (rules_of t) t.topology (plain after) (plain_query query))
nets_agree t after query none all ends =
    let same = sight_same (count t) (rules_of t) after query none all in
    record {
      hit = λ n l. ap (λ (s : Sight). hit t.rules s n.sig) (same n.router.number l);
      origins = λ n l s.
          let C : Sight → Type 0 = λ x. Contains (origins x n.sig) s in
          ((λ h. subst C (same n.router.number l) h), (λ h. subst C (sym (same n.router.number l)) h));
      linked = λ r q. refl;
      missing = λ r l. ap (λ (s : Sight). s.missing) (same r l);
      ends = ends;
    }

-- ---- the items of a line

pages_same : (t : Trace) (after : History) (line : ℕ) (query : QueryRun) → HasNoneUnread (count t) after query → (r : ℕ) → r < count t
    → pages_item t after line query r ≡ pages_item t (plain after) line (plain_query query) r
pages_same t after line query none r l =
    let own = ledger (rules_of t) r after in
    let pages = query_window (rules_of t) after query r in
    ap (λ (unread : List UnreadPage). item.Pages line (router_id r) (range_of (expired_by t.rules own pages)) (map bad_of unread) (map page_no (used_by t.rules own pages (record { unread = unread; got = (query.reads r).got })))) (none r l)
    ∙ ap (λ (x : Ledger). item.Pages line (router_id r) (range_of (expired_by t.rules x (window t.rules x.account query.time))) [] (map page_no (used_by t.rules x (window t.rules x.account query.time) no_reading)))
    (sym (ledger_plain (rules_of t) r after))

none_items : (t : Trace) (line : ℕ) (left : ℕ → List ℕ) → AreNoneLeft (count t) left → flat_map (left_items line left) (routers t) ≡ flat_map (left_items line none_left) (routers t)
none_items t line left none =
    flat_map_same (left_items line left) (left_items line none_left) 0 (count t) (count t) (omega arith) (λ r l. ap (λ (pages : List ℕ). map (λ page. item.Left line (router_id r) (page_no page)) pages) (none r l))

closed_same : (t : Trace) (before : History) (line time : ℕ) → flat_map (closed_items t before line time) (routers t) ≡ flat_map (closed_items t (plain before) line time) (routers t)
closed_same t before line time =
    flat_map_same (closed_items t before line time) (closed_items t (plain before) line time) 0 (count t) (count t) (omega arith)
    (λ r l. ap (λ (x : Ledger). closing_items line r (closing_at t.rules x time true)) (sym (ledger_plain (rules_of t) r before)))

query_items : (t : Trace) (after : History) (line : ℕ) (query : QueryRun) (left : ℕ → List ℕ) (items : List Item)
    → query.router < count t → HasNoneUnread (count t) after query → IsTrueQuery (count t) (rules_of t) after query → AreNoneLeft (count t) left
    → ((r q : ℕ) → IsTrue (is_linked t.topology.links r q) → q < count t)
    → AreQueryItems t after line query left items → AreQueryItems t (plain after) line (plain_query query) none_left items
query_items t after line query left items starts none all nothing ends are =
    let graph = are.0 in
    let pages = map_same (pages_item t after line query) (pages_item t (plain after) line (plain_query query)) 0 (count t) (count t) (omega arith) (pages_same t after line query none) in
    let flood = flood_same (count t) (net_at (rules_of t) t.topology after query) (net_at (rules_of t) t.topology (plain after) (plain_query query)) (start_of query) graph starts
    (nets_agree t after query none all ends) are.1 in (
      graph,
      flood,
      are.2
          ∙ ap (λ (l : List Item). item.Query line ∷ l ++ map (pages_item t after line query) (routers t) ++ graph_items line graph) (none_items t line left nothing)
          ∙ ap (λ (l : List Item). item.Query line ∷ flat_map (left_items line none_left) (routers t) ++ l ++ graph_items line graph) pages,
    )

-- ---- all items

-- the routers of queries exist
abbrev pub StartsBelow : (n : ℕ) → Event → Type 0
StartsBelow n (queried query left) = query.router < n
StartsBelow n _ = Unit {0}

abbrev pub StartBelow : (n : ℕ) → History → Type 0
StartBelow n [] = Unit {0}
StartBelow n (moment ∷ history) = StartBelow n history × StartsBelow n moment.event

line_items : (t : Trace) (history after : History) (line : ℕ) (d : Event) (items : List Item) → ((r q : ℕ) → IsTrue (is_linked t.topology.links r q) → q < count t)
    → StartsBelow (count t) d → IsFaultless (count t) d → IfQuery (HasNoneUnread (count t)) after d → IfQuery (IsTrueQuery (count t) (rules_of t)) after d
    → AreItems t history after line d items → AreItems t (plain history) (plain after) line (plain_event d) items
line_items t history after line (recorded hop page) items ends starts f none all are = are
line_items t history after line (rotated router page) items ends starts f none all are = are
line_items t history after line (archived router put kept) items ends starts f none all are = are
line_items t history after line (watched router sig answer) items ends starts f none all are = are
line_items t history after line (ticked time left) items ends starts f none all are =
    are
    ∙ ap (λ (l : List Item). item.Tick line time ∷ l ++ flat_map (left_items line left) (routers t)) (closed_same t history line time)
    ∙ ap (λ (l : List Item). item.Tick line time ∷ flat_map (closed_items t (plain history) line time) (routers t) ++ l) (none_items t line left f)
line_items t history after line (queried query left) items ends starts f none all are = query_items t after line query left items starts none all f.0 ends are
line_items t history after line (ended left) items ends starts f none all are = are ∙ ap (λ (l : List Item). item.End line ∷ l) (none_items t line left f)

pub items_plain : (t : Trace) (history : History) (items : List Item) → ((r q : ℕ) → IsTrue (is_linked t.topology.links r q) → q < count t)
    → StartBelow (count t) history → AreFaultless (count t) history → EachQuery (HasNoneUnread (count t)) history → EachQuery (IsTrueQuery (count t) (rules_of t)) history
    → AreItemsOf t history items → AreItemsOf t (plain history) items
items_plain t [] items ends starts f none all are = are
items_plain t (moment ∷ history) items ends starts f none all are = (
  are.0,
  are.1,
  items_plain t history are.0 ends starts.0 f.0 none.0 all.0 are.2,
  line_items t history (moment ∷ history) moment.line moment.event are.1 ends starts.1 f.1 none.1 all.1 are.3,
  are.4,
)
