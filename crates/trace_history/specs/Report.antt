-- The report of a trace, by its history.
use Rattle.std.specs.Prelude.{ℕ, ◌+◌, ◌≡◌, List, [], ◌∷◌, ◌++◌, length, map, fold, Some, None, true}
use Rattle.std.specs.declared.option.Option.{Option}
use Rattle.std.specs.List.{flat_map}
use Rattle.reverse_flood.specs.declared.Graph.{Graph}
use Rattle.reverse_flood.specs.Flood.{IsFlood}
use Rattle.report_text.specs.declared.Bad.{Bad}
use Rattle.report_text.specs.declared.CauseWord.{CauseWord}
use Rattle.report_text.specs.declared.CauseWord.TheVariants as word
use Rattle.report_text.specs.declared.Item.{Item}
use Rattle.report_text.specs.declared.Item.TheVariants as item
use Rattle.report_text.specs.Report.{item_text}
use Rattle.trace_format.specs.declared.Trace.{Trace}
use Rattle.router_account.specs.declared.Cause.{Cause}
use Rattle.router_account.specs.declared.Cause.TheVariants.{Failed, Other, Absent, Broken}
use Rattle.router_account.specs.declared.Watch.{Watch as WatchAnswer}
use Rattle.router_account.specs.declared.Watch.TheVariants.{Seen, NotSeen, Unknown}
use Rattle.router_account.specs.Barriers.{Closing, closing_at}
use Rattle.router_account.specs.Sights.{UnreadPage, used_by, expired_by, page_no, range_of}
use Rattle.trace_history.specs.declared.totals.Totals.{Totals}
use Rattle.trace_history.specs.History.{Event, recorded, rotated, archived, watched, ticked, queried, ended, History, QueryRun}
use Rattle.trace_history.specs.Ledgers.{ledger}
use Rattle.trace_history.specs.Routers.{router_id, routers, rules_of}
use Rattle.trace_history.specs.Sights.{net_at, start_of, query_window}

abbrev pub word_of : Cause → CauseWord
word_of Failed = word.Failed
word_of (Other kept found) = word.Other
word_of Absent = word.Absent
word_of Broken = word.Broken

abbrev pub bad_of : UnreadPage → Bad
bad_of x = record { page = page_no x.page; cause = word_of x.cause }

-- the page of a router that a barrier closes
abbrev pub closing_items : (line router : ℕ) → Option Closing → List Item
closing_items line router None = []
closing_items line router (Some x) = item.Closed line (router_id router) (page_no x.page) x.bits ∷ []

abbrev pub closed_items : Trace → (before : History) → (line time router : ℕ) → List Item
closed_items t before line time router = closing_items line router (closing_at (rules_of t router) (ledger (rules_of t) router before) time true)

-- the pages of a router that a barrier could not discard
abbrev pub left_items : (line : ℕ) → (left : ℕ → List ℕ) → (router : ℕ) → List Item
left_items line left router = map (λ page. item.Left line (router_id router) (page_no page)) (left router)

-- the pages of a query's window at a router
abbrev pub pages_item : Trace → (after : History) → (line : ℕ) → QueryRun → (router : ℕ) → Item
pages_item t after line query router =
    let l = ledger (rules_of t) router after in
    let pages = query_window (rules_of t) after query router in
    item.Pages line (router_id router) (range_of (expired_by (rules_of t router) l pages))
    (map bad_of (query.reads router).unread) (map page_no (used_by (rules_of t router) l pages (query.reads router)))

-- how much a graph has
abbrev pub answer_item : (line : ℕ) → Graph → Item
answer_item line graph = item.Answer line (length graph.nodes) (length graph.edges) (length graph.unknown) (length graph.clear)

-- the graph of a query
abbrev pub graph_items : (line : ℕ) → Graph → List Item
graph_items line graph =
    map (item.NodeLine line) graph.nodes ++ map (item.EdgeLine line) graph.edges ++ map (item.UnknownLine line) graph.unknown ++ answer_item line graph ∷ []

abbrev pub watch_item : (line : ℕ) → WatchAnswer → Item
watch_item line Seen = item.Seen line
watch_item line NotSeen = item.NotSeen line
watch_item line Unknown = item.Unknown line

-- the items of a query: its graph is the reverse flood over what it reads
abbrev pub AreQueryItems : Trace → (after : History) → (line : ℕ) → QueryRun → (left : ℕ → List ℕ) → List Item → Type 0
AreQueryItems t after line query left items =
    (graph : Graph) × IsFlood (net_at (rules_of t) t.topology after query) (start_of query) graph
    × (items ≡ item.Query line ∷ flat_map (left_items line left) (routers t) ++ map (pages_item t after line query) (routers t) ++ graph_items line graph)

-- the items that answer a line, by the histories before it and after it
abbrev pub AreItems : Trace → (before after : History) → (line : ℕ) → Event → List Item → Type 0
AreItems t before after line (recorded hop page) items = items ≡ item.Entered line (page_no page) ∷ []
AreItems t before after line (rotated router page) items = items ≡ item.Opened line (page_no page) ∷ []
AreItems t before after line (archived router put kept) items = items ≡ item.Archived line (router_id router) (map page_no put) (map page_no kept) ∷ []
AreItems t before after line (watched router sig answer) items = items ≡ watch_item line answer ∷ []
AreItems t before after line (ticked time left) items = items ≡ item.Tick line time ∷ flat_map (closed_items t before line time) (routers t) ++ flat_map (left_items line left) (routers t)
AreItems t before after line (queried query left) items = AreQueryItems t after line query left items
AreItems t before after line (ended left) items = items ≡ item.End line ∷ flat_map (left_items line left) (routers t)

-- the items of a report, in order
abbrev pub AreItemsOf : Trace → History → List Item → Type 0
AreItemsOf t [] items = items ≡ item.Head ∷ []
AreItemsOf t (moment ∷ history) items =
    (front answer : List Item) × AreItemsOf t history front × AreItems t history (moment ∷ history) moment.line moment.event answer × (items ≡ front ++ answer)

abbrev pub text_of : Trace → List Item → List ℕ
text_of t items = flat_map (item_text t.topology.names) items

abbrev pub no_totals : Totals
no_totals = record { nodes = 0; edges = 0; unknown = 0; clear = 0 }

-- with the numbers of one more answer
abbrev pub with_answer : Totals → Item → Totals
with_answer totals (item.Answer line nodes edges unknown clear) = record { nodes = totals.nodes + nodes; edges = totals.edges + edges; unknown = totals.unknown + unknown; clear = totals.clear + clear }
with_answer totals _ = totals

abbrev pub totals_of : List Item → Totals
totals_of items = fold with_answer no_totals items
