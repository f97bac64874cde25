-- Ways that packets took, as they were recorded, and where a query's graph has them.
use Rattle.std.specs.Prelude.{ℕ, ◌≡◌, ◌<◌, ◌⊎◌, ◌↔◌, List, [], ◌∷◌, length, map, IsTrue}
use Rattle.std.specs.List.{Contains}
use Rattle.spie_base.specs.declared.Sig.{Sig}
use Rattle.reverse_flood.specs.declared.Graph.{Graph}
use Rattle.reverse_flood.specs.declared.Node.{Node}
use Rattle.reverse_flood.specs.Flood.{Net, everywhere, IsAsked, IsFlood}
use Rattle.reverse_flood.specs.Found.{edge_from}
use Rattle.topology.specs.Layout.{Layout, is_linked}
use Rattle.router_account.specs.Sights.{UnreadPage, used_by, expired_by}
use Rattle.trace_history.specs.History.{History, Origin, same, changed, QueryRun}
use Rattle.trace_history.specs.Ledgers.{ledger}
use Rattle.trace_history.specs.Outcomes.{IsTrueQuery}
use Rattle.trace_history.specs.Receipts.{Receipt, receipts}
use Rattle.trace_history.specs.Routers.{RouterRules, router_id}
use Rattle.trace_history.specs.Sights.{net_at, query_window, start_of}

-- ---- routes

-- the signature with which a packet came to a hop
abbrev pub came_as : Sig → Origin → Sig
came_as sig same = sig
came_as sig (changed kind old) = old

-- a hop's router with the signature that it recorded
abbrev pub node_of : Receipt → Node
node_of x = record { router = router_id x.hop.router; sig = x.hop.sig }

-- a record of a history, as each line of a trace has it: at one of its routers, of a signature of 28 bytes
pub record IsRecord (routers : ℕ) (history : History) (x : Receipt) : Type 0 where
  pub recorded : Contains (receipts history) x
  pub exists : x.hop.router < routers
  pub sized : length x.hop.sig.bytes ≡ 28

-- a route, its last hop first: each hop came from a linked router, with the signature that was recorded there
abbrev pub IsRoute : (routers : ℕ) → Layout → History → (last : Receipt) → (earlier : List Receipt) → Type 0
IsRoute routers layout history last [] = IsRecord routers history last
IsRoute routers layout history last (x ∷ earlier) =
    IsRecord routers history last × IsTrue (is_linked layout.links last.hop.router x.hop.router)
    × (x.hop.sig ≡ came_as last.hop.sig last.hop.origin) × IsRoute routers layout history x earlier

-- a route that leads to a query, which read back what was recorded and was answered by this graph
pub record IsRouteTo (routers : ℕ) (rules : RouterRules) (layout : Layout) (history : History) (query : QueryRun) (graph : Graph) (last : Receipt) (earlier : List Receipt) : Type 0 where
  pub is_true : IsTrueQuery routers rules history query
  pub flood : IsFlood (net_at rules layout history query) (start_of query) graph
  pub route : IsRoute routers layout history last earlier
  pub leads : node_of last ≡ start_of query

-- ---- pages of a query

-- those of its window at a router that it uses, and those that are expired
abbrev pub used_at : RouterRules → History → QueryRun → (router : ℕ) → List ℕ
used_at rules history query r = used_by (rules r) (ledger rules r history) (query_window rules history query r) (query.reads r)

abbrev pub expired_at : RouterRules → History → QueryRun → (router : ℕ) → List ℕ
expired_at rules history query r = expired_by (rules r) (ledger rules r history) (query_window rules history query r)

-- those that it could not read
abbrev pub unread_at : QueryRun → (router : ℕ) → List ℕ
unread_at query r = map (λ (x : UnreadPage). x.page) (query.reads r).unread

-- the page that a hop entered is one that the query uses
abbrev pub IsUsed : RouterRules → History → QueryRun → Receipt → Type 0
IsUsed rules history query x = Contains (used_at rules history query x.hop.router) x.page

abbrev pub AreUsed : RouterRules → History → QueryRun → (last : Receipt) → (earlier : List Receipt) → Type 0
AreUsed rules history query last [] = IsUsed rules history query last
AreUsed rules history query last (x ∷ earlier) = IsUsed rules history query last × AreUsed rules history query x earlier

-- back along a route, the first hop whose page the query does not use
abbrev pub IsFirstUnused : RouterRules → History → QueryRun → (last : Receipt) → (earlier : List Receipt) → Receipt → Type 0
IsFirstUnused rules history query last [] x = (last ≡ x) × (IsUsed rules history query last → ⊥)
IsFirstUnused rules history query last (next ∷ earlier) x =
    ((last ≡ x) × (IsUsed rules history query last → ⊥)) ⊎ (IsUsed rules history query last × IsFirstUnused rules history query next earlier x)

-- each page of a window is used, expired or unread, and no other page is; none is two of them
pub record AreThree (window used expired unread : List ℕ) : Type 0 where
  pub all : (page : ℕ) → Contains window page ↔ (Contains used page ⊎ (Contains expired page ⊎ Contains unread page))
  pub live : (page : ℕ) → Contains used page → Contains expired page → ⊥
  pub read : (page : ℕ) → Contains used page → Contains unread page → ⊥
  pub kept : (page : ℕ) → Contains expired page → Contains unread page → ⊥

-- ---- where a graph has them

-- each hop of a route is a node, and each step between two hops is an edge, the later hop downstream
abbrev pub IsHeld : Graph → (last : Receipt) → (earlier : List Receipt) → Type 0
IsHeld graph last [] = Contains graph.nodes (node_of last)
IsHeld graph last (x ∷ earlier) =
    Contains graph.nodes (node_of last) × Contains graph.edges (edge_from (node_of last) (node_of x)) × IsHeld graph x earlier

-- a pair was asked and is not clear: it is a node or unknown
pub record IsNoNo (net : Net) (start : Node) (graph : Graph) (n : Node) : Type 0 where
  pub asked : IsAsked net everywhere (start ∷ []) n
  pub told : Contains graph.nodes n ⊎ Contains graph.unknown n
  pub unclear : Contains graph.clear n → ⊥
