-- What a query sees, and where its flood starts. It is answered behind its barrier: pages have closed, archivals are
-- finished and pages have expired.
use Rattle.std.specs.Prelude.{ℕ, List}
use Rattle.topology.specs.Layout.{Layout, is_linked}
use Rattle.reverse_flood.specs.declared.Node.{Node}
use Rattle.reverse_flood.specs.Flood.{Net}
use Rattle.router_account.specs.Account.{Sight, hit, origins, window}
use Rattle.router_account.specs.Sights.{sight_by}
use Rattle.trace_history.specs.History.{History, QueryRun, account}
use Rattle.trace_history.specs.Ledgers.{ledger}
use Rattle.trace_history.specs.Routers.{RouterRules}

-- the pages of a query's window at a router, by the history that ends with it
abbrev pub query_window : RouterRules → History → QueryRun → (router : ℕ) → List ℕ
query_window rules history query router = window (rules router) (account rules router history) query.time

-- what a query sees of a router
abbrev pub sight_at : RouterRules → History → QueryRun → (router : ℕ) → Sight
sight_at rules history query router =
    sight_by (rules router) (ledger rules router history) (query_window rules history query router) (query.reads router)

-- what the flood of a query reads
abbrev pub net_at : RouterRules → Layout → History → QueryRun → Net
net_at rules layout history query = record {
  hit = λ node. hit (rules node.router.number) (sight_at rules history query node.router.number) node.sig;
  origins = λ node. origins (sight_at rules history query node.router.number) node.sig;
  linked = is_linked layout.links;
  missing = λ router. (sight_at rules history query router).missing;
}

abbrev pub start_of : QueryRun → Node
start_of query = record { router = record { number = query.router }; sig = query.sig }
