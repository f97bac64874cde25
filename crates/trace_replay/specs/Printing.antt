-- What is printed.
use Rattle.std.specs.Prelude.{ℕ, ◌<◌, ◌≡◌, ◌++◌, List, map, Bool, true, false}
use Rattle.std.specs.declared.option.Option.{Option}
use Rattle.std.specs.List.{All, flat_map}
use Rattle.spie_base.specs.declared.RouterId.{RouterId}
use Rattle.reverse_flood.specs.declared.Node.{Node}
use Rattle.reverse_flood.specs.declared.Edge.{Edge}
use Rattle.reverse_flood.specs.declared.Graph.{Graph}
use Rattle.report_text.specs.declared.Item.{Item}
use Rattle.report_text.specs.declared.Item.TheVariants as item
use Rattle.report_text.specs.Report.{IsNamed, item_text}
use Rattle.router_account.specs.Sights.{page_no}
use Rattle.data_agent.specs.declared.Archived.{Archived as ArchivedPages}
use Rattle.data_agent.specs.declared.Barrier.{Barrier}
use Rattle.data_agent.specs.Calls.{split_by, split_of, left_of}
use Rattle.trace_replay.specs.Agents.{barrier_at}
use Rattle.trace_replay.specs.Segments.{Splits}
use Rattle.trace_replay.specs.declared.state.Answer.{Answer}
use Rattle.trace_replay.specs.declared.state.Answer.TheVariants.{Archived}

-- the lines of some items are printed
abbrev pub AddsItems : (names : List (List ℕ)) → List Item → (before after : List ℕ) → Type 0
AddsItems names items before after = after ≡ before ++ flat_map (item_text names) items

-- a pair's router exists
abbrev pub IsNodeNamed : List (List ℕ) → Node → Type 0
IsNodeNamed names node = IsNamed names node.router

-- the routers of both ends of an edge exist
abbrev pub IsEdgeNamed : List (List ℕ) → Edge → Type 0
IsEdgeNamed names edge = IsNamed names edge.down.router × IsNamed names edge.up.router

-- the routers of what a graph's lines name exist
pub record IsGraphNamed (names : List (List ℕ)) (graph : Graph) : Type 0 where
  pub nodes : All (IsNodeNamed names) graph.nodes
  pub edges : All (IsEdgeNamed names) graph.edges
  pub unknown : All (IsNodeNamed names) graph.unknown

-- the answer is an archival
abbrev pub is_archival : Answer → Bool
is_archival (Archived router) = true
is_archival _ = false

-- the router of an archival exists
abbrev pub IsAnswerNamed : (routers : ℕ) → Answer → Type 0
IsAnswerNamed routers (Archived router) = router.number < routers
IsAnswerNamed routers _ = Unit {0}

-- how the barriers of the routers split the pages of their archivals, and what they left
abbrev pub splits_of : List Barrier → Splits
splits_of barriers r = split_of (barrier_at barriers r)

abbrev pub lefts_of : List Barrier → (router : ℕ) → List ℕ
lefts_of barriers r = left_of (barrier_at barriers r)

-- the line of an archival
abbrev pub archived_item : (line : ℕ) → RouterId → Option ArchivedPages → Item
archived_item line router o = item.Archived line router (map page_no (split_by o).put) (map page_no (split_by o).kept)
