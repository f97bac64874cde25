-- The answer to a query, printed.
use Rattle.std.specs.Prelude.{ℕ, ◌+◌, ◌^◌, ◌<◌, ◌≤◌, ◌≡◌, List, ◌∷◌, ◌++◌, map, slice_get, unwrap_or, option_map}
use Rattle.std.specs.List.{flat_map}
use Rattle.reverse_flood.specs.declared.Graph.{Graph}
use Rattle.report_text.specs.declared.Bad.{Bad}
use Rattle.report_text.specs.declared.Item.{Item}
use Rattle.report_text.specs.declared.Item.TheVariants as item
use Rattle.trace_format.specs.declared.Trace.{Trace}
use Rattle.router_account.specs.declared.Unreadable.{Unreadable}
use Rattle.router_account.specs.Account.{below}
use Rattle.data_agent.specs.declared.Barrier.{Barrier}
use Rattle.data_agent.specs.Calls.{Told}
use Rattle.trace_history.specs.declared.Totals.{Totals}
use Rattle.trace_history.specs.Report.{word_of, left_items, graph_items, answer_item, text_of, with_answer}
use Rattle.trace_history.specs.Routers.{router_id}
use Rattle.trace_replay.specs.declared.state.State.{State}
use Rattle.trace_replay.specs.Printing.{lefts_of}

-- each number grew by one of 64 bits
pub record AreMore (before after : Totals) : Type 0 where
  pub nodes : after.nodes ≤ before.nodes + 2 ^ 64
  pub edges : after.edges ≤ before.edges + 2 ^ 64
  pub unknown : after.unknown ≤ before.unknown + 2 ^ 64
  pub clear : after.clear ≤ before.clear + 2 ^ 64

-- one graph more fits the totals
pub record IsRoomy (totals : Totals) : Type 0 where
  pub nodes : totals.nodes < 2 ^ 127
  pub edges : totals.edges < 2 ^ 127
  pub unknown : totals.unknown < 2 ^ 127
  pub clear : totals.clear < 2 ^ 127

abbrev pub bad_by : Unreadable → Bad
bad_by x = record { page = x.page; cause = word_of x.cause }

-- the line of a router's pages, by its sight
abbrev pub sight_item : (line router : ℕ) → Told → Item
sight_item line router told = item.Pages line (router_id router) told.expired (map bad_by told.unreadable) told.used

abbrev pub item_at : {S : Type 0} → (S → Told) → List S → (line router : ℕ) → Item
item_at told sights line r = unwrap_or (option_map (λ s. sight_item line r (told s)) (slice_get sights r)) item.Head

abbrev pub query_items : {S : Type 0} → (S → Told) → (routers : ℕ) → List Barrier → List S → (line : ℕ) → Graph → List Item
query_items told routers barriers sights line graph =
    item.Query line ∷ flat_map (left_items line (lefts_of barriers)) (below routers) ++ map (item_at told sights line) (below routers) ++ graph_items line graph

-- a query is answered
pub record PrintsQuery (t : Trace) (items : List Item) (graph : Graph) (before after : State) : Type 0 where
  pub clock : after.clock ≡ before.clock
  pub first : after.first ≡ before.first
  pub answers : after.answers.items ≡ before.answers.items
  pub report : after.report.items ≡ before.report.items ++ text_of t items
  pub totals : after.totals ≡ with_answer before.totals (answer_item 0 graph)
  pub more : AreMore before.totals after.totals
