-- What is printed at a barrier, and what it leaves.
use Rattle.std.specs.Prelude.{ℕ, ◌+◌, ◌≡◌, length, List, [], ◌∷◌, ◌++◌, option_map}
use Rattle.std.specs.List.{flat_map}
use Rattle.report_text.specs.declared.Item.{Item}
use Rattle.report_text.specs.declared.Item.TheVariants as item
use Rattle.trace_format.specs.declared.Trace.{Trace}
use Rattle.data_agent.specs.declared.Barrier.{Barrier}
use Rattle.data_agent.specs.Calls.{closing_of}
use Rattle.trace_history.specs.Report.{closing_items, left_items, text_of}
use Rattle.trace_history.specs.Routers.{routers}
use Rattle.trace_replay.specs.declared.state.State.{State}
use Rattle.trace_replay.specs.Agents.{barrier_at}
use Rattle.trace_replay.specs.Printing.{splits_of, lefts_of}
use Rattle.trace_replay.specs.Segments.{numbered, pending_items}

-- the answers that waited for the barrier are printed
pub record PrintsPending (t : Trace) (barriers : List Barrier) (before after : State) : Type 0 where
  pub clock : after.clock ≡ before.clock
  pub first : after.first ≡ (before.first + length before.answers.items) + 1
  pub answers : after.answers.items ≡ []
  pub report : after.report.items ≡ before.report.items ++ text_of t (pending_items (splits_of barriers) (numbered t.lines before.first before.answers.items))
  pub totals : after.totals ≡ before.totals

-- the page that each router's barrier closed
abbrev pub closed_of : List Barrier → (line router : ℕ) → List Item
closed_of barriers line r = closing_items line r (option_map closing_of (barrier_at barriers r).closed)

abbrev pub tick_items : Trace → List Barrier → (line time : ℕ) → List Item
tick_items t barriers line time =
    item.Tick line time ∷ flat_map (closed_of barriers line) (routers t) ++ flat_map (left_items line (lefts_of barriers)) (routers t)

abbrev pub end_items : Trace → List Barrier → (line : ℕ) → List Item
end_items t barriers line = item.End line ∷ flat_map (left_items line (lefts_of barriers)) (routers t)

-- some items are printed, and the clock is set
pub record Prints (t : Trace) (items : List Item) (clock : ℕ) (before after : State) : Type 0 where
  pub clock_is : after.clock ≡ clock
  pub first : after.first ≡ before.first
  pub answers : after.answers.items ≡ before.answers.items
  pub report : after.report.items ≡ before.report.items ++ text_of t items
  pub totals : after.totals ≡ before.totals
