-- What queries read while a replay goes on.
use Rattle.std.proofs.Common.{ℕ, ◌≤◌, ◌∷◌, [], arith}
use Rattle.router_account.specs.Shelves.{ShelfView}
use Rattle.trace_history.specs.History.{Event, recorded, rotated, archived, watched, ticked, queried, ended, History, QueryRun}
use Rattle.trace_history.specs.Outcomes.{AreReadDuring, IfQuery, IsReadDuring}

module _ (routers : ℕ) (start was now : ShelfView) (later : was.faults ≤ now.faults) where
  step : (after : History) (event : Event) → IfQuery (λ h query. IsReadDuring routers start was query) after event → IfQuery (λ h query. IsReadDuring routers start now query) after event
  step after (recorded hop page) is = tt
  step after (rotated router page) is = tt
  step after (archived router put kept) is = tt
  step after (watched router sig answer) is = tt
  step after (ticked time left) is = tt
  step after (queried query left) is = record { still = is.still; from = is.from; paid = is.paid; to = let a = is.to in omega (arith, a, later) }
  step after (ended left) is = tt

  -- what was read by a time was read by each later one
  pub during_later : (history : History) → AreReadDuring routers start was history → AreReadDuring routers start now history
  during_later [] is = tt
  during_later (moment ∷ history) is = (during_later history is.0, step (moment ∷ history) moment.event is.1)
