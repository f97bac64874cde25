-- What the parts of a barrier do. Of these words only `StandsForSame` stands in a public clause.
use Rattle.std.specs.Prelude.{ℕ, ◌≡◌, ◌≤◌, ◌⊎◌, ◌++◌, ◌∷◌, [], List, Bool, true, false, Option, None, Some, option_map, if◌then◌else◌}
use Rattle.spie_base.specs.declared.Rules.{Rules}
use Rattle.page_catalogue.specs.Pages.{is_due, open_page}
use Rattle.router_account.specs.Account.{Account, after_tick, fill}
use Rattle.router_account.specs.Barriers.{closing_at}
use Rattle.router_account.specs.Ledger.{Ledger, Unfinished}
use Rattle.data_agent.specs.declared.agent.Agent.{Agent}
use Rattle.data_agent.specs.declared.outcome.Closed.{Closed}
use Rattle.data_agent.specs.Calls.{closing_of}
use Rattle.data_agent.specs.Standing.{StandsFor, StandsWhole}

-- the closings are as before, or one page more has closed, at a time up to this clock
abbrev pub HasClosedOne : (clock : ℕ) → (before after : List ℕ) → Type 0
HasClosedOne clock before after = (after ≡ before) ⊎ ((time : ℕ) × (time ≤ clock) × (after ≡ before ++ time ∷ []))

-- the agent stands for a ledger with the same entries and rows, in which one page more at most has closed, at a time up to
-- this clock
pub record StandsForSame (agent : Agent) (rules : Rules) (l : Ledger) (clock : ℕ) : Type 0 where
  pub after : Ledger
  pub unfinished : Unfinished
  pub stands : StandsFor agent rules after unfinished
  pub router : after.account.router ≡ l.account.router
  pub entries : after.account.entries ≡ l.account.entries
  pub rows : after.account.rows ≡ l.account.rows
  pub closings : HasClosedOne clock l.account.closings after.account.closings

-- how many bits the open page has, where a tick closes it
abbrev pub IsDueBits : Rules → Account → (clock : ℕ) → Option ℕ → Type 0
IsDueBits rules a clock None = is_due rules a.closings clock (fill rules a (open_page a.closings)) ≡ false
IsDueBits rules a clock (Some bits) =
    (bits ≡ fill rules a (open_page a.closings))
    × (is_due rules a.closings clock (fill rules a (open_page a.closings)) ≡ true)

-- a tick, if it is one, closed what is due
abbrev pub ticked_at : Rules → Ledger → (clock : ℕ) → (tick : Bool) → Ledger
ticked_at rules l clock tick = record l { account = if tick then after_tick rules l.account clock else l.account }

-- and the agent stands for that, and tells which page was closed
pub record IsTicked (rules : Rules) (l : Ledger) (u : Unfinished) (clock : ℕ) (tick : Bool) (closed : Option Closed)
    (after : Agent) : Type 0 where
  pub told : option_map closing_of closed ≡ closing_at rules l clock tick
  pub stands : StandsWhole after rules (ticked_at rules l clock tick) u
