-- What a watch tells of a ledger that has the gathered entries alone. Public clauses cite these words.
use Rattle.std.specs.Prelude.{ℕ, ◌≡◌, ◌⊎◌, true, false}
use Rattle.std.specs.List.{Contains}
use Rattle.spie_base.specs.declared.Rules.{Rules}
use Rattle.spie_base.specs.declared.Sig.{Sig}
use Rattle.router_account.specs.declared.words.Watch.{Watch}
use Rattle.router_account.specs.Account.{window}
use Rattle.router_account.specs.Ledger.{Ledger, Unfinished}
use Rattle.router_account.specs.Watches.{is_missing_now, is_shown, misses, shows, watch_word}
use Rattle.data_agent.specs.declared.agent.Agent.{Agent}
use Rattle.data_agent.specs.Beside.{AreRead, Away, StandsBeside}
use Rattle.data_agent.specs.Standing.{StandsFor}

-- an agent stands for a ledger, and maybe passes are out
abbrev pub StandsAnyhow : Agent → Type 0
StandsAnyhow agent =
    (rules : Rules) × (l : Ledger) × (u : Unfinished)
    × (StandsFor agent rules l u ⊎ ((away : Away) × StandsBeside agent rules l u away))

-- a signature is seen in a page of the window that is not missing: the gathered entries show it there, or each of its marks was read
-- there as set
pub record IsSeenBeside (rules : Rules) (l : Ledger) (clock : ℕ) (sig : Sig) (agent : Agent) : Type 0 where
  pub page : ℕ
  pub in_window : Contains (window rules l.account clock) page
  pub there : is_missing_now rules l page ≡ false
  pub shown : (shows rules l.account sig page ≡ true) ⊎ AreRead agent page sig

-- a signature is not seen: the gathered entries show it in no page of the window that is not missing, and the answer says whether
-- one is missing
pub record IsUnseenBeside (rules : Rules) (l : Ledger) (clock : ℕ) (sig : Sig) (answer : Watch) : Type 0 where
  pub hidden : is_shown rules l l.account clock sig ≡ false
  pub word : answer ≡ watch_word false (misses rules l clock)
