-- An agent of the tests beside two passes, which were dealt while page 0 was open.
use Rattle.std.specs.Prelude.{◌≡◌, All, List}
use Rattle.spie_base.specs.declared.Rules.{Rules}
use Rattle.page_gate.specs.Held.{PassHeld, PlaneId}
use Rattle.router_account.specs.Ledger.{Ledger, Unfinished, at_archive, first_ledger, nothing_unfinished, turned_at}
use Rattle.data_agent.specs.declared.agent.Agent.{Agent}
use Rattle.data_agent.specs.Beside.{StandsBeside}

abbrev pub the_rules : Rules
the_rules = record { k = 3; n = 8; limit = 6; span = 1000; keep = 32; age = 1000; width = 100; base = 1 }

-- the passes are of the plane
abbrev pub AreOf : PlaneId → List PassHeld → Type 0
AreOf plane passes = All (λ (p : PassHeld). p.table ≡ plane.table) passes

-- router 2's ledger after one rotation, and after four
abbrev pub after_one : Ledger
after_one = turned_at (first_ledger 2) 5

abbrev pub after_four : Ledger
after_four = turned_at (turned_at (turned_at after_one 5) 6) 7

abbrev pub IsBeside : Agent → Ledger → Unfinished → Type 0
IsBeside agent l u = StandsBeside agent the_rules l u (record { out = 2; since = 0 })

-- no archival came
pub record IsAt (agent : Agent) (l : Ledger) : Type 0 where
  pub stands : IsBeside agent l nothing_unfinished

-- one came after four rotations
pub record IsArchived (agent : Agent) : Type 0 where
  pub unfinished : Unfinished
  pub stands : IsBeside agent (at_archive after_four) unfinished
