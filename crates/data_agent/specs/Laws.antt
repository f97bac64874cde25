-- What holds of every agent.
use Rattle.std.specs.Prelude.{◌≤◌}
use Rattle.std.specs.List.{Contains}
use Rattle.spie_base.specs.declared.Entry.{Entry}
use Rattle.spie_base.specs.declared.Rules.{Rules}
use Rattle.page_catalogue.specs.Pages.{open_page}
use Rattle.router_account.specs.Ledger.{Ledger, Unfinished}
use Rattle.data_agent.specs.declared.agent.Agent.{Agent}
use Rattle.data_agent.specs.Beside.{AreClosedBits, StandsBeside}
use Rattle.data_agent.specs.Members.{HaveSameMembers}
use Rattle.data_agent.specs.Planes.{entries_of}
use Rattle.data_agent.specs.Standing.{StandsFor}

-- the keeper of an agent has the entries of each ledger for which the agent stands, in any order
abbrev pub EntriesAre : Type 0
EntriesAre =
    (agent : Agent) (rules : Rules) (l : Ledger) (u : Unfinished) → StandsFor agent rules l u
    → HaveSameMembers (entries_of agent) l.account.entries

-- each entry of such a ledger is in a page that was opened
abbrev pub EntriesExist : Type 0
EntriesExist =
    (agent : Agent) (rules : Rules) (l : Ledger) (u : Unfinished) → StandsFor agent rules l u
    → (entry : Entry) → Contains l.account.entries entry → entry.page.number ≤ open_page l.account.closings

-- an agent that stands for a ledger does so beside no pass
abbrev pub StandsBesideNone : Type 0
StandsBesideNone =
    (agent : Agent) (rules : Rules) (l : Ledger) (u : Unfinished) → StandsFor agent rules l u → AreClosedBits rules l u
    → StandsBeside agent rules l u (record { out = 0; since = open_page l.account.closings })
