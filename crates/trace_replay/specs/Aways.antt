-- Agents while passes are out, in the words of `Operating`.
use Rattle.data_agent.specs.declared.Agent.{Agent}
use Rattle.trace_replay.specs.Operating.{Besides, Reads}
use Rattle.data_agent.specs.Beside.{Away, AreRead, meaning_beside}

-- what an agent stands for while passes are out
abbrev pub besides : Besides Agent Away
besides agent away = meaning_beside agent away

-- what an agent read
abbrev pub reads : Reads Agent
reads agent page sig = AreRead agent page sig
