use Rattle.std.proofs.Common.{take}
use Rattle.regional_agent.specs.Answers.{AreHome}
use Rattle.regional_agent.proofs.regions.lie_in.Given as goal

abbrev pub invariant-loop-entry : goal.invariant-loop-entry
invariant-loop-entry l = AreHome l.topology l.region (take l.entry-index l.entries)
