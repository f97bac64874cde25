use Rattle.std.proofs.Common.{◌≡◌, take}
use Rattle.traceback_manager.specs.Rounds.{batch}
use Rattle.traceback_manager.proofs.rounds.pick.Given as goal

abbrev pub invariant-loop-lead : goal.invariant-loop-lead
invariant-loop-lead l = l.picked.items ≡ batch l.topology l.region (take l.lead-index l.leads)
