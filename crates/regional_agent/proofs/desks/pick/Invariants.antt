use Rattle.std.proofs.Common.{◌≡◌, take}
use Rattle.regional_agent.specs.Desks.{lying}
use Rattle.regional_agent.proofs.desks.pick.Given as goal

abbrev pub invariant-loop-node : goal.invariant-loop-node
invariant-loop-node l = l.picked.items ≡ lying l.topology l.region (take l.node-index l.round)
