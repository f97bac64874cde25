use Rattle.std.proofs.Common.{◌≡◌, ◌++◌, take}
use Rattle.regional_agent.specs.Desks.{lying}
use Rattle.agent_wire.proofs.following.pick.Given as goal

abbrev pub invariant-loop-pair : goal.invariant-loop-pair
invariant-loop-pair l = l.picked.items ≡ l.fn.picked.items ++ lying l.topology l.region (take l.pair-index l.pairs)
