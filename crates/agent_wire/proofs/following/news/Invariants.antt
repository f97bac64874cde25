use Rattle.std.proofs.Common.{◌≡◌, take}
use Rattle.agent_wire.specs.Sets.{news}
use Rattle.agent_wire.proofs.following.news.Given as goal

abbrev pub invariant-loop-exit : goal.invariant-loop-exit
invariant-loop-exit l = l.found.items ≡ news l.topology l.known (take l.exit-index l.exits)
