use Rattle.std.proofs.Common.{◌≡◌, ◌++◌, take}
use Rattle.std.specs.List.{filter}
use Rattle.agent_wire.specs.Told.{leads_to}
use Rattle.agent_wire.proofs.graphs.push_exits.Given as goal

abbrev pub invariant-loop-exit : goal.invariant-loop-exit
invariant-loop-exit l = l.edges.items ≡ l.fn.edges.items ++ filter (leads_to l.nodes) (take l.exit-index l.exits)
