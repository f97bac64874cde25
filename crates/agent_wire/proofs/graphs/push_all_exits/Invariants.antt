use Rattle.std.proofs.Common.{◌≡◌, ◌++◌, take}
use Rattle.std.specs.List.{flat_map}
use Rattle.agent_wire.specs.Told.{exits_among}
use Rattle.agent_wire.proofs.graphs.push_all_exits.Given as goal

abbrev pub invariant-loop-asked : goal.invariant-loop-asked
invariant-loop-asked l = l.edges.items ≡ l.fn.edges.items ++ flat_map (exits_among l.nodes) (take l.asked-index l.made)
