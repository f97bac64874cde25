use Rattle.std.proofs.Common.{◌≡◌, take}
use Rattle.agent_wire.specs.Told.{all_told}
use Rattle.agent_wire.proofs.graphs.tell_all.Given as goal

abbrev pub invariant-loop-asked : goal.invariant-loop-asked
invariant-loop-asked l = record {
  nodes : l.told.nodes.items ≡ all_told (λ p. p.nodes) (take l.asked-index l.made);
  edges : l.told.edges.items ≡ all_told (λ p. p.edges) (take l.asked-index l.made);
  unknown : l.told.unknown.items ≡ all_told (λ p. p.unknown) (take l.asked-index l.made);
  clear : l.told.clear.items ≡ all_told (λ p. p.clear) (take l.asked-index l.made);
}
