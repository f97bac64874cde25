use Rattle.std.proofs.Common.{◌≡◌}
use Rattle.agent_wire.specs.Accepting.{requests_below}
use Rattle.agent_wire.proofs.following.requests_for.Given as goal

abbrev pub invariant-loop-region : goal.invariant-loop-region
invariant-loop-region l = l.made.items ≡ requests_below l.topology l.pairs l.region
