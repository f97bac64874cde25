use Rattle.std.proofs.Common.{◌≡◌, ℕ, []}
use Rattle.index_rings.specs.Orders.{chains_in, places_in, Holds}
use Rattle.index_rings.proofs.chains.Chains.with_chains.Given as goal

abbrev pub invariant-loop-chain : goal.invariant-loop-chain
invariant-loop-chain l = (chains_in l.made ≡ l._chain) × (places_in l.made ≡ 0) × ((label : ℕ → ℕ) → Holds l.made label [])
