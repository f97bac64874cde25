use Rattle.std.proofs.Common.{◌≡◌, ◌≤◌, ◌+◌, ◌-◌, ℕ, List}
use Rattle.index_rings.specs.Orders.{chains_in, places_in, Holds}
use Rattle.index_rings.proofs.chains.Chains.cover_chain.Given as goal

abbrev pub invariant-loop-self : goal.invariant-loop-self
invariant-loop-self l =
    (places_in l.self ≡ places_in l.fn.self) × (chains_in l.fn.self ≤ chains_in l.self) × ((label : ℕ → ℕ) → (order : List ℕ) → Holds l.fn.self label order → Holds l.self label order)

abbrev pub decreases-loop-self : goal.decreases-loop-self
decreases-loop-self l = l.chain + 1 - chains_in l.self
