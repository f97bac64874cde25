use Rattle.std.proofs.Common.{◌+◌, ◌-◌, length}
use Rattle.index_rings.proofs.Grown.{Grown}
use Rattle.index_rings.proofs.chains.Chains.cover_place.Given as goal

abbrev pub invariant-loop-self : goal.invariant-loop-self
invariant-loop-self l = Grown l.fn.self.rings.links.items l.self.rings.links.items l.fn.self.firsts.items l.self.firsts.items

abbrev pub decreases-loop-self : goal.decreases-loop-self
decreases-loop-self l = l.place + 1 - length l.self.rings.links.items
