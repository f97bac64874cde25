use Rattle.std.proofs.Common.{◌+◌, arith}
use Rattle.indirect_store.proofs.Stored.{store_reused}
use Rattle.indirect_store.proofs.store.Store.use_again.Goals as goal

pub invariant_of-self : goal.invariant_of-self
invariant_of-self c =
    let s = c.self.inside in
    store_reused s.slots c.set_uses.new.slots s.buckets c.args.id (c.uses_of-uses.result + 1) (rw c.self.view_is c.requires.held) c.set_uses.ensures.slots (λ z. omega (arith, z)) c.set_uses.ensures.len c.self.invariant
