use Rattle.std.proofs.Common.{◌≢◌, ◌-◌, sym, ◌∙◌, arith}
use Rattle.indirect_store.proofs.Keys.{not_none}
use Rattle.indirect_store.proofs.Stored.{store_reused}
use Rattle.indirect_store.proofs.store.Store.release.Goals as goal

pub invariant_of-self-else-uses-eq1 : goal.invariant_of-self-else-uses-eq1
invariant_of-self-else-uses-eq1 c =
    let s = c.self.inside in
    let some : c.uses_of-uses.result ≢ 0 = λ z. c.self.invariant.used c.args.id (not_none s.slots c.args.id (rw c.self.view_is c.requires)) (sym c.uses_of-uses.ensures ∙ z) in
    store_reused s.slots c.set_uses.new.slots s.buckets c.args.id (c.uses_of-uses.result - 1) (rw c.self.view_is c.requires) c.set_uses.ensures.slots
    (λ z. omega (arith, z, some, c.if-uses-eq1.false)) c.set_uses.ensures.len c.self.invariant
