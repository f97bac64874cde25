use Rattle.std.proofs.Common.{arith, sym, ap, ◌∙◌}
use Rattle.slab.specs.Slab.{Slab, get}
use Rattle.indirect_store.specs.Held.{sig_in, sig_at}
use Rattle.indirect_store.specs.declared.held.Held.{Held}
use Rattle.indirect_store.proofs.Stored.{store_roomier, store_more}
use Rattle.indirect_store.proofs.store.Store.hold.Goals as goal

pub invariant_of-self-2 : goal.invariant_of-self-2
invariant_of-self-2 c =
    let s = c.self.inside in let m = c.make_room in let id = c.file-id.result in
    store_more m.new.slots c.file-id.new.slots m.new.buckets c.file-id.new.buckets id c.args.sig.now
    (λ i e. c.requires i (ap (λ l. sig_at l i) (sym c.self.view_is) ∙ ap (λ t. sig_in (get t i)) (sym m.ensures.slots) ∙ e)) c.file-id.ensures.slots
    (omega (arith, c.file-id.ensures.key, ap (λ (t : Slab Held). t.vacant_key) m.ensures.slots, c.vacant_key.ensures.value)) c.file-id.ensures.filed
    (store_roomier s.slots m.new.slots s.buckets m.new.buckets m.new.slots.capacity m.ensures.slots m.ensures.chains m.ensures.kept c.self.invariant)

pub file-id-requires-clause-filed : goal.file-id-requires-clause-filed
file-id-requires-clause-filed c =
    let s = c.self.inside in let m = c.make_room in
    let roomier = store_roomier s.slots m.new.slots s.buckets m.new.buckets m.new.slots.capacity m.ensures.slots m.ensures.chains m.ensures.kept c.self.invariant in
    (roomier.order, roomier.filed)
