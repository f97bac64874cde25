use Rattle.std.proofs.Common.{subst}
use Rattle.indirect_store.proofs.Keys.{Appends}
use Rattle.indirect_store.proofs.Stored.{filed_more}
use Rattle.indirect_store.proofs.filing.file.Goals as goal

pub returns-clause-filed : goal.returns-clause-filed
returns-clause-filed c = λ order was.
    let e = c.insert_reserved-place.ensures in
    filed_more c.args.slots.now c.insert_reserved-place.new.self c.args.buckets.now c.append.new.self order c.insert_reserved-place.result (record { sig = c.args.sig.now; uses = 1 })
    e.was_vacant e.updates e.len (subst (λ k. Appends c.args.buckets.now c.append.new.self k c.insert_reserved-place.result) c.bucket_of.ensures.exact c.append.ensures.appended) c.append.ensures.chains was
