use Rattle.std.proofs.Common.{subst}
use Rattle.indirect_store.proofs.Keys.{TakesOut, not_none, below_at}
use Rattle.indirect_store.proofs.Stored.{filed_fewer}
use Rattle.indirect_store.proofs.filing.unfile.Goals as goal

pub take_out-requires-clause-place : goal.take_out-requires-clause-place
take_out-requires-clause-place c =
    let s = c.requires.filed in
    below_at _ s.0 c.args.place s.1.chained.within (λ l. not_none c.args.slots.now c.args.place c.requires.held (s.1.listed.free c.args.place l))

pub returns-clause-filed : goal.returns-clause-filed
returns-clause-filed c = λ order was.
    let e = c.remove-held.ensures in
    filed_fewer c.args.slots.now c.remove-held.new.self c.args.buckets.now c.take_out.new.self order c.args.place c.remove-held.result
    e.value e.updates e.len (subst (λ k. TakesOut c.args.buckets.now c.take_out.new.self k c.args.place) c.bucket_of.ensures.exact c.take_out.ensures.taken) c.take_out.ensures.chains was
