use Rattle.indirect_store.proofs.Keys.{below_at}
use Rattle.transform_table.proofs.Moves.{stands_fewer}
use Rattle.transform_table.proofs.filing.remove.Goals as goal

pub take_out-requires-clause-place : goal.take_out-requires-clause-place
take_out-requires-clause-place c = let s = c.requires.stands in below_at _ s.0 c.args.place s.1.in_one.within s.2

pub take_out-requires-2-clause-place : goal.take_out-requires-2-clause-place
take_out-requires-2-clause-place c = let s = c.requires.stands in below_at _ s.0 c.args.place s.1.in_buckets.within s.2

pub take_out-requires-3-clause-place : goal.take_out-requires-3-clause-place
take_out-requires-3-clause-place c = let s = c.requires.stands in below_at _ s.0 c.args.place s.1.in_pages.within s.2

pub returns-clause-stands : goal.returns-clause-stands
returns-clause-stands c = λ order was.
    let f = c.args.filing.now in let e = c.remove-line.ensures in
    stands_fewer f.rows c.remove-line.new.self f.all c.take_out.new.self f.buckets c.take_out-2.new.self f.pages c.take_out-3.new.self order c.args.place c.remove-line.result e.value e.updates e.len
    c.take_out.ensures.taken c.take_out-2.ensures.taken c.take_out-3.ensures.taken c.take_out.ensures.chains c.take_out-2.ensures.chains c.take_out-3.ensures.chains was
