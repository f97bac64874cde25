use Rattle.transform_table.proofs.Moves.{stands_more}
use Rattle.transform_table.proofs.filing.insert.Goals as goal

pub returns-clause-stands : goal.returns-clause-stands
returns-clause-stands c = λ order was.
    let f = c.args.filing.now in let e = c.insert_reserved-place.ensures in
    stands_more f.rows c.insert_reserved-place.new.self f.all c.append.new.self f.buckets c.append-2.new.self f.pages c.append-3.new.self order c.insert_reserved-place.result c.args.line e.was_vacant e.updates e.len c.requires.room.has_page
    c.append.ensures.appended c.append-2.ensures.appended c.append-3.ensures.appended c.append.ensures.chains c.append-2.ensures.chains c.append-3.ensures.chains was
