use Rattle.page_gate.proofs.Rising.{retried_none, retried_more, retried_recorded}
use Rattle.page_gate.proofs.plane.Plane.record.Goals as goal

pub returns-in-Sealed-clause-recorded : goal.returns-in-Sealed-clause-recorded
returns-in-Sealed-clause-recorded g c = let shape = c.args.self.now.shape in let sig = c.args.sig.now in let before = c.args.pass.now in let turned_away = c.try_record.new.pass in
    let was = retried_more shape sig before before turned_away c.in-Sealed.gate (retried_none shape before) c.in-Sealed.ensures.tells in
    retried_recorded shape sig before turned_away c.record_slowly.new.pass c.record_slowly.result was c.record_slowly.ensures.recorded
