use Rattle.gate_core.proofs.Opens.{open_done, open_declined}
use Rattle.gate_core.proofs.core_data.CoreData.open.Goals as goal

pub returns-then-can_open : goal.returns-then-can_open
returns-then-can_open c =
    let can = c.can_open.ensures.0 c.if-can_open.true in
    open_done c.args.self.now c.open_next.new.self c.requires.holds c.requires.room c.args.slot c.requires.near c.open_next.result can.0 can.1 c.requires.fits
    c.open_next.ensures.words c.open_next.ensures.others c.open_next.ensures.opened c.open_next.ensures.answer

pub returns-else-can_open : goal.returns-else-can_open
returns-else-can_open c =
    open_declined c.args.self.now c.decline.new.self c.requires.holds c.args.slot c.decline.result
    (λ free none. let y = c.can_open.ensures.1 (free, none) in let n = c.if-can_open.false in cc) c.decline.ensures.kept c.decline.ensures.answer
