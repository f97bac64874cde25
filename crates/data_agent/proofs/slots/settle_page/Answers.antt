use Rattle.data_agent.proofs.Minding.{same_bounds}
use Rattle.data_agent.proofs.SettledPages.{minded_settled, settled_sees, words_settled}
use Rattle.data_agent.proofs.slots.settle_page.Goals as goal

pub settle-requires-clause-waiting : goal.settle-requires-clause-waiting
settle-requires-clause-waiting c = let (first, last, s, from, to) = c.requires.stands in s.stand c.args.page.number from to

pub returns-clause-same : goal.returns-clause-same
returns-clause-same c =
    let (first, last, s, from, to) = c.requires.stands in
    words_settled c.args.plane.now.shape c.args.keeper.now c.settle.new.keeper c.args.page.number c.settle.result c.settle.ensures.before c.settle.ensures.now first last from to s

pub returns-clause-minding : goal.returns-clause-minding
returns-clause-minding c = λ first last s.
    let (first0, last0, s0, from0, to0) = c.requires.stands in
    let near = same_bounds c.args.plane.now.shape c.args.keeper.now first0 last0 first last c.args.page.number s0 s from0 to0 in
    minded_settled c.args.plane.now.shape c.args.keeper.now c.settle.new.keeper c.args.page.number c.settle.result c.settle.ensures.before c.settle.ensures.now first last near.0 near.1 c.settle.ensures.open s

pub returns-clause-inside : goal.returns-clause-inside
returns-clause-inside c =
    let (first, last, s, from, to) = c.requires.stands in
    settled_sees c.args.plane.now.shape c.args.keeper.now c.settle.new.keeper c.args.page.number c.settle.result c.settle.ensures.before c.settle.ensures.now first last from to s
