use Rattle.std.proofs.Common.{arith, ◌∙◌}
use Rattle.data_agent.proofs.Minding.{next_minded}
use Rattle.data_agent.proofs.TurnedPages.{minded_turned, words_turned}
use Rattle.data_agent.proofs.slots.turn_page_alone.Goals as goal

pub rotate_alone-requires-clause-open : goal.rotate_alone-requires-clause-open
rotate_alone-requires-clause-open c = let (first, last, s, fits) = c.requires.stands in s.has_open

pub rotate_alone-requires-clause-fits : goal.rotate_alone-requires-clause-fits
rotate_alone-requires-clause-fits c =
    let (first, last, s, fits) = c.requires.stands in
    let next = next_minded c.args.plane.now.shape c.args.keeper.now first last s in
    omega arith

pub returns-clause-same : goal.returns-clause-same
returns-clause-same c = words_turned c.args.plane.now.shape c.args.keeper.now c.rotate_alone.new.keeper c.rotate_alone.ensures.rotated

pub returns-clause-turned : goal.returns-clause-turned
returns-clause-turned c = λ first last s.
    minded_turned c.args.plane.now.shape c.args.keeper.now c.rotate_alone.new.keeper first last s c.requires.free c.rotate_alone.ensures.rotated c.rotate_alone.ensures.met c.rotate_alone.ensures.open
    (c.rotate_alone.ensures.current ∙ c.rotate_alone.ensures.page)
