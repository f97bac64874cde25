use Rattle.std.proofs.Common.{arith, ◌∙◌}
use Rattle.data_agent.proofs.Minding.{next_minded}
use Rattle.data_agent.proofs.TurnedPages.{minded_turned, words_turned}
use Rattle.data_agent.proofs.slots.turn_page.Goals as goal

pub rotate-requires-clause-open : goal.rotate-requires-clause-open
rotate-requires-clause-open g c = let (first, last, s, fits) = c.requires.stands in s.has_open

pub rotate-requires-clause-fits : goal.rotate-requires-clause-fits
rotate-requires-clause-fits g c =
    let (first, last, s, fits) = c.requires.stands in
    let next = next_minded c.args.plane.now.shape c.args.keeper.now first last s in
    omega arith

pub returns-clause-same : goal.returns-clause-same
returns-clause-same g c = words_turned c.args.plane.now.shape c.args.keeper.now c.rotate.new.keeper c.rotate.ensures.rotated

pub returns-clause-turned : goal.returns-clause-turned
returns-clause-turned g c = λ first last s.
    minded_turned c.args.plane.now.shape c.args.keeper.now c.rotate.new.keeper first last s c.requires.free c.rotate.ensures.rotated c.rotate.ensures.met c.rotate.ensures.open
    (c.rotate.ensures.current ∙ c.rotate.ensures.page)
