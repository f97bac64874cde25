use Rattle.data_agent.proofs.Minding.{knows_after}
use Rattle.data_agent.proofs.slots.settle_until_quiet.Goals as goal

pub settle_page-requires-clause-stands : goal.settle_page-requires-clause-stands
settle_page-requires-clause-stands g c = let (first, last, s, from, to) = c.requires.stands in (first, last, c.looks.invariant.1 first last s, from, to)

pub returns-then-eq-clause-minding : goal.returns-then-eq-clause-minding
returns-then-eq-clause-minding g c = λ first last s. c.settle_page.ensures.minding first last (c.looks.invariant.1 first last s)

pub looks-preserved : goal.looks-preserved
looks-preserved g c = (
  knows_after c.args.plane.now.shape c.args.keeper.now c.looks.keeper c.settle_page.new.keeper c.looks.invariant.0 c.settle_page.ensures.same,
  λ first last s. c.settle_page.ensures.minding first last (c.looks.invariant.1 first last s),
)
