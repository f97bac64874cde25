use Rattle.data_agent.proofs.Dealing.{dealt_all}
use Rattle.data_agent.proofs.slots.deal_passes.Goals as goal

pub returns-clause-passes : goal.returns-clause-passes
returns-clause-passes c = dealt_all c.deal.result c.args.keeper.now c.args.plane.now.table c.args.passes c.requires.plane c.points.ensures c.deal.ensures.passes
