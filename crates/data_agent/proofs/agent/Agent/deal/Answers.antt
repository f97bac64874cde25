use Rattle.data_agent.proofs.Dealing.{dealt_stands}
use Rattle.data_agent.proofs.agent.Agent.deal.Goals as goal

pub returns-clause-beside : goal.returns-clause-beside
returns-clause-beside c = dealt_stands c.deal_passes.result c.args.self.now c.deal_passes.new.keeper c.args.passes c.deal_passes.ensures.keeper
