use Rattle.data_agent.proofs.Planes.{copy_of, some_copy}
use Rattle.data_agent.proofs.agent.Agent.copy.Goals as goal

pub returns-clause-resident : goal.returns-clause-resident
returns-clause-resident c = λ rules l s. copy_of c.args.self.now rules l c.in-Some.resident s (some_copy c.args.self.now c.args.self.now.copied c.requires.copied c.in-Some.resident c.in-Some.is)
