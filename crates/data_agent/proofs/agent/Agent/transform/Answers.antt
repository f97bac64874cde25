use Rattle.std.proofs.Common.{refl}
use Rattle.data_agent.proofs.Planes.{own_with}
use Rattle.data_agent.proofs.Recording.{changed_where, takes}
use Rattle.data_agent.proofs.agent.Agent.transform.Goals as goal

pub returns-clause-own : goal.returns-clause-own
returns-clause-own c = λ plane own. own_with plane c.args.self.now _ own refl refl refl refl refl refl

pub returns-clause-changed : goal.returns-clause-changed
returns-clause-changed c = changed_where c.add.result c.args.self.now _ c.args.page c.args.row.now (takes c.args.self.now c.args.page.number c.args.row.now c.requires.near c.is_plain.ensures) refl refl refl refl refl refl refl refl c.add.ensures.added
