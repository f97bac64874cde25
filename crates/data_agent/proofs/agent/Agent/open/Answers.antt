use Rattle.std.proofs.Common.{refl, ◌∙◌}
use Rattle.data_agent.proofs.Starting.{started}
use Rattle.data_agent.proofs.agent.Agent.open.Goals as goal

pub returns-clause-first : goal.returns-clause-first
returns-clause-first c =
    started _ c.in_ok-plane.plane.table c.args.rules.now c.args.router.number c.requires.rules c.requires.router refl refl c.in_ok-start.ensures.begins refl
    (c.keeper.view_is ∙ c.in_ok-plane.ensures.1) refl c.new.ensures.items c.in_ok-new.ensures refl
