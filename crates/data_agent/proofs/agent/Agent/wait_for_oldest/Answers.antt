use Rattle.std.proofs.Common.{refl, arith}
use Rattle.data_agent.specs.Standing.{standing}
use Rattle.data_agent.proofs.Leaving.{keeps_settled, minds_own, minds_then}
use Rattle.data_agent.proofs.agent.Agent.wait_for_oldest.Goals as goal

pub settle_until_quiet-requires-clause-stands : goal.settle_until_quiet-requires-clause-stands
settle_until_quiet-requires-clause-stands g c =
    let some = c.requires.some in
    let here = c.standing.ensures in
    (standing c.args.self.now, c.args.self.now.page.number, minds_own c.args.plane.now c.args.self.now c.requires.own c.requires.minds, (omega arith), (omega arith))

pub returns-clause-minds : goal.returns-clause-minds
returns-clause-minds g c =
    let old = c.args.self.now in
    minds_then c.args.plane.now old _ (standing old) c.requires.own c.requires.minds refl refl refl refl
    (c.settle_until_quiet.ensures.minding (standing old) old.page.number (minds_own c.args.plane.now old c.requires.own c.requires.minds))

pub returns-clause-keeps : goal.returns-clause-keeps
returns-clause-keeps g c =
    keeps_settled c.args.plane.now c.args.self.now _ c.requires.own (record { rules = refl; router = refl; page = refl; catalogue = refl; table = refl; noted = refl; marked = refl })
    c.settle_until_quiet.ensures.same refl c.settle_until_quiet.ensures.minding
