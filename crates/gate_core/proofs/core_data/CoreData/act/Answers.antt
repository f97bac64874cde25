use Rattle.std.proofs.Common.{◌+◌, ◌<◌, ◌^◌, refl, subst, arith}
use Rattle.gate_core.specs.declared.steps.Act.{Act}
use Rattle.gate_core.specs.declared.steps.Act.TheVariants.{Settle, Probe}
use Rattle.gate_core.specs.Core.{PageFits, duties_of}
use Rattle.gate_core.specs.Kept.{core_of}
use Rattle.gate_core.proofs.CoreFacts.{next_is}
use Rattle.gate_core.proofs.Whose.{keepers_does}
use Rattle.gate_core.proofs.core_data.CoreData.act.Goals as goal

pub open-requires-clause-fits : goal.open-requires-clause-fits
open-requires-clause-fits c = let e = next_is c.args.self.now c.requires.holds in
    let fits : (duties_of (core_of c.args.self.now)).next + 1 < 2 ^ 32 = subst (λ (a : Act). PageFits a (duties_of (core_of c.args.self.now))) c.in-Open.is c.requires.able.fits in omega arith

pub returns-in-Settle : goal.returns-in-Settle
returns-in-Settle c = keepers_does c.args.self.now c.settle.new.self c.args.step.now.actor (Settle c.in-Settle.slot) c.args.step.now.act c.settle.result c.in-Settle.is c.requires.able.may refl c.settle.ensures

pub returns-in-Probe : goal.returns-in-Probe
returns-in-Probe c = keepers_does c.args.self.now c.probe.new.self c.args.step.now.actor (Probe c.in-Probe.slot c.in-Probe.at) c.args.step.now.act c.probe.result c.in-Probe.is c.requires.able.may refl c.probe.ensures
