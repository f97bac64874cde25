use Rattle.std.proofs.Common.{◌+◌, ◌<◌, length, subst}
use Rattle.gate_core.specs.declared.steps.Actor.{Actor}
use Rattle.gate_core.specs.Core.{place_of}
use Rattle.gate_core.specs.Kept.{views_of}
use Rattle.gate_core.proofs.CoreFacts.{seated}
use Rattle.gate_core.proofs.core_data.CoreData.place_of.Goals as goal

pub returns-in-Pass-clause-seat : goal.returns-in-Pass-clause-seat
returns-in-Pass-clause-seat c =
    seated c.args.self.now (c.in-Pass.number + 1) (subst (λ (a : Actor). place_of a < length (views_of c.args.self.now)) c.in-Pass.is c.requires)
