use Rattle.std.specs.Prelude.{Some, None}
use Rattle.gate_core.proofs.CoreFacts.{phase_is}
use Rattle.gate_core.proofs.core_data.CoreData.phase_of.Goals as goal

pub returns-in-Some : goal.returns-in-Some
returns-in-Some c = phase_is c.args.self.now c.requires.holds c.args.page.number (Some c.in-Some.slot) c.in-Some.ensures

pub returns-in-None : goal.returns-in-None
returns-in-None c = phase_is c.args.self.now c.requires.holds c.args.page.number None c.in-None.ensures
