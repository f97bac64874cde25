use Rattle.std.proofs.Common.{subst}
use Rattle.gate_core.specs.Core.{IsLogged}
use Rattle.gate_core.proofs.CoreFacts.{is_logged}
use Rattle.gate_core.proofs.core_state.CoreState.is_sound.Goals as goal

pub returns-clause-logged : goal.returns-clause-logged
returns-clause-logged c = subst IsLogged c.self.view_is (is_logged c.self.inside.kept c.self.invariant)
