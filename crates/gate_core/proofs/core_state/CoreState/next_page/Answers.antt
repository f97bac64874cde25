use Rattle.std.proofs.Common.{sym, ap}
use Rattle.gate_core.specs.Views.{Duties}
use Rattle.gate_core.specs.Acts.{numbered}
use Rattle.gate_core.proofs.CoreFacts.{duties_is}
use Rattle.gate_core.proofs.core_state.CoreState.next_page.Goals as goal

pub returns : goal.returns
returns c = rw (← c.self.view_is) (ap (λ (d : Duties). numbered d.next) (sym (duties_is c.self.inside.kept c.self.invariant.holds)))
