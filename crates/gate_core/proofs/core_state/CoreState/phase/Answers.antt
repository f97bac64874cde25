use Rattle.std.proofs.Common.{ℕ, get_or, ◌∙◌, sym, ap}
use Rattle.gate_core.specs.Views.{Duties, no_slot, slot_at}
use Rattle.gate_core.proofs.CoreFacts.{duties_is}
use Rattle.gate_core.proofs.core_state.CoreState.phase.Goals as goal

pub returns : goal.returns
returns c = rw (← c.self.view_is) (ap (λ (i : ℕ). (get_or c.self.inside.kept.desk.slots i no_slot).phase) c.from.ensures ∙ ap (λ (d : Duties). (slot_at d c.args.slot).phase) (sym (duties_is c.self.inside.kept c.self.invariant.holds)))
