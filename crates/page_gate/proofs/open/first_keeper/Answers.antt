use Rattle.std.proofs.Common.{◌≡◌, length, sym, refl, ap, subst}
use Rattle.atomic_table.specs.Table.{Me}
use Rattle.gate_core.specs.declared.view.View.{View}
use Rattle.gate_core.specs.Acts.{open_slot}
use Rattle.page_gate.specs.Slots.{HasOpen}
use Rattle.page_gate.specs.Steps.{Nothing}
use Rattle.page_gate.specs.Pages.{AreKept}
use Rattle.page_gate.proofs.KeptSlots.{first_kept}
use Rattle.page_gate.proofs.open.first_keeper.Goals as goal

pub invariant_of-result : goal.invariant_of-result
invariant_of-result c = let is = ap (λ (m : Me Nothing View). m.0) c.requires in (
  ap (λ (u : View). u.duties.out) (sym is),
  ap (λ (u : View). u.state) is,
  ap (λ (u : View). u.role) is,
  ap (λ (m : Me Nothing View). m.1) c.requires,
  ap (λ (u : View). u.duties.slots) (sym is),
  ap (λ (u : View). length u.duties.slots) is,
  subst (λ (u : View). HasOpen u.duties → u.duties.pointed ≡ open_slot u.duties) (sym is) (λ _. refl),
  subst (λ (u : View). AreKept u.duties) (sym is) first_kept,
)
