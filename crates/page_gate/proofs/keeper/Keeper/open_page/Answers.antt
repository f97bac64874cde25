use Rattle.std.proofs.Common.{◌<◌, ◌+◌, ℕ, get_or, sym, ap, ◌∙◌, subst}
use Rattle.gate_core.specs.Acts.{open_slot}
use Rattle.gate_core.specs.Views.{no_slot}
use Rattle.page_gate.specs.Held.{Held}
use Rattle.page_gate.specs.Slots.{HasOpen}
use Rattle.page_gate.proofs.Rotating.{next_there}
use Rattle.page_gate.proofs.keeper.Keeper.open_page.Goals as goal

pub returns-clause-next : goal.returns-clause-next
returns-clause-next c = let k = c.self.inside in let inv = c.self.invariant in let d = k.seat.me.0.duties in
    let low : open_slot d < 4 = subst (λ (h : Held). HasOpen h.view.duties) (sym c.self.view_is) c.requires.open in
    ap (λ (n : ℕ). (get_or k.slots n no_slot).page + 1) c.from.ensures
    ∙ (next_there d k.slots inv.7 inv.4 c.open_slot.result c.open_slot.ensures low).1
    ∙ ap (λ (h : Held). h.view.duties.next) c.self.view_is
