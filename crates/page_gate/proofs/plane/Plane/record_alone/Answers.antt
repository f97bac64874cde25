use Rattle.std.proofs.Common.{◌<◌, ℕ, List, get_or, sym, ap, ◌∙◌, subst}
use Rattle.gate_core.specs.declared.view.Slot.{Slot}
use Rattle.gate_core.specs.Views.{no_slot}
use Rattle.gate_core.specs.Acts.{open_among, open_slot}
use Rattle.page_gate.specs.Held.{Held}
use Rattle.page_gate.specs.Slots.{HasOpen}
use Rattle.page_gate.proofs.Repeating.{open_readable}
use Rattle.page_gate.proofs.plane.Plane.record_alone.Goals as goal

pub record_or_repeat-requires-clause-open : goal.record_or_repeat-requires-clause-open
record_or_repeat-requires-clause-open c = let k = c.keeper.inside in let inv = c.keeper.invariant in let v = k.seat.me.0 in
    let low : open_slot v.duties < 4 = subst (λ (h : Held). HasOpen h.view.duties) (sym c.keeper.view_is) c.requires.open in
    open_readable v (get_or k.slots c.from.result no_slot).page c.open_slot-slot.result inv.2 inv.1 inv.7 inv.6 low
    (c.open_slot-slot.ensures ∙ ap (λ (xs : List Slot). open_among xs 0) inv.4)
    (ap (λ (n : ℕ). (get_or k.slots n no_slot).page) (c.from.ensures ∙ c.open_slot-slot.ensures)
    ∙ ap (λ (xs : List Slot). (get_or xs (open_among xs 0) no_slot).page) inv.4)
