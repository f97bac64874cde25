use Rattle.std.proofs.Common.{◌≡◌, ◌<◌, ℕ, refl, List, length, sym, ap, subst, ◌∙◌}
use Rattle.gate_core.specs.declared.states.SlotPhase.TheVariants.{Sealed}
use Rattle.gate_core.specs.declared.view.Slot.{Slot}
use Rattle.gate_core.specs.declared.view.View.{View}
use Rattle.gate_core.specs.Acts.{open_among, open_slot}
use Rattle.page_gate.specs.Held.{Held}
use Rattle.page_gate.specs.Slots.{HasOpen}
use Rattle.page_gate.proofs.SealedSlots.{slot_rephased, still_four, none_open}
use Rattle.page_gate.proofs.KeptSlots.{kept_then}
use Rattle.page_gate.proofs.plane.Plane.seal.Goals as goal

pub invariant_of-keeper : goal.invariant_of-keeper
invariant_of-keeper c = let k = c.keeper.inside in let inv = c.keeper.invariant in let v = k.seat.me.0 in let shape = c.self.inside.words.shape in
    let s : ℕ = open_slot v.duties in
    let e = c.seal.ensures in
    let low : s < 4 = subst (λ (h : Held). HasOpen h.view.duties) (sym c.keeper.view_is) c.requires.open in
    let at : c.from-2.result ≡ s = c.from-2.ensures ∙ (c.open_slot-slot.ensures ∙ ap (λ (xs : List Slot). open_among xs 0) inv.4) in (
      inv.0 ∙ sym (ap (λ (u : View). u.duties.out) e.view),
      ap (λ (u : View). u.state) e.view ∙ inv.1,
      ap (λ (u : View). u.role) e.view ∙ inv.2,
      e.slots ∙ inv.3,
      slot_rephased v.duties k.slots s c.from-2.result Sealed inv.4 at ∙ sym (ap (λ (u : View). u.duties.slots) e.view),
      ap (λ (u : View). length u.duties.slots) e.view ∙ still_four v.duties s Sealed inv.5,
      (λ has. absurd (none_open shape v e.was inv.2 low (subst (λ (u : View). HasOpen u.duties) e.view has))),
      kept_then shape v c.seal.new.seat.me.0 s Sealed inv.7 e.met (ap (λ (u : View). u.role) e.view ∙ inv.2) low refl (ap (λ (u : View). u.duties.slots) e.view),
    )
