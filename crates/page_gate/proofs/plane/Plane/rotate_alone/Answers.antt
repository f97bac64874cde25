use Rattle.std.proofs.Common.{◌≡◌, ◌∙◌, ◌+◌, ◌<◌, ◌≤◌, ℕ, List, length, get_or, true, sym, ap, subst, length-set}
use Rattle.atomic_table.specs.Table.{Me}
use Rattle.spie_base.specs.declared.PageShape.{PageShape}
use Rattle.gate_core.specs.declared.states.SlotPhase.TheVariants.{Open, Sealed}
use Rattle.gate_core.specs.declared.view.View.{View}
use Rattle.gate_core.specs.declared.view.Slot.{Slot}
use Rattle.gate_core.specs.Views.{no_slot, slot_at}
use Rattle.gate_core.specs.Acts.{open_slot, in_phase}
use Rattle.page_gate.specs.Held.{PlaneId, Held}
use Rattle.page_gate.specs.Slots.{HasOpen, free_count}
use Rattle.page_gate.specs.Steps.{Nothing, IsMet}
use Rattle.page_gate.proofs.Rotating.{free_there, next_there, rotated_here, rotated_kept, rotated_slots}
use Rattle.page_gate.proofs.SealedSlots.{still_four}
use Rattle.page_gate.proofs.plane.Plane.rotate_alone.Goals as goal

pub bounds-keeper-inside-from-2 : goal.bounds-keeper-inside-from-2
bounds-keeper-inside-from-2 c = let k = c.keeper.inside in let inv = c.keeper.invariant in let v = k.seat.me.0 in let d = v.duties in
    let low : open_slot d < 4 = subst (λ (h : Held). HasOpen h.view.duties) (sym c.keeper.view_is) c.requires.open in
    let some : 1 ≤ free_count d = subst (λ (h : Held). 1 ≤ free_count h.view.duties) (sym c.keeper.view_is) c.requires.free in
    let to = free_there d k.slots inv.7 inv.4 c.free_slot-to.result c.free_slot-to.ensures some in
    let from = next_there d k.slots inv.7 inv.4 c.open_slot-from.result c.open_slot-from.ensures low in
    subst (λ (n : ℕ). n < 4) (sym c.from-2.ensures) to.1

pub rotate-requires-clause-to : goal.rotate-requires-clause-to
rotate-requires-clause-to c = let k = c.keeper.inside in let inv = c.keeper.invariant in let v = k.seat.me.0 in let d = v.duties in
    let low : open_slot d < 4 = subst (λ (h : Held). HasOpen h.view.duties) (sym c.keeper.view_is) c.requires.open in
    let some : 1 ≤ free_count d = subst (λ (h : Held). 1 ≤ free_count h.view.duties) (sym c.keeper.view_is) c.requires.free in
    let to = free_there d k.slots inv.7 inv.4 c.free_slot-to.result c.free_slot-to.ensures some in
    let from = next_there d k.slots inv.7 inv.4 c.open_slot-from.result c.open_slot-from.ensures low in
    (to.1, to.2)

pub rotate-requires-clause-pages : goal.rotate-requires-clause-pages
rotate-requires-clause-pages c = let k = c.keeper.inside in let inv = c.keeper.invariant in let v = k.seat.me.0 in let d = v.duties in
    let low : open_slot d < 4 = subst (λ (h : Held). HasOpen h.view.duties) (sym c.keeper.view_is) c.requires.open in
    let some : 1 ≤ free_count d = subst (λ (h : Held). 1 ≤ free_count h.view.duties) (sym c.keeper.view_is) c.requires.free in
    let to = free_there d k.slots inv.7 inv.4 c.free_slot-to.result c.free_slot-to.ensures some in
    let from = next_there d k.slots inv.7 inv.4 c.open_slot-from.result c.open_slot-from.ensures low in
    let next : (get_or k.slots c.from.result no_slot).page + 1 ≡ d.next = ap (λ (n : ℕ). (get_or k.slots n no_slot).page + 1) c.from.ensures ∙ from.1 in
    let fits = subst (λ (h : Held). h.view.duties.next + 1 < 4294967296) (sym c.keeper.view_is) c.requires.fits in (
      ap (λ (n : ℕ). (get_or k.slots n no_slot).page) c.from-2.ensures ∙ ap (λ (xs : List Slot). (get_or xs c.free_slot-to.result no_slot).page) inv.4,
      next,
      subst (λ (n : ℕ). n + 1 < 4294967296) (sym next) fits,
    )

pub bounds-keeper-inside-from-4 : goal.bounds-keeper-inside-from-4
bounds-keeper-inside-from-4 c = let k = c.keeper.inside in let inv = c.keeper.invariant in let v = k.seat.me.0 in let d = v.duties in
    let low : open_slot d < 4 = subst (λ (h : Held). HasOpen h.view.duties) (sym c.keeper.view_is) c.requires.open in
    let some : 1 ≤ free_count d = subst (λ (h : Held). 1 ≤ free_count h.view.duties) (sym c.keeper.view_is) c.requires.free in
    let to = free_there d k.slots inv.7 inv.4 c.free_slot-to.result c.free_slot-to.ensures some in
    let from = next_there d k.slots inv.7 inv.4 c.open_slot-from.result c.open_slot-from.ensures low in
    subst (λ (n : ℕ). n < 4) (sym c.from-4.ensures) to.1

pub invariant_of-keeper : goal.invariant_of-keeper
invariant_of-keeper c = let k = c.keeper.inside in let inv = c.keeper.invariant in let v = k.seat.me.0 in let d = v.duties in
    let low : open_slot d < 4 = subst (λ (h : Held). HasOpen h.view.duties) (sym c.keeper.view_is) c.requires.open in
    let some : 1 ≤ free_count d = subst (λ (h : Held). 1 ≤ free_count h.view.duties) (sym c.keeper.view_is) c.requires.free in
    let to = free_there d k.slots inv.7 inv.4 c.free_slot-to.result c.free_slot-to.ensures some in
    let from = next_there d k.slots inv.7 inv.4 c.open_slot-from.result c.open_slot-from.ensures low in
    let shape = c.self.inside.words.shape in let w = c.rotate.new.seat.me.0 in let s = c.free_slot-to.result in
    let same = c.rotate.ensures.rotated.2 in
    let is = ap (λ (m : Me Nothing View). m.0) same in
    let met = c.rotate.ensures.met in
    let here = rotated_here shape v w s met inv.2 to.1 is in
    let next : (get_or k.slots c.from.result no_slot).page + 1 ≡ d.next = ap (λ (n : ℕ). (get_or k.slots n no_slot).page + 1) c.from.ensures ∙ from.1 in
    let slots = ap (λ (u : View). u.duties.slots) is in (
      inv.0 ∙ sym (ap (λ (u : View). u.duties.out) is),
      ap (λ (u : View). u.state) is ∙ inv.1,
      ap (λ (u : View). u.role) is ∙ inv.2,
      ap (λ (m : Me Nothing View). m.1) same ∙ inv.3,
      rotated_slots d k.slots c.from-3.result c.from-4.result s _ inv.4 (c.from-3.ensures ∙ from.0) c.from-4.ensures next ∙ sym slots,
      ap (λ (xs : List Slot). length xs) slots ∙ (length-set (in_phase d (open_slot d) Sealed).slots s (record { phase = Open; page = d.next; used = true }) ∙ still_four d (open_slot d) Sealed inv.5),
      (λ _. ap (λ (u : View). u.duties.pointed) is ∙ sym here.0),
      rotated_kept shape v w s met inv.2 low to.1 inv.7 is,
    )

pub returns-clause-page : goal.returns-clause-page
returns-clause-page c = let k = c.keeper.inside in let inv = c.keeper.invariant in let v = k.seat.me.0 in let d = v.duties in
    let low : open_slot d < 4 = subst (λ (h : Held). HasOpen h.view.duties) (sym c.keeper.view_is) c.requires.open in
    let some : 1 ≤ free_count d = subst (λ (h : Held). 1 ≤ free_count h.view.duties) (sym c.keeper.view_is) c.requires.free in
    let to = free_there d k.slots inv.7 inv.4 c.free_slot-to.result c.free_slot-to.ensures some in
    let from = next_there d k.slots inv.7 inv.4 c.open_slot-from.result c.open_slot-from.ensures low in
    ap (λ (n : ℕ). (get_or k.slots n no_slot).page + 1) c.from.ensures ∙ from.1 ∙ ap (λ (h : Held). h.view.duties.next) c.keeper.view_is

pub returns-clause-open : goal.returns-clause-open
returns-clause-open c = let k = c.keeper.inside in let inv = c.keeper.invariant in let v = k.seat.me.0 in let d = v.duties in
    let low : open_slot d < 4 = subst (λ (h : Held). HasOpen h.view.duties) (sym c.keeper.view_is) c.requires.open in
    let some : 1 ≤ free_count d = subst (λ (h : Held). 1 ≤ free_count h.view.duties) (sym c.keeper.view_is) c.requires.free in
    let to = free_there d k.slots inv.7 inv.4 c.free_slot-to.result c.free_slot-to.ensures some in
    let from = next_there d k.slots inv.7 inv.4 c.open_slot-from.result c.open_slot-from.ensures low in
    let shape = c.self.inside.words.shape in let w = c.rotate.new.seat.me.0 in let s = c.free_slot-to.result in
    let same = c.rotate.ensures.rotated.2 in
    let is = ap (λ (m : Me Nothing View). m.0) same in
    let met = c.rotate.ensures.met in
    let here = rotated_here shape v w s met inv.2 to.1 is in
    subst (λ (n : ℕ). n < 4) (sym here.0) to.1

pub returns-clause-current : goal.returns-clause-current
returns-clause-current c = let k = c.keeper.inside in let inv = c.keeper.invariant in let v = k.seat.me.0 in let d = v.duties in
    let low : open_slot d < 4 = subst (λ (h : Held). HasOpen h.view.duties) (sym c.keeper.view_is) c.requires.open in
    let some : 1 ≤ free_count d = subst (λ (h : Held). 1 ≤ free_count h.view.duties) (sym c.keeper.view_is) c.requires.free in
    let to = free_there d k.slots inv.7 inv.4 c.free_slot-to.result c.free_slot-to.ensures some in
    let from = next_there d k.slots inv.7 inv.4 c.open_slot-from.result c.open_slot-from.ensures low in
    let shape = c.self.inside.words.shape in let w = c.rotate.new.seat.me.0 in let s = c.free_slot-to.result in
    let same = c.rotate.ensures.rotated.2 in
    let is = ap (λ (m : Me Nothing View). m.0) same in
    let met = c.rotate.ensures.met in
    let here = rotated_here shape v w s met inv.2 to.1 is in
    ap (λ (n : ℕ). (slot_at w.duties n).page) here.0 ∙ ap (λ (x : Slot). x.page) here.1
    ∙ sym (ap (λ (n : ℕ). (get_or k.slots n no_slot).page + 1) c.from.ensures ∙ from.1)

pub returns-clause-met : goal.returns-clause-met
returns-clause-met c = subst (λ (h : PageShape). IsMet h c.rotate.new.seat.me.0) (ap (λ (x : PlaneId). x.shape) c.self.view_is) c.rotate.ensures.met
