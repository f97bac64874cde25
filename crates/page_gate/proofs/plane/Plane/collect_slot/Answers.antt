use Rattle.std.proofs.Common.{◌≡◌, ◌<◌, ℕ, length, sym, refl, ap, ◌∙◌, subst}
use Rattle.atomic_table.specs.Table.{Me}
use Rattle.spie_base.specs.declared.PageShape.{PageShape}
use Rattle.gate_core.specs.declared.states.SlotPhase.TheVariants.{Free, Open}
use Rattle.gate_core.specs.declared.view.View.{View}
use Rattle.gate_core.specs.Views.{slot_at}
use Rattle.gate_core.specs.Acts.{IsQuiet}
use Rattle.gate_core.proofs.Drawn.{quiet_stands}
use Rattle.page_gate.specs.Held.{PlaneId, Held}
use Rattle.page_gate.specs.Slots.{StaysOpen}
use Rattle.page_gate.specs.Steps.{Nothing, IsMet}
use Rattle.page_gate.specs.Pages.{slot_with, phase_with}
use Rattle.page_gate.proofs.Collecting.{has_list, quiet_shut}
use Rattle.page_gate.proofs.KeptSlots.{stays_open, pointed_then, kept_then}
use Rattle.page_gate.proofs.SealedSlots.{slot_rephased, still_four}
use Rattle.page_gate.proofs.plane.Plane.collect_slot.Goals as goal

pub invariant_of-keeper-2 : goal.invariant_of-keeper-2
invariant_of-keeper-2 c = let k = c.keeper.inside in let inv = c.keeper.invariant in let v = k.seat.me.0 in let shape = c.self.inside.words.shape in let s = c.args.slot in let page = c.args.page.number in let w = c.drain_all.new.seat.me.0 in
    let same = c.in_ok-words.ensures.drained.2 in
    let is = ap (λ (m : Me Nothing View). m.0) same in
    let quiet = subst (λ (h : Held). IsQuiet (phase_with h.view.duties page)) (sym c.keeper.view_is) c.requires.quiet in
    let at : s ≡ slot_with v.duties page = c.requires.slot ∙ ap (λ (h : Held). slot_with h.view.duties page) (sym c.keeper.view_is) in
    let near : s < 4 = subst (λ (n : ℕ). n < 4) (sym at) (has_list v.duties page inv.7 (quiet_stands (phase_with v.duties page) quiet)).0 in
    let role = ap (λ (u : View). u.role) is ∙ inv.2 in
    let slots = ap (λ (u : View). u.duties.slots) is in (
      inv.0 ∙ sym (ap (λ (u : View). u.duties.out) is),
      ap (λ (u : View). u.state) is ∙ inv.1,
      role,
      ap (λ (m : Me Nothing View). m.1) same ∙ inv.3,
      slot_rephased v.duties k.slots s c.from.result Free inv.4 c.from.ensures ∙ sym slots,
      ap (λ (u : View). length u.duties.slots) is ∙ still_four v.duties s Free inv.5,
      pointed_then shape v w s Free inv.7 c.in_ok-words.ensures.met role near refl slots (λ f. cc) (ap (λ (u : View). u.duties.pointed) is) inv.6,
      kept_then shape v w s Free inv.7 c.in_ok-words.ensures.met role near refl slots,
    )

pub returns-clause-met : goal.returns-clause-met
returns-clause-met c = subst (λ (h : PageShape). IsMet h c.drain_all.new.seat.me.0) (ap (λ (x : PlaneId). x.shape) c.self.view_is) c.in_ok-words.ensures.met

pub returns-clause-open : goal.returns-clause-open
returns-clause-open c = let k = c.keeper.inside in let inv = c.keeper.invariant in let v = k.seat.me.0 in let shape = c.self.inside.words.shape in let s = c.args.slot in let page = c.args.page.number in let w = c.drain_all.new.seat.me.0 in
    let is = ap (λ (m : Me Nothing View). m.0) c.in_ok-words.ensures.drained.2 in
    let quiet = subst (λ (h : Held). IsQuiet (phase_with h.view.duties page)) (sym c.keeper.view_is) c.requires.quiet in
    let at : s ≡ slot_with v.duties page = c.requires.slot ∙ ap (λ (h : Held). slot_with h.view.duties page) (sym c.keeper.view_is) in
    let near : s < 4 = subst (λ (n : ℕ). n < 4) (sym at) (has_list v.duties page inv.7 (quiet_stands (phase_with v.duties page) quiet)).0 in
    let role = ap (λ (u : View). u.role) is ∙ inv.2 in let slots = ap (λ (u : View). u.duties.slots) is in
    let shut = subst (λ (n : ℕ). ¬ ((slot_at v.duties n).phase ≡ Open)) (sym at) (quiet_shut (phase_with v.duties page) quiet) in
    subst (λ (h : Held). StaysOpen h.view.duties w.duties) c.keeper.view_is
    (stays_open v.duties w.duties s Free inv.7 (kept_then shape v w s Free inv.7 c.in_ok-words.ensures.met role near refl slots) near shut slots)
