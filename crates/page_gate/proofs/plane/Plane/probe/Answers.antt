use Rattle.std.proofs.Common.{◌≡◌, ◌↔◌, false, List, length, sym, ap, ap₂, ◌∙◌, subst}
use Rattle.std.specs.Prelude.{IsTrue}
use Rattle.std.specs.List.{position_or_len}
use Rattle.atomic_table.specs.Table.{Me}
use Rattle.spie_base.specs.declared.PageShape.{PageShape}
use Rattle.gate_core.specs.declared.view.Slot.{Slot}
use Rattle.gate_core.specs.declared.view.View.{View}
use Rattle.gate_core.specs.Invariant.{HasPage}
use Rattle.gate_core.specs.PageWords.{stands_with}
use Rattle.page_gate.specs.Held.{PlaneId, Home, Held}
use Rattle.page_gate.specs.Pages.{phase_with}
use Rattle.page_gate.specs.Probes.{Probes, HaveAllMarks}
use Rattle.page_gate.specs.Steps.{Nothing, IsMet}
use Rattle.page_gate.proofs.Collecting.{readable}
use Rattle.page_gate.proofs.KeptSlots.{pointed_same, kept_same}
use Rattle.page_gate.proofs.Probing.{missing, answers}
use Rattle.page_gate.proofs.plane.Plane.probe.Goals as goal

pub are_set-requires-clause-slot : goal.are_set-requires-clause-slot
are_set-requires-clause-slot c = let k = c.keeper.inside in let inv = c.keeper.invariant in let v = k.seat.me.0 in let page = c.args.page.number in
    let stands = subst (λ (h : Held). HasPage (phase_with h.view.duties page)) (sym c.keeper.view_is) c.requires.stands in
    readable v page c.slot_with-slot.result inv.2 inv.1 inv.7 stands (c.slot_with-slot.ensures ∙ ap (λ (xs : List Slot). position_or_len (stands_with page) xs) inv.4)

pub invariant_of-keeper : goal.invariant_of-keeper
invariant_of-keeper c = let k = c.keeper.inside in let inv = c.keeper.invariant in let v = k.seat.me.0 in let shape = c.self.inside.words.shape in let page = c.args.page.number in let sig = c.args.sig.now in let w = c.are_set.new.seat.me.0 in
    let more = c.are_set.ensures.reads.0 in let same = c.are_set.ensures.reads.1 in let tells = c.are_set.ensures.reads.2 in let met = c.are_set.ensures.met in
    let is = ap (λ (m : Me Nothing View). m.0) same.2 in let here = ap (λ (x : PlaneId). x.shape) c.self.view_is in
    let role = ap (λ (u : View). u.role) is ∙ inv.2 in let slots = ap (λ (u : View). u.duties.slots) is in (
      inv.0 ∙ sym (ap (λ (u : View). u.duties.out) is),
      ap (λ (u : View). u.state) is ∙ inv.1,
      role,
      ap (λ (m : Me Nothing View). m.1) same.2 ∙ inv.3,
      inv.4 ∙ sym slots,
      ap (λ (xs : List Slot). length xs) slots ∙ inv.5,
      pointed_same shape v w met role slots (ap (λ (u : View). u.duties.pointed) is) inv.6,
      kept_same shape v w met role slots inv.7,
    )

pub returns-clause-reads : goal.returns-clause-reads
returns-clause-reads c = let k = c.keeper.inside in let inv = c.keeper.invariant in let v = k.seat.me.0 in let shape = c.self.inside.words.shape in let page = c.args.page.number in let sig = c.args.sig.now in let w = c.are_set.new.seat.me.0 in
    let more = c.are_set.ensures.reads.0 in let same = c.are_set.ensures.reads.1 in let tells = c.are_set.ensures.reads.2 in let met = c.are_set.ensures.met in
    let is = ap (λ (m : Me Nothing View). m.0) same.2 in let here = ap (λ (x : PlaneId). x.shape) c.self.view_is in
    subst (λ (h : Held). Probes c.args.self.now.shape page sig h (record { table = c.are_set.new.seat.table_id; view = w }) c.are_set.result) c.keeper.view_is
    (subst (λ (s : PageShape). Probes s page sig (record { table = k.seat.table_id; view = v }) (record { table = c.are_set.new.seat.table_id; view = w }) c.are_set.result) here
    (more, ap₂ (λ (t : Home) (u : View). record { table = t; view = u }) same.0 is, tells))

pub returns-clause-alone : goal.returns-clause-alone
returns-clause-alone c = let k = c.keeper.inside in let inv = c.keeper.invariant in let v = k.seat.me.0 in let shape = c.self.inside.words.shape in let page = c.args.page.number in let sig = c.args.sig.now in let w = c.are_set.new.seat.me.0 in
    let more = c.are_set.ensures.reads.0 in let same = c.are_set.ensures.reads.1 in let tells = c.are_set.ensures.reads.2 in let met = c.are_set.ensures.met in
    let is = ap (λ (m : Me Nothing View). m.0) same.2 in let here = ap (λ (x : PlaneId). x.shape) c.self.view_is in
    subst (λ (h : Held). h.view.duties.out ≡ 0 → IsTrue c.are_set.result ↔ HaveAllMarks c.args.self.now.shape h.view.entries page sig) c.keeper.view_is
    (subst (λ (s : PageShape). v.duties.out ≡ 0 → IsTrue c.are_set.result ↔ HaveAllMarks s v.entries page sig) here
    (λ none_out. answers shape v w page sig more inv.2 met is none_out inv.1 c.are_set.result tells))

pub returns-clause-missing : goal.returns-clause-missing
returns-clause-missing c = let k = c.keeper.inside in let inv = c.keeper.invariant in let v = k.seat.me.0 in let shape = c.self.inside.words.shape in let page = c.args.page.number in let sig = c.args.sig.now in let w = c.are_set.new.seat.me.0 in
    let more = c.are_set.ensures.reads.0 in let same = c.are_set.ensures.reads.1 in let tells = c.are_set.ensures.reads.2 in let met = c.are_set.ensures.met in
    let is = ap (λ (m : Me Nothing View). m.0) same.2 in let here = ap (λ (x : PlaneId). x.shape) c.self.view_is in
    subst (λ (h : Held). c.are_set.result ≡ false → HaveAllMarks c.args.self.now.shape h.view.entries page sig → ⊥) c.keeper.view_is
    (subst (λ (s : PageShape). c.are_set.result ≡ false → HaveAllMarks s v.entries page sig → ⊥) here
    (missing shape v w page sig more inv.2 met is c.are_set.result tells))

pub returns-clause-met : goal.returns-clause-met
returns-clause-met c = subst (λ (h : PageShape). IsMet h c.are_set.new.seat.me.0) (ap (λ (x : PlaneId). x.shape) c.self.view_is) c.are_set.ensures.met
