use Rattle.std.proofs.Common.{◌≡◌, ℕ, ◌∙◌, get_or, sym, refl, false, true, ap, subst, arith}
use Rattle.std.specs.Prelude.{Some}
use Rattle.spie_base.specs.declared.PageNo.{PageNo}
use Rattle.gate_core.specs.declared.steps.StepAnswer.TheVariants as answer
use Rattle.gate_core.specs.Kept.{DoesAct}
use Rattle.gate_core.specs.declared.steps.Act.TheVariants.{Enter}
use Rattle.gate_core.specs.Acts.{gate_place, page_of}
use Rattle.hash_family.specs.Positions.{family_of}
use Rattle.gate_core.proofs.Gates.{unsealed}
use Rattle.gate_core.proofs.RecordSteps.{record_refused}
use Rattle.gate_core.proofs.RecordPlane.{few_places, gate_within, family_there, looked_near}
use Rattle.gate_core.proofs.Enters.{has_not_looked, entered_visit, entered_inside}
use Rattle.gate_core.proofs.core_data.CoreData.enter.Goals as goal

pub returns-in_default : goal.returns-in_default
returns-in_default c =
    record_refused c.args.self.now c.refuse.new.self c.args.place c.state_at-state.result (Enter c.args.sig.now) c.refuse.result c.requires.holds c.requires.seat c.state_at-state.ensures
    (has_not_looked c.state_at-state.result c.in_default.not-Looked) c.refuse.ensures.kept c.refuse.ensures.answer

pub word_at-gate-requires : goal.word_at-gate-requires
word_at-gate-requires c = let e = gate_within c.args.self.now c.requires.holds c.in-Looked.slot (looked_near c.args.self.now c.requires.holds c.args.place c.requires.seat c.in-Looked.slot c.in-Looked.ensures) in let f = c.gate_at.ensures in omega arith

pub visit-requires-clause-few : goal.visit-requires-clause-few
visit-requires-clause-few c = few_places c.args.self.now c.requires.holds c.args.place c.requires.seat

pub go_inside-requires-clause-slot : goal.go_inside-requires-clause-slot
go_inside-requires-clause-slot c = looked_near c.args.self.now c.requires.holds c.args.place c.requires.seat c.in-Looked.slot c.in-Looked.ensures

pub go_inside-requires-clause-word : goal.go_inside-requires-clause-word
go_inside-requires-clause-word c = gate_within c.args.self.now c.requires.holds c.in-Looked.slot (looked_near c.args.self.now c.requires.holds c.args.place c.requires.seat c.in-Looked.slot c.in-Looked.ensures)

pub returns-then-is_sealed : goal.returns-then-is_sealed
returns-then-is_sealed c =
    entered_visit c.args.self.now c.visit.new.self c.args.place c.requires.holds c.requires.seat c.requires.room c.in-Looked.slot c.in-Looked.ensures
    c.word_at-gate.result (c.word_at-gate.ensures ∙ ap (λ (i : ℕ). get_or c.args.self.now.words.items i 0) c.gate_at.ensures) c.args.sig.now
    (c.if-is_sealed.ensures.0 refl) c.visit.ensures.seat c.visit.ensures.entries c.visit.ensures.visits

pub returns-else-is_sealed : goal.returns-else-is_sealed
returns-else-is_sealed c =
    let read : c.word_at-gate.result ≡ get_or c.args.self.now.words.items (gate_place c.in-Looked.slot) 0 = c.word_at-gate.ensures ∙ ap (λ (i : ℕ). get_or c.args.self.now.words.items i 0) c.gate_at.ensures in
    let family = family_there c.args.self.now c.requires.holds c.in-Looked.slot (looked_near c.args.self.now c.requires.holds c.args.place c.requires.seat c.in-Looked.slot c.in-Looked.ensures) ∙ ap (λ (n : ℕ). Some (family_of c.args.self.now.shape (page_of n))) (sym read) in
    subst (λ (page : PageNo). DoesAct c.args.self.now c.go_inside.new.self c.args.place (Enter c.args.sig.now) (answer.Entered page)) (sym c.page.ensures)
    (entered_inside c.args.self.now c.go_inside.new.self c.args.place c.requires.holds c.requires.seat c.requires.room c.in-Looked.slot c.in-Looked.ensures
    c.word_at-gate.result read c.args.sig.now (unsealed c.word_at-gate.result (λ e. let h : false ≡ true = c.if-is_sealed.ensures.1 e in cc))
    (c.go_inside.ensures.seat (family_of c.args.self.now.shape (page_of c.word_at-gate.result)) family) c.go_inside.ensures.entries c.go_inside.ensures.visits)
