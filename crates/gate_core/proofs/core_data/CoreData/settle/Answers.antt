use Rattle.std.proofs.Common.{ap, sym, ◌∙◌}
use Rattle.gate_core.specs.Views.{Slot}
use Rattle.gate_core.proofs.Settles.{few_seats, settle_done, settle_declined}
use Rattle.gate_core.proofs.core_data.CoreData.settle.Goals as goal

pub settle_slot-requires-clause-few_seats : goal.settle_slot-requires-clause-few_seats
settle_slot-requires-clause-few_seats c = few_seats c.args.self.now c.requires.holds

pub returns-in-Sealed : goal.returns-in-Sealed
returns-in-Sealed c =
    settle_done c.args.self.now c.settle_slot.new.self c.requires.holds c.requires.room c.args.slot c.requires.near
    (ap (λ (x : Slot). x.phase) (sym c.slot.ensures) ∙ c.in-Sealed.is) c.settle_slot.result c.settle_slot.ensures.others c.settle_slot.ensures.answer

pub returns-in_default : goal.returns-in_default
returns-in_default c =
    settle_declined c.args.self.now c.decline.new.self c.requires.holds c.args.slot c.decline.result
    (λ e. c.in_default.not-Sealed (ap (λ (x : Slot). x.phase) c.slot.ensures ∙ e)) c.decline.ensures.kept c.decline.ensures.answer
