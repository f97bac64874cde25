use Rattle.std.proofs.Common.{ap, sym, ◌∙◌}
use Rattle.gate_core.specs.Views.{Slot}
use Rattle.gate_core.proofs.Drains.{next_fits, word_within, page_within, page_has_room, drain_done, drain_declined}
use Rattle.gate_core.proofs.core_data.CoreData.drain.Goals as goal

pub drain_slot-requires-clause-words : goal.drain_slot-requires-clause-words
drain_slot-requires-clause-words c = word_within c.args.self.now c.requires.holds c.args.slot c.in-Quiet.next c.requires.near (ap (λ (x : Slot). x.phase) (sym c.slot.ensures) ∙ c.in-Quiet.is)

pub drain_slot-requires-clause-next : goal.drain_slot-requires-clause-next
drain_slot-requires-clause-next c = next_fits c.args.self.now c.requires.holds c.args.slot c.in-Quiet.next c.requires.near (ap (λ (x : Slot). x.phase) (sym c.slot.ensures) ∙ c.in-Quiet.is)

pub drain_slot-requires-clause-page : goal.drain_slot-requires-clause-page
drain_slot-requires-clause-page c = page_within c.args.self.now c.requires.holds c.args.slot c.in-Quiet.next c.requires.near (ap (λ (x : Slot). x.phase) (sym c.slot.ensures) ∙ c.in-Quiet.is)

pub drain_slot-requires-clause-page_room : goal.drain_slot-requires-clause-page_room
drain_slot-requires-clause-page_room c = page_has_room c.args.self.now c.requires.holds c.args.slot c.in-Quiet.next c.requires.near (ap (λ (x : Slot). x.phase) (sym c.slot.ensures) ∙ c.in-Quiet.is)

pub returns-in-Quiet : goal.returns-in-Quiet
returns-in-Quiet c =
    drain_done c.args.self.now c.drain_slot.new.self c.requires.holds c.requires.room c.args.slot c.requires.near c.drain_slot.result
    c.in-Quiet.next (ap (λ (x : Slot). x.phase) (sym c.slot.ensures) ∙ c.in-Quiet.is) c.drain_slot.ensures.others c.drain_slot.ensures.words c.drain_slot.ensures.added c.drain_slot.ensures.answer

pub returns-in_default : goal.returns-in_default
returns-in_default c =
    drain_declined c.args.self.now c.decline.new.self c.requires.holds c.args.slot c.decline.result
    (λ next e. c.in_default.not-Quiet next (ap (λ (x : Slot). x.phase) c.slot.ensures ∙ e)) c.decline.ensures.kept c.decline.ensures.answer
