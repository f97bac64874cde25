use Rattle.std.proofs.Common.{◌≡◌, ap, arith, slice_index}
use Rattle.std.proofs.lemmas.Grind.{common_steps}
use Rattle.gate_core.specs.declared.core_data.Desk.{Desk}
use Rattle.gate_core.specs.Acts.{bit_place}
use Rattle.gate_core.specs.Desks.{slot_in}
use Rattle.gate_core.specs.Views.{Slot}
use Rattle.gate_core.proofs.CollectedLists.{adds_word-same}
use Rattle.gate_core.proofs.core_data.CoreData.drain_slot.Goals as goal

pub returns-clause-added : goal.returns-clause-added
returns-clause-added c =
    let m = c.args.self.now in
    let page : c.slot-page.result.page ≡ (slot_in m.desk c.args.slot).page = ap (λ (x : Slot). x.page) c.slot-page.ensures in
    let word : c.index-word.result.now ≡ slice_index m.words.items (bit_place m.shape c.args.slot c.args.next) = grind (arith, common_steps) in
    adds_word-same m.desk.collected c.collect.new.self.collected c.set_phase.new.self.collected c.slot-page.result.page (slot_in m.desk c.args.slot).page c.index-word.result.now _
    (ap (λ (d : Desk). d.collected) c.set_phase.ensures) page word c.collect.ensures.added
