use Rattle.std.proofs.Common.{sym, ◌∙◌, arith}
use Rattle.page_gate.specs.Rotated.{is_free_slot}
use Rattle.page_gate.proofs.SlotWith.{first_some, first_none, first_most}
use Rattle.page_gate.proofs.slots.free_slot.Goals as goal

pub returns-in-Some : goal.returns-in-Some
returns-in-Some c = first_some is_free_slot c.args.slots.now c.in-Some.slot (sym c.in-Some.is ∙ c.free_place.ensures)

pub returns-in-None : goal.returns-in-None
returns-in-None c = let low = first_none is_free_slot c.args.slots.now (sym c.in-None.is ∙ c.free_place.ensures) in let most = first_most is_free_slot c.args.slots.now in let four = c.told-slots in omega arith
