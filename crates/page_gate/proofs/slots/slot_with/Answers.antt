use Rattle.std.proofs.Common.{sym, ◌∙◌, arith}
use Rattle.gate_core.specs.PageWords.{stands_with}
use Rattle.page_gate.proofs.SlotWith.{first_some, first_none, first_most}
use Rattle.page_gate.proofs.slots.slot_with.Goals as goal

pub returns-in-Some : goal.returns-in-Some
returns-in-Some c = first_some (stands_with c.args.page) c.args.slots.now c.in-Some.slot (sym c.in-Some.is ∙ c.place_with.ensures)

pub returns-in-None : goal.returns-in-None
returns-in-None c = let low = first_none (stands_with c.args.page) c.args.slots.now (sym c.in-None.is ∙ c.place_with.ensures) in let most = first_most (stands_with c.args.page) c.args.slots.now in let four = c.told-slots in omega arith
