use Rattle.std.proofs.Common.{sym, ap, ◌∙◌, not, refl}
use Rattle.data_agent.proofs.Passing.{IsCount, counted, due_none, due_none_by_marks, due_some}
use Rattle.data_agent.proofs.Planes.{count_is, count_needs, kept_shape}
use Rattle.data_agent.proofs.agent.Agent.due_bits.Goals as goal

pub fill_page-bits-requires-clause-stands : goal.fill_page-bits-requires-clause-stands
fill_page-bits-requires-clause-stands c = let (rules, l, s) = c.requires.stands in count_needs c.args.plane.now c.args.self.now rules l c.requires.own s

pub returns-then-is_none-clause-bits : goal.returns-then-is_none-clause-bits
returns-then-is_none-clause-bits c = due_none_by_marks c.args.self.now c.args.clock (sym c.due.ensures.exact ∙ c.is_none.ensures ∙ ap not c.if-is_none.true)

pub returns-then-is_none-2-clause-bits : goal.returns-then-is_none-2-clause-bits
returns-then-is_none-2-clause-bits c =
    let count : IsCount c.args.self.now c.fill_page-bits.result = count_is c.args.plane.now c.args.self.now c.fill_page-bits.result c.requires.own c.fill_page-bits.ensures.count in
    due_none c.args.self.now c.args.self.now c.args.clock c.fill_page-bits.result count refl (sym c.due-2.ensures.exact ∙ c.is_none-2.ensures ∙ ap not c.if-is_none-2.true)

pub returns-clause-bits : goal.returns-clause-bits
returns-clause-bits c =
    let count : IsCount c.args.self.now c.fill_page-bits.result = count_is c.args.plane.now c.args.self.now c.fill_page-bits.result c.requires.own c.fill_page-bits.ensures.count in
    due_some c.args.self.now c.args.self.now c.args.clock c.fill_page-bits.result count refl (sym c.due-2.ensures.exact ∙ c.is_none-2.ensures ∙ ap not c.if-is_none-2.false)

pub returns-then-is_none-2-clause-same : goal.returns-then-is_none-2-clause-same
returns-then-is_none-2-clause-same c =
    counted c.args.self.now c.fill_page-bits.new.keeper c.fill_page-bits.result (count_is c.args.plane.now c.args.self.now c.fill_page-bits.result c.requires.own c.fill_page-bits.ensures.count)
    (kept_shape c.args.plane.now c.args.self.now c.fill_page-bits.new.keeper c.requires.own c.fill_page-bits.ensures.same)

pub returns-clause-same : goal.returns-clause-same
returns-clause-same c =
    counted c.args.self.now c.fill_page-bits.new.keeper c.fill_page-bits.result (count_is c.args.plane.now c.args.self.now c.fill_page-bits.result c.requires.own c.fill_page-bits.ensures.count)
    (kept_shape c.args.plane.now c.args.self.now c.fill_page-bits.new.keeper c.requires.own c.fill_page-bits.ensures.same)
