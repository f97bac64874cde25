use Rattle.gate_core.specs.declared.states.PassState.TheVariants.{Inside, Visiting}
use Rattle.gate_core.specs.declared.steps.Act.TheVariants.{Leave}
use Rattle.gate_core.proofs.RecordSteps.{record_refused}
use Rattle.gate_core.proofs.RecordPlane.{few_places, gate_within, state_fits}
use Rattle.gate_core.proofs.Leaves.{cannot_leave, finished_left, visit_left}
use Rattle.gate_core.proofs.core_data.CoreData.leave.Goals as goal

pub finish-requires-clause-few : goal.finish-requires-clause-few
finish-requires-clause-few c = few_places c.args.self.now c.requires.holds c.args.place c.requires.seat

pub finish-requires-clause-word : goal.finish-requires-clause-word
finish-requires-clause-word c = gate_within c.args.self.now c.requires.holds c.in-Inside.slot
    (state_fits c.args.self.now c.requires.holds c.args.place c.requires.seat (Inside c.in-Inside.slot c.in-Inside.page c.in-Inside.sig c.in-Inside.set) c.in-Inside.ensures).0

pub go_out-requires-clause-word : goal.go_out-requires-clause-word
go_out-requires-clause-word c = gate_within c.args.self.now c.requires.holds c.in-Visiting.slot
    (state_fits c.args.self.now c.requires.holds c.args.place c.requires.seat (Visiting c.in-Visiting.slot c.in-Visiting.gate) c.in-Visiting.ensures).0

pub returns-then-set-self : goal.returns-then-set-self
returns-then-set-self c =
    finished_left c.args.self.now c.finish.new.self c.args.place c.requires.holds c.requires.seat c.requires.room
    c.in-Inside.slot c.in-Inside.page c.in-Inside.sig c.in-Inside.set c.in-Inside.ensures c.if-set-self.true
    c.finish.ensures.seat c.finish.ensures.entries c.finish.ensures.visits c.finish.result c.finish.ensures.left

pub returns-else-set-self : goal.returns-else-set-self
returns-else-set-self c =
    record_refused c.args.self.now c.refuse.new.self c.args.place (Inside c.in-Inside.slot c.in-Inside.page c.in-Inside.sig c.in-Inside.set) Leave c.refuse.result
    c.requires.holds c.requires.seat c.in-Inside.ensures c.if-set-self.false c.refuse.ensures.kept c.refuse.ensures.answer

pub returns-in-Visiting : goal.returns-in-Visiting
returns-in-Visiting c =
    visit_left c.args.self.now c.go_out.new.self c.args.place c.requires.holds c.requires.seat c.requires.room
    c.in-Visiting.slot c.in-Visiting.gate c.in-Visiting.ensures
    c.go_out.ensures.seat c.go_out.ensures.entries c.go_out.ensures.visits c.go_out.result c.go_out.ensures.left

pub returns-in_default : goal.returns-in_default
returns-in_default c =
    record_refused c.args.self.now c.refuse-in_default.new.self c.args.place c.state_at-state.result Leave c.refuse-in_default.result c.requires.holds c.requires.seat c.state_at-state.ensures
    (cannot_leave c.args.self.now.shape c.state_at-state.result c.in_default.not-Inside c.in_default.not-Visiting) c.refuse-in_default.ensures.kept c.refuse-in_default.ensures.answer
