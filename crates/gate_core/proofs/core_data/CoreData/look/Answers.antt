use Rattle.gate_core.proofs.RecordSteps.{record_refused}
use Rattle.gate_core.proofs.Looks.{can_look, cannot_look, looked}
use Rattle.gate_core.specs.declared.steps.Act.TheVariants.{Look}
use Rattle.gate_core.proofs.core_data.CoreData.look.Goals as goal

pub returns-in-Idle : goal.returns-in-Idle
returns-in-Idle c =
    looked c.args.self.now c.turn.new.self c.args.place c.requires.holds c.requires.seat c.requires.room c.state_at-state.result c.state_at-state.ensures
    (can_look c.state_at-state.result c.in-Idle.is) c.word_at-slot.result c.word_at-slot.ensures c.turn.ensures.seat c.turn.ensures.entries c.turn.ensures.visits

pub returns-in_default : goal.returns-in_default
returns-in_default c =
    record_refused c.args.self.now c.refuse.new.self c.args.place c.state_at-state.result Look c.refuse.result c.requires.holds c.requires.seat c.state_at-state.ensures
    (cannot_look c.state_at-state.result c.in_default.not-Idle c.in_default.not-Looked) c.refuse.ensures.kept c.refuse.ensures.answer
