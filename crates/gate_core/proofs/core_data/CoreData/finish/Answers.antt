use Rattle.std.proofs.Common.{◌≤◌, sym, subst, vec_len}
use Rattle.spie_base.specs.declared.types.Entry.{Entry}
use Rattle.gate_core.specs.declared.core_data.Log.{Log}
use Rattle.gate_core.proofs.RecordSteps.{own_few}
use Rattle.gate_core.proofs.core_data.CoreData.finish.Goals as goal

pub note-requires-clause-own : goal.note-requires-clause-own
note-requires-clause-own c = subst (λ (l : Log Entry). l.own ≤ vec_len l.items) (sym c.go_out-answer.ensures.entries) (own_few c.args.self.now.entries c.args.self.now.room c.requires.entries)
