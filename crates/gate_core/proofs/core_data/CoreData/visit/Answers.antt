use Rattle.std.proofs.Common.{◌≤◌, sym, subst, vec_len}
use Rattle.gate_core.specs.declared.view.Visit.{Visit}
use Rattle.gate_core.specs.declared.core_data.Log.{Log}
use Rattle.gate_core.proofs.RecordSteps.{own_few}
use Rattle.gate_core.proofs.core_data.CoreData.visit.Goals as goal

pub note-requires-clause-own : goal.note-requires-clause-own
note-requires-clause-own c = subst (λ (l : Log Visit). l.own ≤ vec_len l.items) (sym c.write.ensures.visits) (own_few c.args.self.now.visits c.args.self.now.room c.requires.visits)
