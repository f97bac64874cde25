use Rattle.gate_core.proofs.Stays.{entries_stay, marks_stay}
use Rattle.gate_core.proofs.laws.runs_keep_entries.Goals as goal

pub returns : goal.returns
returns c = record {
  entries = λ shape plane end moves i v run at. entries_stay shape plane moves end run i v at;
  marks = λ shape plane end moves page p run h. marks_stay shape plane moves end run page p h;
}
