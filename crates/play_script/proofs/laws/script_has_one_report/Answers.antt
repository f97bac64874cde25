use Rattle.std.proofs.Common.{length, sym, ap₂, ◌∙◌}
use Rattle.gate_core.specs.Start.{start_of}
use Rattle.gate_core.proofs.PlayFacts.{one_end}
use Rattle.play_script.specs.Report.{play_report}
use Rattle.play_script.proofs.laws.script_has_one_report.Goals as goal

pub returns : goal.returns
returns c = λ script report other (state, replies, done, is) (state', replies', done', is').
    let same = one_end (record (start_of script.shape script.passes) { room = length script.steps }) script.steps state state' replies replies' done done' in
    is ∙ ap₂ play_report same.0 same.1 ∙ sym is'
