use Rattle.std.proofs.Common.{ℕ, List, Ok, Err, Result, IfOk}
use Rattle.trace_format.specs.Outcomes.{fault_in}
use Rattle.line_text.proofs.Answering.{is_text, is_fault, each_text, each_fault}
use Rattle.trace_format.specs.declared.refused.ReadTraceRefused.{ReadTraceRefused}
use Rattle.play_script.proofs.OneReading.{reads_lines}
use Rattle.play_script.proofs.SoundLines.{Holds, script_is_sound}
use Rattle.play_script.specs.Fault.{refusals}
use Rattle.play_script.specs.Reading.{reader, read_of}
use Rattle.play_script.specs.Script.{scripts, IsScript}
use Rattle.play_script.specs.Sound.{IsSound}
use Rattle.play_script.specs.declared.script.PlayScript.{PlayScript}
use Rattle.play_script.proofs.reader.read_play.Goals as goal

sound_by : (text : List ℕ) (answer : Result PlayScript ReadTraceRefused) → IfOk answer (λ script. IsScript text script) → IfOk answer IsSound
sound_by text (Ok script) h = script_is_sound text script h
sound_by text (Err e) h = tt

pub returns-clause-script : goal.returns-clause-script
unfolding read_of
returns-clause-script c = is_text scripts refusals reader Holds reads_lines fault_in c.args.text.now _ c.read_text.ensures

pub returns-clause-sound : goal.returns-clause-sound
unfolding read_of
returns-clause-sound c = sound_by c.args.text.now _ (is_text scripts refusals reader Holds reads_lines fault_in c.args.text.now _ c.read_text.ensures)

pub returns-clause-fault : goal.returns-clause-fault
unfolding read_of
returns-clause-fault c = is_fault scripts refusals reader Holds reads_lines fault_in c.args.text.now _ c.read_text.ensures

pub returns-clause-each_script : goal.returns-clause-each_script
unfolding read_of
returns-clause-each_script c = each_text scripts refusals reader Holds reads_lines fault_in c.args.text.now _ c.read_text.ensures

pub returns-clause-each_fault : goal.returns-clause-each_fault
unfolding read_of
returns-clause-each_fault c = each_fault scripts refusals reader Holds reads_lines fault_in c.args.text.now _ c.read_text.ensures
