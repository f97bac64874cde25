use Rattle.line_text.proofs.Readings.{one_of}
use Rattle.play_script.proofs.OneReading.{reads_lines}
use Rattle.play_script.proofs.SoundLines.{Holds}
use Rattle.play_script.specs.Fault.{refusals}
use Rattle.play_script.specs.Reading.{reader}
use Rattle.play_script.specs.Script.{scripts}
use Rattle.play_script.proofs.laws.script_or_fault.Goals as goal

pub returns : goal.returns
returns c = one_of scripts refusals reader Holds reads_lines
