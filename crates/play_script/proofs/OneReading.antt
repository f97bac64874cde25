-- Each line of a script is read as what it says, and so each text as what it is.
use Rattle.std.proofs.Common.{◌≡◌, refl, true, false}
use Rattle.line_text.specs.Reading.{ReadsLines}
use Rattle.play_script.proofs.Sole.{line_sole}
use Rattle.play_script.proofs.SoundLines.{Holds, holds, at_first, holds_narrow}
use Rattle.play_script.proofs.Taken.{line_meets, line_again}
use Rattle.play_script.specs.Fault.{refusals}
use Rattle.play_script.specs.Reading.{reader}
use Rattle.play_script.specs.Said.{Said}
use Rattle.play_script.specs.Script.{scripts}
use Rattle.play_script.specs.Words.{stage_of, may_come, is_over}
use Rattle.play_script.specs.declared.words.Stage.{Stage}
use Rattle.play_script.specs.declared.words.Stage.TheVariants as stage

not_over : (here : Stage) (s : Said) → may_come here s ≡ true → is_over here ≡ false
not_over stage.Version s e = refl
not_over stage.Core s e = refl
not_over stage.Steps s e = refl
not_over stage.Over s e = absurd (cc)

pub reads_lines : ReadsLines scripts refusals reader Holds
reads_lines = record {
  begins = at_first;
  stays = holds;
  over = λ said. refl;
  counts = λ said. refl;
  values = λ said. refl;
  before_end = λ before line s l. not_over (stage_of before) s l.comes;
  meets = λ before line h o. line_meets before line (holds_narrow before h) o;
  again = λ before line s h l. line_again before line s (holds_narrow before h) l;
  sole = λ before line rule h o b. line_sole before line rule (holds_narrow before h) o b;
}
