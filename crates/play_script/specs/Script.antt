-- The texts that are scripts.
use Rattle.std.specs.Prelude.{ℕ, ◌≤◌, ◌≡◌, List, length, Bool, true, false, nat_le}
use Rattle.trace_format.specs.Limits.{most_bytes, most_line_bytes}
use Rattle.play_script.specs.Limits.{most_steps}
use Rattle.line_text.specs.Language.{Grammar, IsText}
use Rattle.line_text.specs.Text.{fields}
use Rattle.play_script.specs.Before.{script_of}
use Rattle.play_script.specs.Said.{Said}
use Rattle.play_script.specs.Said as said
use Rattle.play_script.specs.Spelling.{Spells}
use Rattle.play_script.specs.Words.{stage_of, may_come, is_over}
use Rattle.play_script.specs.declared.script.PlayScript.{PlayScript}

-- one step more would be over the limit
abbrev pub is_over_limit : PlayScript → Said → Bool
is_over_limit far (said.Does step) = nat_le most_steps (length far.steps)
is_over_limit far _ = false

-- a line that says this, and may stand behind the lines before
pub record IsLine (before : List Said) (line : List ℕ) (said : Said) : Type 0 where
  pub short : length line ≤ most_line_bytes
  pub comes : may_come (stage_of before) said ≡ true
  pub spelled : Spells (script_of before) said (fields line)
  pub fits : is_over_limit (script_of before) said ≡ false

-- the lines of a script, of which `end` is the last, and the script that they say
abbrev pub scripts : Grammar Said PlayScript
scripts = record {
  IsLine = IsLine;
  is_over = λ said. is_over (stage_of said);
  value_of = script_of;
  most_bytes = most_bytes;
}

-- the text is the script's lines, of which the last is `end`, and nothing stands behind it
abbrev pub IsScript : List ℕ → PlayScript → Type 0
IsScript text script = IsText scripts text script
