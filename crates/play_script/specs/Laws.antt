-- What holds of every script.
use Rattle.std.specs.Prelude.{ℕ, ◌≡◌, List}
use Rattle.line_text.specs.Language.{IsOneOf}
use Rattle.play_script.specs.Fault.{IsFault}
use Rattle.play_script.specs.Report.{IsReport}
use Rattle.play_script.specs.Script.{IsScript}
use Rattle.play_script.specs.declared.script.PlayScript.{PlayScript}

-- the text is a script, and of one script only, or has a first fault, and no other
abbrev pub IsEither : List ℕ → Type 0
IsEither text = IsOneOf (λ script. IsScript text script) (λ fault. IsFault text fault)

-- a script has one report
abbrev pub HasOneReport : Type 0
HasOneReport = (script : PlayScript) (report other : List ℕ) → IsReport script report → IsReport script other → report ≡ other
