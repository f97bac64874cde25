-- The first fault of a text: the first line that breaks a rule, and the first rule that it breaks.
use Rattle.std.specs.Prelude.{ℕ, ◌≤◌, ◌<◌, ◌≡◌, ◌≢◌, List, [], ◌∷◌, length, true, codes}
use Rattle.trace_format.specs.Fault.{refusals_by}
use Rattle.trace_format.specs.Limits.{most_line_bytes}
use Rattle.line_text.specs.Language as first
use Rattle.line_text.specs.Language.{Refusals}
use Rattle.line_text.specs.Text.{fields}
use Rattle.trace_format.specs.declared.refused.TraceRefused.{TraceRefused}
use Rattle.trace_format.specs.declared.refused.WhyRefused.{WhyRefused}
use Rattle.trace_format.specs.declared.refused.WhyRefused.TheVariants as why
use Rattle.play_script.specs.Before.{script_of}
use Rattle.play_script.specs.Said.{Said}
use Rattle.play_script.specs.Script.{scripts, is_over_limit}
use Rattle.play_script.specs.Spelling.{Spells}
use Rattle.play_script.specs.Words as words
use Rattle.play_script.specs.Words.{word_text, stage_of, may_come}
use Rattle.play_script.specs.declared.script.PlayScript.{PlayScript}
use Rattle.play_script.specs.declared.words.Stage.{Stage}
use Rattle.play_script.specs.declared.words.Stage.TheVariants as stage
use Rattle.play_script.specs.declared.words.Word.{Word}

-- the forms of lines
pub data Form : Type 0 where
  Version : Form
  Core : Form
  Does : (w : Word) → Form
  End : Form

-- the number of fields of a form
abbrev pub arity : Form → ℕ
arity Version = 2
arity Core = 5
arity (Does w) = words.arity w
arity End = 1

-- the fields have the word of a form that may stand here: the first line by its first field, the second likewise,
-- each other by its second field, and the last line by its only field
abbrev pub HasWord : Stage → Form → List (List ℕ) → Type 0
HasWord stage.Version Version fields = (more : List (List ℕ)) × (fields ≡ codes "spie-play" ∷ more)
HasWord stage.Core Core fields = (more : List (List ℕ)) × (fields ≡ codes "core" ∷ more)
HasWord stage.Steps (Does w) fields = (who : List ℕ) × (more : List (List ℕ)) × (fields ≡ who ∷ word_text w ∷ more)
HasWord stage.Steps End fields = fields ≡ codes "end" ∷ []
HasWord _ _ fields = ⊥

abbrev pub HasNoWord : Stage → List (List ℕ) → Type 0
HasNoWord here fields = (form : Form) → HasWord here form fields → ⊥

-- a word that may stand here, with another number of fields than its form has
pub record IsMiscounted (here : Stage) (fields : List (List ℕ)) : Type 0 where
  pub form : Form
  pub has_word : HasWord here form fields
  pub other : length fields ≢ arity form

-- a word that may stand here, with the right number of fields, of which one is not of its form
pub record IsMisformed (here : Stage) (far : PlayScript) (fields : List (List ℕ)) : Type 0 where
  pub form : Form
  pub has_word : HasWord here form fields
  pub count : length fields ≡ arity form
  pub nothing : (said : Said) → may_come here said ≡ true → Spells far said fields → ⊥

-- a line of its form, over the limit of steps
pub record IsOneTooMany (here : Stage) (far : PlayScript) (fields : List (List ℕ)) : Type 0 where
  pub said : Said
  pub comes : may_come here said ≡ true
  pub spelled : Spells far said fields
  pub over : is_over_limit far said ≡ true

-- the first rule that the fields of a line break, behind lines that go and say so far
abbrev pub FieldsBreak : Stage → PlayScript → List (List ℕ) → WhyRefused → Type 0
FieldsBreak here far fields why.Word = HasNoWord here fields
FieldsBreak here far fields why.Fields = IsMiscounted here fields
FieldsBreak here far fields why.Field = IsMisformed here far fields
FieldsBreak here far fields why.TooMany = IsOneTooMany here far fields
FieldsBreak here far fields _ = ⊥

-- the first rule that a line with a line end breaks, behind lines of which none is `end`
abbrev pub IsBad : List Said → List ℕ → WhyRefused → Type 0
IsBad before line why.Length = most_line_bytes < length line
IsBad before line rule = (length line ≤ most_line_bytes) × FieldsBreak (stage_of before) (script_of before) (fields line) rule

abbrev pub refusals : Refusals Said WhyRefused TraceRefused
refusals = refusals_by IsBad

-- a text with more bytes than a script may have, or with a first faulty line
abbrev pub IsFault : List ℕ → TraceRefused → Type 0
IsFault text fault = first.IsFault scripts refusals text fault
