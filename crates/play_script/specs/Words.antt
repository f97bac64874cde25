-- The words of a script, and where each line may stand.
use Rattle.std.specs.Prelude.{ℕ, List, [], ◌∷◌, Bool, true, false, codes}
use Rattle.gate_core.specs.declared.steps.Act.{Act}
use Rattle.gate_core.specs.declared.steps.Act.TheVariants as act
use Rattle.play_script.specs.Said.{Said}
use Rattle.play_script.specs.Said as said
use Rattle.play_script.specs.declared.words.Stage.{Stage}
use Rattle.play_script.specs.declared.words.Stage.TheVariants as stage
use Rattle.play_script.specs.declared.words.Word.{Word}
use Rattle.play_script.specs.declared.words.Word.TheVariants as word

abbrev pub word_text : Word → List ℕ
word_text word.Look = codes "look"
word_text word.Enter = codes "enter"
word_text word.Set = codes "set"
word_text word.Leave = codes "leave"
word_text word.Seal = codes "seal"
word_text word.Settle = codes "settle"
word_text word.Drain = codes "drain"
word_text word.Open = codes "open"
word_text word.Point = codes "point"
word_text word.Probe = codes "probe"

-- the number of fields of a step with this word, its actor and its word among them
abbrev pub arity : Word → ℕ
arity word.Look = 2
arity word.Enter = 3
arity word.Set = 2
arity word.Leave = 2
arity word.Seal = 2
arity word.Settle = 3
arity word.Drain = 3
arity word.Open = 3
arity word.Point = 2
arity word.Probe = 4

-- the word of an act
abbrev pub word_done : Act → Word
word_done act.Look = word.Look
word_done (act.Enter sig) = word.Enter
word_done act.Set = word.Set
word_done act.Leave = word.Leave
word_done act.Seal = word.Seal
word_done (act.Settle slot) = word.Settle
word_done (act.Drain slot) = word.Drain
word_done (act.Open slot) = word.Open
word_done act.Point = word.Point
word_done (act.Probe slot at) = word.Probe

-- how far a script is, after these lines, of which the latest stands first
abbrev pub stage_of : List Said → Stage
stage_of [] = stage.Version
stage_of (said.Version ∷ before) = stage.Core
stage_of (said.Core passes shape ∷ before) = stage.Steps
stage_of (said.Does step ∷ before) = stage.Steps
stage_of (said.End ∷ before) = stage.Over

-- the lines that may stand at each stage
abbrev pub may_come : Stage → Said → Bool
may_come stage.Version said.Version = true
may_come stage.Core (said.Core passes shape) = true
may_come stage.Steps (said.Does step) = true
may_come stage.Steps said.End = true
may_come _ _ = false

-- whether the end line was read
abbrev pub is_over : Stage → Bool
is_over stage.Over = true
is_over _ = false
