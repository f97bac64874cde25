-- What the lines before a line say together. The latest line stands first.
use Rattle.std.specs.Prelude.{ℕ, ◌^◌, List, [], ◌∷◌, ◌++◌}
use Rattle.gate_core.specs.declared.steps.Step.{Step}
use Rattle.line_text.specs.Language.{how_many}
use Rattle.spie_base.specs.declared.types.PageShape.{PageShape}
use Rattle.play_script.specs.Said.{Said}
use Rattle.play_script.specs.Said as said
use Rattle.play_script.specs.Words.{stage_of}
use Rattle.play_script.specs.declared.script.PlayScript.{PlayScript}
use Rattle.play_script.specs.declared.words.Stage.{Stage}

abbrev pub no_shape : PageShape
no_shape = record { k = 1; n = 6; base = 0; router = record { number = 0 } }

abbrev pub passes_of : List Said → ℕ
passes_of [] = 1
passes_of (said.Core passes shape ∷ before) = passes
passes_of (_ ∷ before) = passes_of before

abbrev pub shape_of : List Said → PageShape
shape_of [] = no_shape
shape_of (said.Core passes shape ∷ before) = shape
shape_of (_ ∷ before) = shape_of before

-- the steps in their order
abbrev pub steps_of : List Said → List Step
steps_of [] = []
steps_of (said.Does step ∷ before) = steps_of before ++ step ∷ []
steps_of (_ ∷ before) = steps_of before

-- all that the lines say
abbrev pub script_of : List Said → PlayScript
script_of before = record { shape = shape_of before; passes = passes_of before; steps = steps_of before }

-- what the reading keeps of them: also how far they go, how many they are, and how many positions a page has
pub record Known : Type 0 where
  pub stage : Stage
  pub read : ℕ
  pub passes : ℕ
  pub shape : PageShape
  pub positions : ℕ
  pub steps : List Step

abbrev pub known_of : List Said → Known
known_of before = record {
  stage = stage_of before;
  read = how_many before;
  passes = passes_of before;
  shape = shape_of before;
  positions = 2 ^ (shape_of before).n;
  steps = steps_of before;
}
