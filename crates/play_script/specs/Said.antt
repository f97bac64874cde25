-- What a line of a script says.
use Rattle.std.specs.Prelude.{ℕ}
use Rattle.gate_core.specs.declared.steps.Step.{Step}
use Rattle.spie_base.specs.declared.types.PageShape.{PageShape}

pub data Said : Type 0 where
  Version : Said
  Core : (passes : ℕ) (shape : PageShape) → Said
  Does : (step : Step) → Said
  End : Said
