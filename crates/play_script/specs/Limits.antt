-- How long a script may be, and how large its pages. What limits its lines and its bytes is that of a trace.
use Rattle.std.specs.Prelude.{ℕ, ◌≤◌}
use Rattle.spie_base.specs.declared.types.PageShape.{PageShape}
use Rattle.spie_base.specs.Shapes.{IsShape}
use Rattle.play_script.specs.declared.script.TheConstants.{CORE_N_MOST}

-- steps
abbrev pub most_steps : ℕ
most_steps = 100000

-- k and n are in the ranges of a script's second line
pub record IsCore (shape : PageShape) : Type 0 where
  pub in_range : IsShape shape
  pub n_most : shape.n ≤ CORE_N_MOST
