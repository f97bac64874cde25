-- How many words and positions a page has.
use Rattle.std.specs.Prelude.{ℕ, ◌-◌, ◌*◌, ◌^◌}
use Rattle.spie_base.specs.declared.PageShape.{PageShape}

-- how many words the bits of a slot fill
abbrev pub width : PageShape → ℕ
width shape = 2 ^ (shape.n - 6)

-- how many positions a page has
abbrev pub size : PageShape → ℕ
size shape = 64 * width shape
