-- Where the words of a plane are.
use Rattle.std.proofs.Common.{◌≡◌, ℕ, ◌+◌, ◌*◌, ◌/◌, ◌<◌, ◌≤◌, arith, mul-le-mul_right}
use Rattle.spie_base.specs.declared.Sig.{Sig}
use Rattle.spie_base.specs.declared.PageShape.{PageShape}
use Rattle.hash_family.specs.Positions.{position}
use Rattle.gate_core.specs.Marks.{width, size}
use Rattle.spie_base.specs.Shapes.{IsShape}
use Rattle.gate_core.specs.Acts.{bit_place}
use Rattle.gate_core.proofs.Bits.{position_below}

pub bit_within : (shape : PageShape) (s i : ℕ) → s < 4 → i < width shape → bit_place shape s i < 5 + 4 * width shape
bit_within shape s i near below = let w : ℕ = width shape in let x : ℕ = s * w in let b : x ≤ 3 * w = mul-le-mul_right w (let g : s ≤ 3 = omega arith in g) in let i' : i < w = below in omega arith

pub mark_within : (shape : PageShape) (s page : ℕ) (sig : Sig) (i mark : ℕ) → IsShape shape → s < 4 → mark ≡ position shape page sig i → bit_place shape s (mark / 64) < 5 + 4 * width shape
mark_within shape s page sig i mark fit near is = let p : position shape page sig i < size shape = position_below shape page sig i fit in let w : ℕ = width shape in let b : mark < 64 * w = let q : position shape page sig i < 64 * w = p in omega arith in
    bit_within shape s (mark / 64) near (let g : mark / 64 < w = omega arith in g)
