-- The words of a new plane.
use Rattle.std.proofs.Common.{◌≡◌, ℕ, zero, suc, ◌*◌, ◌<◌, ◌≤◌, get_or, replicate, refl, ⊎_elim, arith}
use Rattle.std.proofs.lemmas.Bool.{cases_lt}
use Rattle.std.proofs.lemmas.List.{length-replicate, get_or-replicate, get_or_past}
use Rattle.spie_base.specs.declared.PageShape.{PageShape}
use Rattle.spie_base.specs.Shapes.{IsShape}
use Rattle.gate_core.specs.Marks.{width}
use Rattle.gate_core.specs.Acts.{gate_place}
use Rattle.gate_core.specs.Invariant.{IsFresh}
use Rattle.gate_core.specs.Start.{first_words}

no_bit : (n i : ℕ) → (let z : ℕ = 0 in get_or (replicate n z) i z ≡ z)
no_bit n i = ⊎_elim (λ lt. get_or-replicate n i 0 0 lt) (λ le. get_or_past (replicate n 0) i 0 (let e = length-replicate {A = ℕ} n 0 in omega arith)) (cases_lt i n)

rest : (shape : PageShape) (i : ℕ) → 5 ≤ i → get_or (first_words shape) i 0 ≡ 0
rest shape zero h = absurd (omega arith)
rest shape (suc zero) h = absurd (omega arith)
rest shape (suc (suc zero)) h = absurd (omega arith)
rest shape (suc (suc (suc zero))) h = absurd (omega arith)
rest shape (suc (suc (suc (suc zero)))) h = absurd (omega arith)
rest shape (suc (suc (suc (suc (suc i))))) h = no_bit (4 * width shape) i

others : (shape : PageShape) (s : ℕ) → 1 ≤ s → s < 4 → get_or (first_words shape) (gate_place s) 0 ≡ 65536
others shape zero from near = absurd (omega arith)
others shape (suc zero) from near = refl
others shape (suc (suc zero)) from near = refl
others shape (suc (suc (suc zero))) from near = refl
others shape (suc (suc (suc (suc s)))) from near = absurd (omega arith)

pub fresh : (shape : PageShape) → IsShape shape → IsFresh shape (first_words shape)
fresh shape fit = record {
  in_range = fit;
  long = let e = length-replicate {A = ℕ} (4 * width shape) 0 in omega arith;
  current_slot = refl;
  first = refl;
  others = others shape;
  rest = rest shape;
}
