-- The numbers that fix the positions of a router's signatures.
use Rattle.std.specs.Prelude.{ℕ, ◌≤◌, ◌-◌, ◌^◌}
use Rattle.spie_base.specs.declared.types.PageShape.{PageShape}
use Rattle.spie_base.specs.declared.types.Rules.{Rules}
use Rattle.spie_base.specs.declared.types.TheConstants.{K_MOST, N_LEAST, N_MOST}

-- so many marks of a signature, and so many bits of a position
pub record AreInRange (k n : ℕ) : Type 0 where
  pub k_least : 1 ≤ k
  pub k_most : k ≤ K_MOST
  pub n_least : N_LEAST ≤ n
  pub n_most : n ≤ N_MOST

-- how many words of 64 bits the greatest page has
abbrev pub most_words : ℕ
most_words = 2 ^ (N_MOST - N_LEAST)

-- k and n in their ranges
abbrev pub IsShape : PageShape → Type 0
IsShape shape = AreInRange shape.k shape.n

-- the shape of a router's pages
abbrev pub shape_of : Rules → (router : ℕ) → PageShape
shape_of rules router = record { k = rules.k; n = rules.n; base = rules.base; router = record { number = router } }
