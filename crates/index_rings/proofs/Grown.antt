-- More places, each of which stands alone.
use Rattle.std.proofs.Common.{◌≡◌, ℕ, ◌≤◌, List, [], ◌∷◌, length, Option, sym, ◌∙◌, subst, refl, arith}
use Rattle.index_rings.specs.Rings.{next_of, IsChain}
use Rattle.index_rings.specs.declared.link.Link.{Link}
use Rattle.index_rings.specs.Orders.{AllBelow, IsFiled, first_of}
use Rattle.index_rings.proofs.Runs.{chain_same}

below_grown : (n m : ℕ) (xs : List ℕ) → n ≤ m → AllBelow n xs → AllBelow m xs
below_grown n m [] h b = tt
below_grown n m (x ∷ xs) h b = (omega (arith, b.0, h), below_grown n m xs h b.1)

-- the same next places at more links
pub record Grown (links links' : List Link) (firsts firsts' : List (Option ℕ)) : Type 0 where
  pub same : (x : ℕ) → next_of links' x ≡ next_of links x
  pub longer : length links ≤ length links'
  pub firsts_same : firsts' ≡ firsts

pub filed_grown : (links links' : List Link) (firsts firsts' : List (Option ℕ)) (label : ℕ → ℕ) (order : List ℕ) → Grown links links' firsts firsts' → IsFiled links firsts label order → IsFiled links' firsts' label order
filed_grown links links' firsts firsts' label order g was =
    subst (λ fs. IsFiled links' fs label order) (sym g.firsts_same) (record {
      chains = record { parts = λ c. chain_same (next_of links) (next_of links') g.same (first_of firsts c) _ (was.chains.parts c) };
      alone = λ i l. g.same i ∙ was.alone i l;
      within = below_grown (length links) (length links') order g.longer was.within;
    })

-- no links and no chains
pub filed_none : (links : List Link) (firsts : List (Option ℕ)) (label : ℕ → ℕ) → links ≡ [] → firsts ≡ [] → IsFiled links firsts label []
unfolding IsChain
filed_none links firsts label a b =
    subst (λ ls. IsFiled ls firsts label []) (sym a) (subst (λ fs. IsFiled [] fs label []) (sym b)
    (record { chains = record { parts = λ c. refl }; alone = λ i l. refl; within = tt }))
