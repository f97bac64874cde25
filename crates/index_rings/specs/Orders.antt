-- Numbered chains over the same places. Public clauses cite `Holds` and the words from there on.
use Rattle.std.specs.Prelude.{◌≡◌, ◌<◌, [], ◌∷◌, length, ℕ, List, Option, None, slice_index_or, filter, ◌==◌}
use Rattle.index_rings.specs.Rings.{IsChain, Lacks, next_of}
use Rattle.index_rings.specs.declared.link.Link.{Link}
use Rattle.index_rings.specs.declared.chains.Chains.{Chains}

abbrev pub first_of : List (Option ℕ) → ℕ → Option ℕ
first_of firsts chain = slice_index_or firsts chain None

-- those of a list of places that have the label
abbrev pub labelled : (label : ℕ → ℕ) → ℕ → List ℕ → List ℕ
labelled label chain order = filter (λ place. label place == chain) order

-- each chain is the part of the list that has its label, in the list's order
pub record AreChains (next : ℕ → ℕ) (first : ℕ → Option ℕ) (label : ℕ → ℕ) (order : List ℕ) : Type 0 where
  pub parts : (chain : ℕ) → IsChain next (first chain) (labelled label chain order)

-- each of these is below the number
abbrev pub AllBelow : ℕ → List ℕ → Type 0
AllBelow n [] = Unit {0}
AllBelow n (x ∷ xs) = (x < n) × AllBelow n xs

-- a list of places stands in its chains, and every other place stands alone
pub record IsFiled (links : List Link) (firsts : List (Option ℕ)) (label : ℕ → ℕ) (order : List ℕ) : Type 0 where
  pub chains : AreChains (next_of links) (first_of firsts) label order
  pub alone : (i : ℕ) → Lacks order i → next_of links i ≡ i
  pub within : AllBelow (length links) order

-- ---- the same of a value

-- how many chains there are, and how many places may stand in them
abbrev pub chains_in : Chains → ℕ
chains_in chains = length chains.firsts.items

abbrev pub places_in : Chains → ℕ
places_in chains = length chains.rings.links.items

-- the first place of a chain
abbrev pub first_in : Chains → ℕ → Option ℕ
first_in chains chain = first_of chains.firsts.items chain

-- the places of a list stand in the chains that `label` names, each chain in the list's order, and no other place does
abbrev pub Holds : Chains → (label : ℕ → ℕ) → List ℕ → Type 0
Holds chains label order = IsFiled chains.rings.links.items chains.firsts.items label order
