-- The pairs that a flood asks.
use Rattle.std.proofs.Common.{ℕ, Bool, ◌∷◌, [], ◌++◌, sym, refl, subst, ⊎_elim, List}
use Rattle.std.specs.List.{Contains}
use Rattle.reverse_flood.specs.declared.graphs.Node.{Node}
use Rattle.reverse_flood.specs.Flood.{Net, IsHit, IsInside, IsStep, IsChain, IsNode, IsNext, IsAsked}

-- a chain with one more pair at its end
chain_more : (net : Net) (inside : ℕ → Bool) (a : Node) (xs : List Node) (b x : Node) → IsChain net inside a xs b → IsStep net b x → IsInside inside x → IsHit net x → IsChain net inside a (xs ++ x ∷ []) x
chain_more net inside a [] b x e step within hit =
    let P : Node → Type 0 = λ y. IsStep net y x in (subst P (sym e) step, within, hit, refl)
chain_more net inside a (y ∷ ys) b x c step within hit = (c.0, c.1, c.2, chain_more net inside y ys b x c.3 step within hit)

-- a pair that is asked and hit is a node
pub node_from_asked : (net : Net) (inside : ℕ → Bool) (entries : List Node) (n : Node) → IsAsked net inside entries n → IsHit net n → IsNode net inside entries n
node_from_asked net inside entries n asked hit =
    ⊎_elim
    (λ e. record { first = n; rest = []; entry = e; hit = hit; chain = refl })
    (λ (next : IsNext net inside entries n). record {
      first = next.node.first;
      rest = next.node.rest ++ n ∷ [];
      entry = next.node.entry;
      hit = next.node.hit;
      chain = chain_more net inside next.node.first next.node.rest next.from n next.node.chain next.step next.within hit;
    })
    asked

-- what holds of the entries, and with each pair that is hit of those inside to which a step goes from it
pub record IsClosed (net : Net) (inside : ℕ → Bool) (entries : List Node) (P : Node → Type 0) : Type 0 where
  pub entered : (n : Node) → Contains entries n → P n
  pub closed : (p n : Node) → P p → IsHit net p → IsStep net p n → IsInside inside n → P n

-- it holds of the end of a chain from a pair of which it holds, and the end is hit
chain_ends : (net : Net) (inside : ℕ → Bool) (entries : List Node) (P : Node → Type 0) → IsClosed net inside entries P → (a : Node) (xs : List Node) (b : Node) → IsChain net inside a xs b → P a → IsHit net a → P b × IsHit net b
chain_ends net inside entries P c a [] b e has hit =
    let Q : Node → Type 0 = λ y. P y × IsHit net y in subst Q e (has, hit)
chain_ends net inside entries P c a (x ∷ xs) b chain has hit =
    chain_ends net inside entries P c x xs b chain.3 (c.closed a x has hit chain.0 chain.1) chain.2

pub nodes_closed : (net : Net) (inside : ℕ → Bool) (entries : List Node) (P : Node → Type 0) → IsClosed net inside entries P → (n : Node) → IsNode net inside entries n → P n × IsHit net n
nodes_closed net inside entries P c n node =
    chain_ends net inside entries P c node.first node.rest n node.chain (c.entered node.first node.entry) node.hit

-- it holds of each asked pair
pub asked_closed : (net : Net) (inside : ℕ → Bool) (entries : List Node) (P : Node → Type 0) → IsClosed net inside entries P → (n : Node) → IsAsked net inside entries n → P n
asked_closed net inside entries P c n is =
    ⊎_elim (c.entered n)
    (λ (next : IsNext net inside entries n). let f = nodes_closed net inside entries P c next.from next.node in c.closed next.from n f.0 f.1 next.step next.within)
    is
