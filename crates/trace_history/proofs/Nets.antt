-- Two nets that agree at the routers that exist have the same floods.
use Rattle.std.proofs.Common.{◌≡◌, ℕ, ◌<◌, ◌∷◌, [], ◌↔◌, ◌∙◌, sym, subst, inl, inr, ⊎_elim, List}
use Rattle.std.specs.Bool.{IsTrue}
use Rattle.std.specs.List.{Contains}
use Rattle.spie_base.specs.declared.Sig.{Sig}
use Rattle.reverse_flood.specs.declared.Node.{Node}
use Rattle.reverse_flood.specs.declared.Edge.{Edge}
use Rattle.reverse_flood.specs.declared.Graph.{Graph}
use Rattle.reverse_flood.specs.Flood.{Net, IsStep, IsChain, IsNode, IsNext, IsAsked, IsEdge, IsUnknown, IsClear, IsFlood, everywhere}
use Rattle.spie_base.proofs.Membership.{has_one}

pub record AgreeBelow (N : ℕ) (a b : Net) : Type 0 where
  pub hit : (n : Node) → n.router.number < N → a.hit n ≡ b.hit n
  pub origins : (n : Node) → n.router.number < N → (s : Sig) → Contains (a.origins n) s ↔ Contains (b.origins n) s
  pub linked : (r q : ℕ) → a.linked r q ≡ b.linked r q
  pub missing : (r : ℕ) → r < N → a.missing r ≡ b.missing r
  pub ends : (r q : ℕ) → IsTrue (a.linked r q) → q < N

agree_back : (N : ℕ) (a b : Net) → AgreeBelow N a b → AgreeBelow N b a
agree_back N a b g = record {
  hit = λ n l. sym (g.hit n l);
  origins = λ n l s. ((g.origins n l s).1, (g.origins n l s).0);
  linked = λ r q. sym (g.linked r q);
  missing = λ r l. sym (g.missing r l);
  ends = λ r q h. g.ends r q (g.linked r q ∙ h);
}

module _ (N : ℕ) (a b : Net) (start : Node) (within : start.router.number < N) (g : AgreeBelow N a b) where
  step_to : (n m : Node) → n.router.number < N → IsStep a n m → IsStep b n m
  step_to n m l s = record { linked = sym (g.linked n.router.number m.router.number) ∙ s.linked; origin = (g.origins n l m.sig).0 s.origin }

  step_ends : (n m : Node) → IsStep a n m → m.router.number < N
  step_ends n m s = g.ends n.router.number m.router.number s.linked

  chain_to : (n : Node) (xs : List Node) (m : Node) → n.router.number < N → IsChain a everywhere n xs m → IsChain b everywhere n xs m × (m.router.number < N)
  chain_to n [] m l c = let P : Node → Type 0 = λ x. x.router.number < N in (c, subst P c l)
  chain_to n (x ∷ xs) m l c =
      let lx = step_ends n x c.0 in
      let rest = chain_to x xs m lx c.3 in
      ((step_to n x l c.0, c.1, sym (g.hit x lx) ∙ c.2, rest.0), rest.1)

  node_to : (n : Node) → IsNode a everywhere (start ∷ []) n → IsNode b everywhere (start ∷ []) n × (n.router.number < N)
  node_to n h =
      let P : Node → Type 0 = λ x. x.router.number < N in
      let l : h.first.router.number < N = subst P (has_one start h.first h.entry) within in
      let c = chain_to h.first h.rest n l h.chain in
      (record { first = h.first; rest = h.rest; entry = h.entry; hit = sym (g.hit h.first l) ∙ h.hit; chain = c.0 }, c.1)

  asked_to : (n : Node) → IsAsked a everywhere (start ∷ []) n → IsAsked b everywhere (start ∷ []) n × (n.router.number < N)
  asked_to n h =
      ⊎_elim
      (λ (e : Contains (start ∷ []) n). let P : Node → Type 0 = λ x. x.router.number < N in (inl e, subst P (has_one start n e) within))
      (λ (x : IsNext a everywhere (start ∷ []) n).
      let from = node_to x.from x.node in
      (inr (record { from = x.from; node = from.0; step = step_to x.from n from.1 x.step; within = x.within }), step_ends x.from n x.step))
      h

  edge_to : (e : Edge) → IsEdge a everywhere (start ∷ []) e → IsEdge b everywhere (start ∷ []) e
  edge_to e h =
      let down = node_to e.down h.node in
      record { node = down.0; step = step_to e.down e.up down.1 h.step; within = h.within; hit = sym (g.hit e.up (step_ends e.down e.up h.step)) ∙ h.hit }

  unknown_to : (n : Node) → IsUnknown a everywhere (start ∷ []) n → IsUnknown b everywhere (start ∷ []) n
  unknown_to n h =
      let at = asked_to n h.asked in
      record { asked = at.0; unseen = sym (g.hit n at.1) ∙ h.unseen; missing = sym (g.missing n.router.number at.1) ∙ h.missing }

  clear_to : (n : Node) → IsClear a everywhere (start ∷ []) n → IsClear b everywhere (start ∷ []) n
  clear_to n h =
      let at = asked_to n h.asked in
      record { asked = at.0; unseen = sym (g.hit n at.1) ∙ h.unseen; complete = sym (g.missing n.router.number at.1) ∙ h.complete }

pub flood_same : (N : ℕ) (a b : Net) (start : Node) (graph : Graph) → start.router.number < N → AgreeBelow N a b → IsFlood a start graph → IsFlood b start graph
flood_same N a b start graph l g f =
    let back = agree_back N a b g in
    record {
      nodes = record { ascending = f.nodes.ascending; same = λ n. ((λ h. (node_to N a b start l g n ((f.nodes.same n).0 h)).0), (λ h. (f.nodes.same n).1 (node_to N b a start l back n h).0)) };
      edges = record { ascending = f.edges.ascending; same = λ e. ((λ h. edge_to N a b start l g e ((f.edges.same e).0 h)), (λ h. (f.edges.same e).1 (edge_to N b a start l back e h))) };
      unknown = record { ascending = f.unknown.ascending; same = λ n. ((λ h. unknown_to N a b start l g n ((f.unknown.same n).0 h)), (λ h. (f.unknown.same n).1 (unknown_to N b a start l back n h))) };
      clear = record { ascending = f.clear.ascending; same = λ n. ((λ h. clear_to N a b start l g n ((f.clear.same n).0 h)), (λ h. (f.clear.same n).1 (clear_to N b a start l back n h))) };
    }

-- the routers of what is asked exist
module _ (N : ℕ) (net : Net) (start : Node) (within : start.router.number < N) (ends : (r q : ℕ) → IsTrue (net.linked r q) → q < N) where
  chain_exists : (n : Node) (xs : List Node) (m : Node) → n.router.number < N → IsChain net everywhere n xs m → m.router.number < N
  chain_exists n [] m l c = let P : Node → Type 0 = λ x. x.router.number < N in subst P c l
  chain_exists n (x ∷ xs) m l c = chain_exists x xs m (ends n.router.number x.router.number (c.0).linked) c.3

  pub node_exists : (n : Node) → IsNode net everywhere (start ∷ []) n → n.router.number < N
  node_exists n h =
      let P : Node → Type 0 = λ x. x.router.number < N in
      chain_exists h.first h.rest n (subst P (has_one start h.first h.entry) within) h.chain

  pub asked_exists : (n : Node) → IsAsked net everywhere (start ∷ []) n → n.router.number < N
  asked_exists n h =
      ⊎_elim
      (λ (e : Contains (start ∷ []) n). let P : Node → Type 0 = λ x. x.router.number < N in subst P (has_one start n e) within)
      (λ (x : IsNext net everywhere (start ∷ []) n). ends x.from.router.number n.router.number x.step.linked)
      h

  pub edge_exists : (e : Edge) → IsEdge net everywhere (start ∷ []) e → (e.down.router.number < N) × (e.up.router.number < N)
  edge_exists e h = (node_exists e.down h.node, ends e.down.router.number e.up.router.number h.step.linked)
