-- The union of the parts is the flood, where a part was accepted for each request.
use Rattle.std.proofs.Common.{◌≡◌, ℕ, Bool, true, false, ◌⊎◌, ◌↔◌, inl, inr, ⊎_elim, refl, subst, List, [], ◌∷◌}
use Rattle.std.specs.List.{Contains}
use Rattle.spie_base.proofs.Membership.{has_one}
use Rattle.topology.specs.Layout.{Layout}
use Rattle.reverse_flood.specs.declared.graphs.Node.{Node}
use Rattle.reverse_flood.specs.declared.graphs.Edge.{Edge}
use Rattle.reverse_flood.specs.declared.graphs.Graph.{Graph}
use Rattle.reverse_flood.specs.declared.graphs.Part.{Part}
use Rattle.reverse_flood.specs.Flood.{Net, IsNode, IsAsked, IsEdge, IsUnknown, IsClear, IsFlood, everywhere, in_region}
use Rattle.reverse_flood.proofs.Worklists.{IsClosed, asked_closed, node_from_asked, nodes_closed}
use Rattle.agent_wire.specs.Requests.{IsEntry, IsAnswered, AreRequests}
use Rattle.agent_wire.specs.declared.requests.Asked.{Asked}
use Rattle.agent_wire.specs.Union.{IsTold, IsUnionNode, IsUnionEdge, IsUnion}

-- whether a router lies in a region, with the reason
inside_cases : (b : Bool) → (b ≡ true) ⊎ (b ≡ false)
inside_cases true = inl refl
inside_cases false = inr refl

-- ---- from a part to the flood: what holds of the entries holds within

-- the pairs that are asked over all routers are closed within a region
wide_closed : (net : Net) (inside : ℕ → Bool) (entries : List Node) (start : Node) → ((n : Node) → Contains entries n → IsAsked net everywhere (start ∷ []) n) → IsClosed net inside entries (IsAsked net everywhere (start ∷ []))
wide_closed net inside entries start asked = record {
  entered = asked;
  closed = λ p n has hit step within. inr (record { from = p; node = node_from_asked net everywhere (start ∷ []) p has hit; step = step; within = refl });
}

pub wide_asked : (net : Net) (inside : ℕ → Bool) (entries : List Node) (start : Node) → ((n : Node) → Contains entries n → IsAsked net everywhere (start ∷ []) n) → (n : Node) → IsAsked net inside entries n → IsAsked net everywhere (start ∷ []) n
wide_asked net inside entries start asked n h = asked_closed net inside entries (IsAsked net everywhere (start ∷ [])) (wide_closed net inside entries start asked) n h

pub wide_node : (net : Net) (inside : ℕ → Bool) (entries : List Node) (start : Node) → ((n : Node) → Contains entries n → IsAsked net everywhere (start ∷ []) n) → (n : Node) → IsNode net inside entries n → IsNode net everywhere (start ∷ []) n
wide_node net inside entries start asked n h =
    let f = nodes_closed net inside entries (IsAsked net everywhere (start ∷ [])) (wide_closed net inside entries start asked) n h in
    node_from_asked net everywhere (start ∷ []) n f.0 f.1

-- ---- from the flood to a part

-- a pair is asked by the flood within the region of some request
pub record IsAskedIn (net : Net) (layout : Layout) (made : List Asked) (n : Node) : Type 0 where
  pub of : Asked
  pub has : Contains made of
  pub asked : IsAsked net (in_region layout of.region) of.entries n

entry_asked : (net : Net) (layout : Layout) (made : List Asked) (n : Node) → IsEntry made n → IsAskedIn net layout made n
entry_asked net layout made n h = record { of = h.of; has = h.has; asked = inl h.entry }

-- with a pair that is hit, a request's region asks each pair to which a step goes from it, or another request does
narrow_closed : (net : Net) (layout : Layout) (start : Node) (made : List Asked) → AreRequests net layout start made → ((q : Asked) → Contains made q → IsAnswered q) → IsClosed net everywhere (start ∷ []) (IsAskedIn net layout made)
narrow_closed net layout start made are all = record {
  entered = λ n h. let P : Node → Type 0 = λ m. IsAskedIn net layout made m in subst P (has_one start n h) (entry_asked net layout made start are.begun);
  closed = λ p n (has : IsAskedIn net layout made p) hit step within.
      let q = has.of in
      let inside = in_region layout q.region in
      let node = node_from_asked net inside q.entries p has.asked hit in
      ⊎_elim
      (λ (e : inside n.router.number ≡ true). record { of = q; has = has.has; asked = inr (record { from = p; node = node; step = step; within = e }) })
      (λ (e : inside n.router.number ≡ false).
      let a = all q has.has in
      let exit : Edge = record { down = p; up = n } in
      let stands : Contains a.part.exits exit = ((are.answered q a.part has.has a.is).exits.same exit).1 (record { node = node; step = step; outside = e }) in
      entry_asked net layout made n (are.followed q a.part exit has.has a.is stands))
      (inside_cases (inside n.router.number));
}

pub narrow_asked : (net : Net) (layout : Layout) (start : Node) (made : List Asked) → AreRequests net layout start made → ((q : Asked) → Contains made q → IsAnswered q) → (n : Node) → IsAsked net everywhere (start ∷ []) n → IsAskedIn net layout made n
narrow_asked net layout start made are all n h =
    asked_closed net everywhere (start ∷ []) (IsAskedIn net layout made) (narrow_closed net layout start made are all) n h

pub record IsNodeIn (net : Net) (layout : Layout) (made : List Asked) (n : Node) : Type 0 where
  pub of : Asked
  pub has : Contains made of
  pub node : IsNode net (in_region layout of.region) of.entries n

pub narrow_node : (net : Net) (layout : Layout) (start : Node) (made : List Asked) → AreRequests net layout start made → ((q : Asked) → Contains made q → IsAnswered q) → (n : Node) → IsNode net everywhere (start ∷ []) n → IsNodeIn net layout made n
narrow_node net layout start made are all n h =
    let f = nodes_closed net everywhere (start ∷ []) (IsAskedIn net layout made) (narrow_closed net layout start made are all) n h in
    let a : IsAskedIn net layout made n = f.0 in
    record { of = a.of; has = a.has; node = node_from_asked net (in_region layout a.of.region) a.of.entries n a.asked f.1 }

-- ---- the lists

pub union_nodes : (net : Net) (layout : Layout) (start : Node) (made : List Asked) → AreRequests net layout start made → ((q : Asked) → Contains made q → IsAnswered q) → (n : Node) → IsUnionNode made n ↔ IsNode net everywhere (start ∷ []) n
union_nodes net layout start made are all n = (
  (λ (t : IsUnionNode made n).
      wide_node net (in_region layout t.of.region) t.of.entries start (λ m h. are.asked t.of m t.has h) n (((are.answered t.of t.part t.has t.accepted).nodes.same n).0 t.told)),
  (λ h.
      let i = narrow_node net layout start made are all n h in
      let a = all i.of i.has in
      record { of = i.of; has = i.has; part = a.part; accepted = a.is; told = ((are.answered i.of a.part i.has a.is).nodes.same n).1 i.node }),
)

pub union_edges : (net : Net) (layout : Layout) (start : Node) (made : List Asked) → AreRequests net layout start made → ((q : Asked) → Contains made q → IsAnswered q) → (e : Edge) → IsUnionEdge made e ↔ IsEdge net everywhere (start ∷ []) e
union_edges net layout start made are all e = (
  (λ (u : IsUnionEdge made e).
      ⊎_elim
      (λ (t : IsTold made (λ (p : Part). p.edges) e).
      let edge = ((are.answered t.of t.part t.has t.accepted).edges.same e).0 t.told in
      let down = wide_node net (in_region layout t.of.region) t.of.entries start (λ m h. are.asked t.of m t.has h) e.down edge.node in
      record { node = down; step = edge.step; within = refl; hit = edge.hit })
      (λ (b : IsTold made (λ (p : Part). p.exits) e × IsUnionNode made e.up).
      let t = b.0 in
      let exit = ((are.answered t.of t.part t.has t.accepted).exits.same e).0 t.told in
      let down = wide_node net (in_region layout t.of.region) t.of.entries start (λ m h. are.asked t.of m t.has h) e.down exit.node in
      let up = (union_nodes net layout start made are all e.up).0 b.1 in
      let hit = (nodes_closed net everywhere (start ∷ []) (IsAskedIn net layout made) (narrow_closed net layout start made are all) e.up up).1 in
      record { node = down; step = exit.step; within = refl; hit = hit })
      u),
  (λ (edge : IsEdge net everywhere (start ∷ []) e).
      let i = narrow_node net layout start made are all e.down edge.node in
      let inside = in_region layout i.of.region in
      let a = all i.of i.has in
      let part = are.answered i.of a.part i.has a.is in
      ⊎_elim
      (λ (here : inside e.up.router.number ≡ true).
      inl (record { of = i.of; has = i.has; part = a.part; accepted = a.is; told = (part.edges.same e).1 (record { node = i.node; step = edge.step; within = here; hit = edge.hit }) }))
      (λ (away : inside e.up.router.number ≡ false).
      let up = node_from_asked net everywhere (start ∷ []) e.up (inr (record { from = e.down; node = edge.node; step = edge.step; within = refl })) edge.hit in
      inr (
        record { of = i.of; has = i.has; part = a.part; accepted = a.is; told = (part.exits.same e).1 (record { node = i.node; step = edge.step; outside = away }) },
        (union_nodes net layout start made are all e.up).1 up,
      ))
      (inside_cases (inside e.up.router.number))),
)

pub union_unknown : (net : Net) (layout : Layout) (start : Node) (made : List Asked) → AreRequests net layout start made → ((q : Asked) → Contains made q → IsAnswered q) → (n : Node) → IsTold made (λ p. p.unknown) n ↔ IsUnknown net everywhere (start ∷ []) n
union_unknown net layout start made are all n = (
  (λ (t : IsTold made (λ (p : Part). p.unknown) n).
      let u = ((are.answered t.of t.part t.has t.accepted).unknown.same n).0 t.told in
      record { asked = wide_asked net (in_region layout t.of.region) t.of.entries start (λ m h. are.asked t.of m t.has h) n u.asked; unseen = u.unseen; missing = u.missing }),
  (λ (u : IsUnknown net everywhere (start ∷ []) n).
      let i = narrow_asked net layout start made are all n u.asked in
      let a = all i.of i.has in
      record { of = i.of; has = i.has; part = a.part; accepted = a.is; told = ((are.answered i.of a.part i.has a.is).unknown.same n).1 (record { asked = i.asked; unseen = u.unseen; missing = u.missing }) }),
)

pub union_clear : (net : Net) (layout : Layout) (start : Node) (made : List Asked) → AreRequests net layout start made → ((q : Asked) → Contains made q → IsAnswered q) → (n : Node) → IsTold made (λ p. p.clear) n ↔ IsClear net everywhere (start ∷ []) n
union_clear net layout start made are all n = (
  (λ (t : IsTold made (λ (p : Part). p.clear) n).
      let u = ((are.answered t.of t.part t.has t.accepted).clear.same n).0 t.told in
      record { asked = wide_asked net (in_region layout t.of.region) t.of.entries start (λ m h. are.asked t.of m t.has h) n u.asked; unseen = u.unseen; complete = u.complete }),
  (λ (u : IsClear net everywhere (start ∷ []) n).
      let i = narrow_asked net layout start made are all n u.asked in
      let a = all i.of i.has in
      record { of = i.of; has = i.has; part = a.part; accepted = a.is; told = ((are.answered i.of a.part i.has a.is).clear.same n).1 (record { asked = i.asked; unseen = u.unseen; complete = u.complete }) }),
)

-- ---- the graph

through : {A B C : Type 0} → A ↔ B → B ↔ C → A ↔ C
through f g = ((λ a. g.0 (f.0 a)), (λ c. f.1 (g.1 c)))

pub union_flood : (net : Net) (layout : Layout) (start : Node) (made : List Asked) (graph : Graph) → AreRequests net layout start made → ((q : Asked) → Contains made q → IsAnswered q) → IsUnion made graph → IsFlood net start graph
union_flood net layout start made graph are all u = record {
  nodes = record { ascending = u.nodes.ascending; same = λ n. through (u.nodes.same n) (union_nodes net layout start made are all n) };
  edges = record { ascending = u.edges.ascending; same = λ e. through (u.edges.same e) (union_edges net layout start made are all e) };
  unknown = record { ascending = u.unknown.ascending; same = λ n. through (u.unknown.same n) (union_unknown net layout start made are all n) };
  clear = record { ascending = u.clear.ascending; same = λ n. through (u.clear.same n) (union_clear net layout start made are all n) };
}
