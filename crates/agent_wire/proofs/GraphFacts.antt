-- The lists of the accepted parts, put together, are their union.
use Rattle.std.proofs.Common.{◌≡◌, ◌∙◌, ◌<◌, ◌≤◌, ℕ, false, not, is_some, length, get_or, arith, ◌↔◌, inl, inr, ⊎_elim, refl, sym, subst, ap, List, ◌++◌, Option, None, Some}
use Rattle.std.specs.List.{Contains, flat_map}
use Rattle.std.specs.List.Sorted.{IsStrictlySortedBy}
use Rattle.std.specs.declared.cmp.Ordering.{Ordering}
use Rattle.std.proofs.lemmas.Bool.{false≢true}
use Rattle.std.proofs.lemmas.List.Elements.{Contains-append_left, Contains-append_right, Contains-append_cases}
use Rattle.std.proofs.lemmas.Map.Views.{list_any-from_Contains, Contains-from_any}
use Rattle.spie_base.proofs.Membership.{has_none, from_flat_map, into_flat_map, from_filter, into_filter}
use Rattle.reverse_flood.specs.declared.graphs.Node.{Node}
use Rattle.reverse_flood.specs.declared.graphs.Edge.{Edge}
use Rattle.reverse_flood.specs.declared.graphs.Part.{Part}
use Rattle.reverse_flood.specs.Flood.{IsListOf, edge_cmp}
use Rattle.reverse_flood.proofs.Orders.{node_laws, same_node}
use Rattle.agent_wire.specs.declared.requests.Asked.{Asked}
use Rattle.agent_wire.specs.Told.{all_told, exits_among, leads_to, told_by, told_of}
use Rattle.agent_wire.specs.Union.{AreAnswered, is_open, IsTold, IsUnionNode, IsUnionEdge}

from_told : {X : Type 0} (list : Part → List X) (o : Option Part) (x : X) → Contains (told_by list o) x → (p : Part) × (o ≡ Some p) × Contains (list p) x
from_told list None x h = absurd (has_none x h)
from_told list (Some p) x h = (p, refl, h)

pub told_are : {X : Type 0} (list : Part → List X) (made : List Asked) (x : X) → Contains (all_told list made) x ↔ IsTold made list x
told_are {X} list made x = (
  (λ h.
      let i = from_flat_map (told_of list) made x h in
      let t = from_told list i.of.part x i.in_piece in
      record { of = i.of; has = i.has; part = t.0; accepted = t.1; told = t.2 }),
  (λ (t : IsTold made list x).
      let At : Option Part → Type 0 = λ o. Contains (told_by list o) x in
      into_flat_map (told_of list) made t.of x t.has (subst At (sym t.accepted) t.told)),
)

pub told_list : {X : Type 0} (cmp : X → X → Ordering) (list : Part → List X) (made : List Asked) (found xs : List X) → found ≡ all_told list made → IsStrictlySortedBy cmp xs → ((x : X) → Contains xs x ↔ Contains found x) → IsListOf cmp (IsTold made list) xs
told_list {X} cmp list made found xs is ascending same = record {
  ascending = ascending;
  same = λ x.
      let Has : List X → Type 0 = λ ys. Contains ys x in
      let t = told_are list made x in (
        (λ h. t.0 (subst Has is ((same x).0 h))),
        (λ w. (same x).1 (subst Has (sym is) (t.1 w))),
      );
}

exits_are : (made : List Asked) (nodes : List Node) (e : Edge) → Contains (flat_map (exits_among nodes) made) e ↔ (IsTold made (λ p. p.exits) e × Contains nodes e.up)
exits_are made nodes e = (
  (λ h.
      let i = from_flat_map (exits_among nodes) made e h in
      let f = from_filter (leads_to nodes) (told_of (λ p. p.exits) i.of) e i.in_piece in
      let t = from_told (λ p. p.exits) i.of.part e f.0 in
      (record { of = i.of; has = i.has; part = t.0; accepted = t.1; told = t.2 }, Contains-from_any same_node e.up nodes f.1)),
  (λ (w : IsTold made (λ (p : Part). p.exits) e × Contains nodes e.up).
      let t = w.0 in
      let At : Option Part → Type 0 = λ o. Contains (told_by (λ p. p.exits) o) e in
      into_flat_map (exits_among nodes) made t.of e t.has (into_filter (leads_to nodes) (told_of (λ p. p.exits) t.of) e (subst At (sym t.accepted) t.told) (list_any-from_Contains node_laws e.up nodes w.1))),
)

pub edge_list : (made : List Asked) (nodes : List Node) (found xs : List Edge) → ((n : Node) → Contains nodes n ↔ IsUnionNode made n) → found ≡ all_told (λ p. p.edges) made ++ flat_map (exits_among nodes) made
    → IsStrictlySortedBy edge_cmp xs → ((e : Edge) → Contains xs e ↔ Contains found e) → IsListOf edge_cmp (IsUnionEdge made) xs
edge_list made nodes found xs are is ascending same = record {
  ascending = ascending;
  same = λ e.
      let Has : List Edge → Type 0 = λ ys. Contains ys e in
      let inner = all_told (λ p. p.edges) made in
      let outer = flat_map (exits_among nodes) made in
      let t = told_are (λ p. p.edges) made e in
      let x = exits_are made nodes e in (
        (λ h. ⊎_elim
            (λ k. inl (t.0 k))
            (λ k. let w = x.0 k in inr (w.0, (are e.up).0 w.1))
            (Contains-append_cases inner outer e (subst Has is ((same e).0 h)))),
        (λ w. (same e).1 (subst Has (sym is) (⊎_elim
            (λ k. Contains-append_left inner outer e (t.1 k))
            (λ k. Contains-append_right inner outer e (x.1 (k.0, (are e.up).1 k.1)))
            w))),
      );
}

-- ---- whether each request has a part

some_of : (o : Option Part) → not (is_some o) ≡ false → (p : Part) × (o ≡ Some p)
some_of None e = absurd (false≢true (sym e))
some_of (Some p) e = (p, refl)

pub all_answered : (made : List Asked) (number : ℕ) → ((k : ℕ) (d : Asked) → k < number → is_open (get_or made k d) ≡ false) → length made ≤ number → AreAnswered made
all_answered made number none most q h =
    let l = h.1 in
    let closed : is_open q ≡ false = ap is_open (sym h.2) ∙ none h.0 q (omega (arith, l, most)) in
    let s = some_of q.part closed in
    record { part = s.0; is = s.1 }
