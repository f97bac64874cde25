-- Searching in a list that ascends.
use Rattle.std.proofs.Common.{None, ◌≡◌, ◌∙◌, ◌<◌, ◌≤◌, ◌⊎◌, inl, inr, ⊎_elim, ◌∷◌, [], ℕ, zero, suc, List, length, get_or, Ok, Err, refl, sym, subst, ap, arith}
use Rattle.std.specs.Cmp.{IsTotalOrder, tied_itself}
use Rattle.std.specs.List.{Contains}
use Rattle.std.specs.List.Sorted.{IsBinarySearchResult, IsSearchInRange, IsStrictlySortedBy}
use Rattle.std.specs.Ordering.{ordering_index, ordering_then}
use Rattle.std.specs.declared.cmp.Ordering.{Ordering}
use Rattle.std.specs.declared.cmp.Ordering.TheVariants.{Less, Equal, Greater}
use Rattle.std.proofs.lemmas.List.Elements.{Contains-get_or}
use Rattle.std.proofs.lemmas.Map.Lookups.{exact_bytes, exact_unsigned}
use Rattle.spie_base.proofs.SortedLists.{of_each}
use Rattle.reverse_flood.specs.declared.graphs.Node.{Node}
use Rattle.reverse_flood.specs.declared.graphs.Edge.{Edge}
use Rattle.reverse_flood.specs.Flood.{edge_cmp, node_cmp}
use Rattle.reverse_flood.proofs.Orders.{edges_total}
use Rattle.spie_base.specs.Order.{sig_cmp}
use Rattle.spie_base.specs.declared.Sig.{Sig}
use Rattle.reverse_flood.specs.Flood.{Net}
use Rattle.evidence_check.specs.declared.last.LastOrigins.{LastOrigins}
use Rattle.evidence_check.specs.Steps.{Knows}
use Rattle.evidence_check.proofs.Places.{none_some}
use Rattle.evidence_check.proofs.SightFacts.{same_sig, sigs_total}

-- ---- edges that compare alike are one

then_equal : (a b : Ordering) → ordering_then a b ≡ Equal → (a ≡ Equal) × (b ≡ Equal)
then_equal Less b e = absurd (cc)
then_equal Equal b e = (refl, e)
then_equal Greater b e = absurd (cc)

node_exact : (a b : Node) → node_cmp a b ≡ Equal → a ≡ b
node_exact a b e =
    let p = then_equal _ _ e in
    let N : ℕ → List ℕ → Node = λ r s. record { router = record { number = r }; sig = record { bytes = s } } in
    ap (λ r. N r a.sig.bytes) (exact_unsigned a.router.number b.router.number p.0) ∙ ap (λ s. N b.router.number s) (exact_bytes a.sig.bytes b.sig.bytes p.1)

pub edge_exact : (a b : Edge) → edge_cmp a b ≡ Equal → a ≡ b
edge_exact a b e =
    let p = then_equal _ _ e in
    let E : Node → Node → Edge = λ d u. record { down = d; up = u } in
    ap (λ d. E d a.up) (node_exact a.down b.down p.0) ∙ ap (λ u. E b.down u) (node_exact a.up b.up p.1)

-- ---- a search

module _ {X : Type 0} (cmp : X → X → Ordering) (total : IsTotalOrder cmp) (exact : (a b : X) → cmp a b ≡ Equal → a ≡ b) where
  below_index : (a b x : X) (o : Ordering) → cmp a b ≡ Less → cmp b x ≡ o → ordering_index (cmp a x) ≤ ordering_index o
  below_index a b x Less l e = let t : cmp a x ≡ Less = total.trans a b x l e in rw t (omega arith)
  below_index a b x Equal l e =
      let P : X → Type 0 = λ y. cmp a y ≡ Less in
      let t : cmp a x ≡ Less = subst P (exact b x e) l in
      rw t (omega arith)
  below_index a b x Greater l e = most (cmp a x)
    where
      most : (o : Ordering) → ordering_index o ≤ 2
      most Less = omega arith
      most Equal = omega arith
      most Greater = omega arith

  rising : (xs : List X) (x : X) → IsStrictlySortedBy cmp xs → (i j : ℕ) (d : X) → i ≤ j → j < length xs → ordering_index (cmp (get_or xs i d) x) ≤ ordering_index (cmp (get_or xs j d) x)
  unfolding IsStrictlySortedBy
  rising [] x s i j d le l = let none : ⊥ = omega (arith, l) in absurd none
  rising (y ∷ ys) x s zero zero d le l = omega arith
  rising (y ∷ ys) x s zero (suc j) d le l = below_index y (get_or ys j d) x _ (of_each (λ z. cmp y z ≡ Less) ys (get_or ys j d) s.0 (Contains-get_or ys j d (omega (arith, l)))) refl
  rising (y ∷ ys) x s (suc i) zero d le l = let none : ⊥ = omega (arith, le) in absurd none
  rising (y ∷ ys) x s (suc i) (suc j) d le l = rising ys x s.1 i j d (omega (arith, le)) (omega (arith, l))

  pub found : (xs : List X) (x : X) (i : ℕ) → IsSearchInRange (Ok i) (length xs) → IsBinarySearchResult (λ y. cmp y x) xs (Ok i) → Contains xs x
  found xs x i l h = (i, l, exact (get_or xs i x) x (h x))

  side : (i k : ℕ) → (k < i) ⊎ (i ≤ k)
  side zero k = inr (omega arith)
  side (suc i) zero = inl (omega arith)
  side (suc i) (suc k) = ⊎_elim (λ a. inl (omega (arith, a))) (λ b. inr (omega (arith, b))) (side i k)

  pub not_found : (xs : List X) (x : X) (i : ℕ) → IsStrictlySortedBy cmp xs → IsBinarySearchResult (λ y. cmp y x) xs (Err i) → Contains xs x → ⊥
  not_found xs x i s h (k, l, e) =
      let parts = h (rising xs x s) in
      let alike : cmp (get_or xs k x) x ≡ Equal = ap (λ y. cmp y x) e ∙ tied_itself total x in
      ⊎_elim
      (λ before. let less : cmp (get_or xs k x) x ≡ Less = parts.0 k x (omega arith) before in let q : Less ≡ Equal = sym less ∙ alike in absurd (cc))
      (λ behind. let more : cmp (get_or xs k x) x ≡ Greater = parts.1 k x behind l in let q : Greater ≡ Equal = sym more ∙ alike in absurd (cc))
      (side i k)

-- ---- of edges

pub edge_found : (edges : List Edge) (e : Edge) (i : ℕ) → i < length edges → edge_cmp (get_or edges i e) e ≡ Equal → Contains edges e
edge_found edges e i l h = (i, l, edge_exact (get_or edges i e) e h)

pub edge_not_found : (edges : List Edge) (e : Edge) (i : ℕ) → IsStrictlySortedBy edge_cmp edges → IsBinarySearchResult (λ y. edge_cmp y e) edges (Err i) → Contains edges e → ⊥
edge_not_found edges e i s h = not_found edge_cmp edges_total edge_exact edges e i s h

-- ---- of signatures

pub sig_found : (sigs : List Sig) (s : Sig) (i : ℕ) → i < length sigs → sig_cmp (get_or sigs i s) s ≡ Equal → Contains sigs s
sig_found sigs s i l h = (i, l, same_sig (get_or sigs i s) s h)

pub sig_not_found : (sigs : List Sig) (s : Sig) (i : ℕ) → IsStrictlySortedBy sig_cmp sigs → IsBinarySearchResult (λ y. sig_cmp y s) sigs (Err i) → Contains sigs s → ⊥
sig_not_found sigs s i ascend h = not_found sig_cmp sigs_total same_sig sigs s i ascend h

-- ---- before any pair was looked at

ascend_none : IsStrictlySortedBy sig_cmp []
unfolding IsStrictlySortedBy
ascend_none = tt

pub knows_none : (net : Net) (last : LastOrigins) → last.node ≡ None → last.origins.items ≡ [] → Knows net last
knows_none net last node origins = record {
  ascend = let P : List Sig → Type 0 = λ l. IsStrictlySortedBy sig_cmp l in subst P (sym origins) ascend_none;
  same = λ n e. absurd (none_some n (sym node ∙ e));
}
