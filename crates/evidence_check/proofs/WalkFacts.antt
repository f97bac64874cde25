-- The steps from a node.
use Rattle.std.proofs.Common.{◌≡◌, ◌∙◌, ◌+◌, ◌↔◌, ◌⊎◌, inl, inr, ⊎_elim, ℕ, ◌<◌, IsTrue, List, map, take, slice_get, Some, sym, subst, ap, arith}
use Rattle.std.specs.List.{Contains, flat_map}
use Rattle.spie_base.specs.declared.RouterId.{RouterId}
use Rattle.spie_base.specs.declared.Sig.{Sig}
use Rattle.reverse_flood.specs.declared.graphs.Node.{Node}
use Rattle.reverse_flood.specs.Flood.{Net, IsStep}
use Rattle.reverse_flood.specs.Leads.{pairs_with}
use Rattle.reverse_flood.proofs.LeadFacts.{steps_has}
use Rattle.evidence_text.specs.declared.certificates.Named.{Named}
use Rattle.evidence_check.specs.Judging.{IsAskedBy, IsReached, named_node}
use Rattle.evidence_check.specs.Lines.{Exist}
use Rattle.evidence_check.proofs.NodeFacts.{below_or_at}
use Rattle.evidence_check.proofs.Places.{before_place, earlier, some_same}

-- the routers beside a node's, with its origins, are the pairs one step back from it
pub steps_are : (net : Net) (node : Node) (near : List RouterId) (origins : List Sig) (steps : List Node) → steps ≡ flat_map (pairs_with near) origins → origins ≡ net.origins node → ((q : RouterId) → Contains near q ↔ IsTrue (net.linked node.router.number q.number)) → (n : Node) → Contains steps n ↔ IsStep net node n
steps_are net node near origins steps is from linked n =
    let Has : List Node → Type 0 = λ l. Contains l n in
    let HasSig : List Sig → Type 0 = λ l. Contains l n.sig in
    let h = steps_has near origins n in
    let l = linked n.router in (
      (λ has. let parts = h.0 (subst Has is has) in record { linked = l.0 parts.0; origin = subst HasSig from parts.1 }),
      (λ (s : IsStep net node n). subst Has (sym is) (h.1 (l.1 s.linked, subst HasSig (sym from) s.origin))),
    )

pub steps_exist : (net : Net) (node : Node) (routers : ℕ) (steps : List Node) → ((n : Node) → Contains steps n ↔ IsStep net node n) → ((a b : ℕ) → IsTrue (net.linked a b) → b < routers) → Exist routers steps
steps_exist net node routers steps same ends n has = let s = same n in let step : IsStep net node n = s.0 has in ends node.router.number n.router.number step.linked

-- ---- what is asked by the first nodes

abbrev pub IsAskedTo : Net → (start : Node) → List Named → ℕ → Node → Type 0
IsAskedTo net start nodes place n = IsAskedBy net start (take place (map named_node nodes)) n

pub asked_start : (net : Net) (start : Node) (nodes : List Named) (n : Node) → (start ≡ n) ↔ IsAskedTo net start nodes 0 n
asked_start net start nodes n = (
  (λ e. inl e),
  (λ h. ⊎_elim (λ e. e) (λ (r : IsReached net (take 0 (map named_node nodes)) n). let i = earlier named_node nodes 0 r.from r.node in let below = i.below in let none : ⊥ = omega (arith, below) in absurd none) h),
)

pub asked_more : (net : Net) (start : Node) (nodes : List Named) (place : ℕ) (x : Named) (S : Node → Type 0) → slice_get nodes place ≡ Some x → ((n : Node) → S n ↔ IsStep net x.node n) → (n : Node) → IsAskedTo net start nodes (place + 1) n ↔ (IsAskedTo net start nodes place n ⊎ S n)
asked_more net start nodes place x S at same n =
    let s = same n in
    let wider : (m : Node) → Contains (take place (map named_node nodes)) m → Contains (take (place + 1) (map named_node nodes)) m =
    λ m h.
    let i = earlier named_node nodes place m h in
    let below = i.below in
    let P : Node → Type 0 = λ k. Contains (take (place + 1) (map named_node nodes)) k in
    subst P i.is (before_place named_node nodes i.before (place + 1) i.item (omega (arith, below)) i.at) in (
      (λ h. ⊎_elim
          (λ e. inl (inl e))
          (λ (r : IsReached net (take (place + 1) (map named_node nodes)) n).
          let i = earlier named_node nodes (place + 1) r.from r.node in
          ⊎_elim
          (λ l.
          let P : Node → Type 0 = λ k. Contains (take place (map named_node nodes)) k in
          inl (inr (record { from = r.from; node = subst P i.is (before_place named_node nodes i.before place i.item l i.at); step = r.step })))
          (λ here.
          let who : x ≡ i.item = some_same x i.item (sym at ∙ sym (ap (slice_get nodes) here) ∙ i.at) in
          let it : r.from ≡ x.node = sym (ap named_node who ∙ i.is) in
          let P : Node → Type 0 = λ k. IsStep net k n in
          inr (s.1 (subst P it r.step)))
          (below_or_at i.before place i.below))
          h),
      (λ h. ⊎_elim
          (λ was. ⊎_elim
          (λ e. inl e)
          (λ (r : IsReached net (take place (map named_node nodes)) n). inr (record { from = r.from; node = wider r.from r.node; step = r.step }))
          was)
          (λ has. inr (record { from = x.node; node = before_place named_node nodes place (place + 1) x (omega arith) at; step = s.0 has }))
          h),
    )
