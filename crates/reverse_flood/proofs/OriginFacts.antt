-- The steps from a node, by its origins.
use Rattle.std.proofs.Common.{◌≡◌, ◌∙◌, ℕ, ◌+◌, ◌<◌, ◌++◌, ◌∷◌, [], ◌↔◌, Bool, true, false, cond, ◌&&◌, not, length, take, map, get_or, List, Option, refl, sym, subst, ap, IsTrue, append_assoc, append-nil, ⊎_elim, ◌⊎◌}
use Rattle.std.specs.List.{Contains, flat_map, filter}
use Rattle.std.proofs.lemmas.List.{map-append, take_more}
use Rattle.std.proofs.lemmas.List.Elements.{filter-append}
use Rattle.spie_base.specs.declared.Sig.{Sig}
use Rattle.spie_base.specs.declared.RouterId.{RouterId}
use Rattle.topology.specs.declared.links.Link.{Link}
use Rattle.topology.specs.Layout.{is_linked}
use Rattle.reverse_flood.specs.declared.graphs.Node.{Node}
use Rattle.reverse_flood.specs.declared.graphs.Edge.{Edge}
use Rattle.reverse_flood.specs.declared.ways.Origin.{Origin}
use Rattle.reverse_flood.specs.Flood.{Net, IsStep, node_cmp}
use Rattle.reverse_flood.specs.Found.{AddsWays, edge_from, is_inner, is_outer}
use Rattle.reverse_flood.specs.Steps.{origin_at, origin_cmp, IsSigOf, AppendsWays}
use Rattle.spie_base.specs.Order.{router_cmp, sig_cmp}
use Rattle.std.specs.List.Sorted.{IsStrictlySortedBy}
use Rattle.reverse_flood.proofs.Ascents.{sorted_map, sorted_parts}
use Rattle.reverse_flood.proofs.Orders.{lower_router, lower_sig}
use Rattle.spie_base.proofs.Membership.{has_first, has_later, from_map, into_map, from_flat_map, into_flat_map}
use Rattle.spie_base.proofs.FlatMaps.{flat_map_next}

-- a router with each origin
abbrev pub steps_at : List Origin → RouterId → List Node
steps_at origins router = map (origin_at router) origins

-- at a router inside, or outside
pub inside_all : (inside : ℕ → Bool) (known : Node → Bool) (router : RouterId) (origins : List Origin) → inside router.number ≡ true → filter (is_inner inside known) (steps_at origins router) ≡ filter known (steps_at origins router)
inside_all inside known router [] e = refl
inside_all inside known router (o ∷ os) e =
    let n = origin_at router o in
    ap (λ b. cond (b && known n) (n ∷ filter (is_inner inside known) (steps_at os router)) (filter (is_inner inside known) (steps_at os router))) e
    ∙ ap (λ (l : List Node). cond (known n) (n ∷ l) l) (inside_all inside known router os e)

pub inside_none : (inside : ℕ → Bool) (router : RouterId) (origins : List Origin) → inside router.number ≡ true → filter (is_outer inside) (steps_at origins router) ≡ []
inside_none inside router [] e = refl
inside_none inside router (o ∷ os) e =
    let n = origin_at router o in
    ap (λ b. cond (not b) (n ∷ filter (is_outer inside) (steps_at os router)) (filter (is_outer inside) (steps_at os router))) e
    ∙ inside_none inside router os e

pub outside_none : (inside : ℕ → Bool) (known : Node → Bool) (router : RouterId) (origins : List Origin) → inside router.number ≡ false → filter (is_inner inside known) (steps_at origins router) ≡ []
outside_none inside known router [] e = refl
outside_none inside known router (o ∷ os) e =
    let n = origin_at router o in
    ap (λ b. cond (b && known n) (n ∷ filter (is_inner inside known) (steps_at os router)) (filter (is_inner inside known) (steps_at os router))) e
    ∙ outside_none inside known router os e

pub outside_all : (inside : ℕ → Bool) (router : RouterId) (origins : List Origin) → inside router.number ≡ false → filter (is_outer inside) (steps_at origins router) ≡ steps_at origins router
outside_all inside router [] e = refl
outside_all inside router (o ∷ os) e =
    let n = origin_at router o in
    ap (λ b. cond (not b) (n ∷ filter (is_outer inside) (steps_at os router)) (filter (is_outer inside) (steps_at os router))) e
    ∙ ap (λ (l : List Node). n ∷ l) (outside_all inside router os e)

-- a turn of the loop over the linked routers
pub ways_next : (test : Node → Bool) (down : Node) (origins : List Origin) (near : List RouterId) (i : ℕ) (r d : RouterId) (start before after : List Edge) → i < length near → r ≡ get_or near i d → before ≡ start ++ map (edge_from down) (filter test (flat_map (steps_at origins) (take i near))) → after ≡ before ++ map (edge_from down) (filter test (steps_at origins r)) → after ≡ start ++ map (edge_from down) (filter test (flat_map (steps_at origins) (take (i + 1) near)))
ways_next test down origins near i r d start before after l is so_far more =
    let done = flat_map (steps_at origins) (take i near) in
    more ∙ ap (λ (b : List Edge). b ++ map (edge_from down) (filter test (steps_at origins r))) so_far
    ∙ append_assoc start (map (edge_from down) (filter test done)) (map (edge_from down) (filter test (steps_at origins r)))
    ∙ ap (λ (x : List Edge). start ++ x) (sym (map-append (edge_from down) (filter test done) (filter test (steps_at origins r))))
    ∙ ap (λ (x : List Node). start ++ map (edge_from down) x) (sym (filter-append test done (steps_at origins r)))
    ∙ ap (λ (x : List Node). start ++ map (edge_from down) (filter test x)) (sym (flat_map_next (steps_at origins) near i r d l is))

-- the steps of all linked routers
pub steps_same : (links : List Link) (router : ℕ) (near : List RouterId) (origins : List Origin) → ((q : RouterId) → Contains near q ↔ IsTrue (is_linked links router q.number)) → (n : Node) → Contains (flat_map (steps_at origins) near) n ↔ (IsTrue (is_linked links router n.router.number) × IsSigOf origins n)
steps_same links router near origins linked n =
    let Near : RouterId → Type 0 = λ r. Contains near r in
    let At : Node → Type 0 = λ m. Contains (steps_at origins n.router) m in (
      (λ h.
          let p = from_flat_map (steps_at origins) near n h in
          let i = from_map (origin_at p.of) origins n p.in_piece in
          ((linked n.router).0 (subst Near (ap (λ (x : Node). x.router) i.is) p.has), record { origin = i.of; has = i.has; is = ap (λ (x : Node). x.sig) i.is })),
      (λ s.
          let N : Sig → Node = λ t. record { router = n.router; sig = t } in
          into_flat_map (steps_at origins) near n.router n ((linked n.router).1 s.0) (subst At (ap N s.1.is) (into_map (origin_at n.router) origins s.1.origin s.1.has))),
    )

-- they ascend where routers and origins do
pub steps_ordered : (near : List RouterId) (origins : List Origin) → IsStrictlySortedBy router_cmp near → IsStrictlySortedBy origin_cmp origins → IsStrictlySortedBy node_cmp (flat_map (steps_at origins) near)
steps_ordered near origins routers sigs =
    sorted_parts router_cmp node_cmp (steps_at origins) near
    (λ r. sorted_map origin_cmp node_cmp (origin_at r) origins (λ a b h. lower_sig r a.sig b.sig h) sigs)
    (λ r q a b h in_r in_q.
    let i = from_map (origin_at r) origins a in_r in
    let j = from_map (origin_at q) origins b in_q in
    lower_router a b (ap (λ (n : Node). router_cmp n.router b.router) (sym i.is) ∙ ap (λ (n : Node). router_cmp r n.router) (sym j.is) ∙ h))
    routers

-- origins ascend where their signatures do
pub origins_ordered : (f : Sig → Option ℕ) (sigs : List Sig) (origins : List Origin) → origins ≡ map (λ s. record { sig = s; row = f s }) sigs → IsStrictlySortedBy sig_cmp sigs → IsStrictlySortedBy origin_cmp origins
origins_ordered f sigs origins is ordered =
    let O : Sig → Origin = λ s. record { sig = s; row = f s } in
    subst (λ l. IsStrictlySortedBy origin_cmp l) (sym is) (sorted_map sig_cmp origin_cmp O sigs (λ a b h. h) ordered)

-- an origin of some signatures
pub sig_same : (f : Sig → Option ℕ) (sigs : List Sig) (origins : List Origin) → origins ≡ map (λ s. record { sig = s; row = f s }) sigs → (n : Node) → IsSigOf origins n ↔ Contains sigs n.sig
sig_same f sigs origins is n =
    let O : Sig → Origin = λ s. record { sig = s; row = f s } in
    let Has : List Origin → Origin → Type 0 = λ l o. Contains l o in
    let Sigs : Sig → Type 0 = λ s. Contains sigs s in (
      (λ (s : IsSigOf origins n).
          let P : List Origin → Type 0 = λ l. Contains l s.origin in
          let i = from_map O sigs s.origin (subst P is s.has) in
          subst Sigs (ap (λ (o : Origin). o.sig) i.is ∙ s.is) i.has),
      (λ h.
          let P : List Origin → Type 0 = λ l. Contains l (O n.sig) in
          record { origin = O n.sig; has = subst P (sym is) (into_map O sigs n.sig h); is = refl }),
    )

-- each row is that of its signature
pub row_same : (f : Sig → Option ℕ) (sigs : List Sig) (origins : List Origin) → origins ≡ map (λ s. record { sig = s; row = f s }) sigs → (o : Origin) → Contains origins o → f o.sig ≡ o.row
row_same f sigs origins is o h =
    let O : Sig → Origin = λ s. record { sig = s; row = f s } in
    let P : List Origin → Type 0 = λ l. Contains l o in
    let i = from_map O sigs o (subst P is h) in
    let Q : Origin → Type 0 = λ x. f x.sig ≡ x.row in
    subst Q i.is refl

-- tests that agree on routers that exist
pub filter_same : (p q : Node → Bool) (xs : List Node) → ((n : Node) → Contains xs n → p n ≡ q n) → filter p xs ≡ filter q xs
filter_same p q [] same = refl
filter_same p q (x ∷ xs) same =
    ap (λ b. cond b (x ∷ filter p xs) (filter p xs)) (same x (has_first x xs))
    ∙ ap (λ (l : List Node). cond (q x) (x ∷ l) l) (filter_same p q xs (λ n h. same n (has_later x xs n h)))

-- a turn of the loop over origins, with a test and with none
origin_front : (router : RouterId) (os : List Origin) (i : ℕ) (d : Origin) → i < length os → steps_at (take (i + 1) os) router ≡ steps_at (take i os) router ++ origin_at router (get_or os i d) ∷ []
origin_front router os i d l = ap (λ (x : List Origin). steps_at x router) (take_more os i d l) ∙ map-append (origin_at router) (take i os) (get_or os i d ∷ [])

pub outer_next : (down : Node) (router : RouterId) (os : List Origin) (i : ℕ) (d : Origin) (start before after : List Edge) → i < length os → before ≡ start ++ map (edge_from down) (steps_at (take i os) router) → after ≡ before ++ edge_from down (origin_at router (get_or os i d)) ∷ [] → after ≡ start ++ map (edge_from down) (steps_at (take (i + 1) os) router)
outer_next down router os i d start before after l so_far is =
    let n = origin_at router (get_or os i d) in
    is ∙ ap (λ (b : List Edge). b ++ edge_from down n ∷ []) so_far
    ∙ append_assoc start (map (edge_from down) (steps_at (take i os) router)) (edge_from down n ∷ [])
    ∙ ap (λ (x : List Edge). start ++ x) (sym (map-append (edge_from down) (steps_at (take i os) router) (n ∷ [])))
    ∙ ap (λ (x : List Node). start ++ map (edge_from down) x) (sym (origin_front router os i d l))

pub inner_next : (p : Node → Bool) (down : Node) (router : RouterId) (os : List Origin) (i : ℕ) (d : Origin) (start before after : List Edge) → i < length os → before ≡ start ++ map (edge_from down) (filter p (steps_at (take i os) router)) → ((p (origin_at router (get_or os i d)) ≡ true) × (after ≡ before ++ edge_from down (origin_at router (get_or os i d)) ∷ [])) ⊎ ((p (origin_at router (get_or os i d)) ≡ false) × (after ≡ before)) → after ≡ start ++ map (edge_from down) (filter p (steps_at (take (i + 1) os) router))
inner_next p down router os i d start before after l so_far cases =
    let n = origin_at router (get_or os i d) in
    let done = filter p (steps_at (take i os) router) in
    let next : (b : Bool) → p n ≡ b → filter p (steps_at (take (i + 1) os) router) ≡ done ++ cond b (n ∷ []) [] =
    λ b e. ap (filter p) (origin_front router os i d l) ∙ filter-append p (steps_at (take i os) router) (n ∷ []) ∙ ap (λ v. done ++ cond v (n ∷ []) []) e in
    ⊎_elim
    (λ yes. yes.1 ∙ ap (λ (b : List Edge). b ++ edge_from down n ∷ []) so_far
    ∙ append_assoc start (map (edge_from down) done) (edge_from down n ∷ [])
    ∙ ap (λ (x : List Edge). start ++ x) (sym (map-append (edge_from down) done (n ∷ [])))
    ∙ ap (λ (x : List Node). start ++ map (edge_from down) x) (sym (next true yes.0)))
    (λ no. no.1 ∙ so_far
    ∙ ap (λ (x : List Node). start ++ map (edge_from down) x) (sym (next false no.0 ∙ append-nil done)))
    cases

-- by the origins of a net, and by a test that agrees at routers that are linked
pub adds_ways : (net : Net) (links : List Link) (p q : Node → Bool) (down : Node) (f : Sig → Option ℕ) (sigs : List Sig) (os : List Origin) (before after : List Edge) → net.linked ≡ is_linked links → sigs ≡ net.origins down → os ≡ map (λ s. record { sig = s; row = f s }) sigs
    → ((n : Node) → IsTrue (is_linked links down.router.number n.router.number) → p n ≡ q n) → AppendsWays links p down os before after → AddsWays net q down before after
adds_ways net links p q down f sigs os before after linked origins is agree a = record {
  steps = a.steps;
  same = λ n.
      let Has : List Sig → Type 0 = λ l. Contains l n.sig in
      let Joined : (ℕ → ℕ → Bool) → Type 0 = λ g. IsTrue (g down.router.number n.router.number) in (
        (λ h. let s = (a.same n).0 h in record { linked = subst Joined (sym linked) s.0; origin = subst Has origins ((sig_same f sigs os is n).0 s.1) }),
        (λ (s : IsStep net down n). (a.same n).1 (subst Joined linked s.linked, (sig_same f sigs os is n).1 (subst Has (sym origins) s.origin))),
      );
  ordered = a.ordered;
  added = a.added ∙ ap (λ (x : List Node). before ++ map (edge_from down) x) (filter_same p q a.steps (λ n h. agree n ((a.same n).0 h).0));
}
