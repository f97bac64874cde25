-- The requests that follow from a part: their entries are the new pairs to which its exits lead.
use Rattle.std.proofs.Common.{◌≡◌, ◌∙◌, ◌<◌, ℕ, zero, suc, Bool, true, false, ◌⊎◌, ◌↔◌, inl, inr, ⊎_elim, refl, sym, subst, ap, List, [], ◌∷◌, ◌++◌, length, not, nat_lt, slice_index, arith}
use Rattle.std.specs.List.{Contains, filter}
use Rattle.std.specs.BTreeSet.{BTreeSet, contains}
use Rattle.std.specs.Ordering.{ordering_then}
use Rattle.std.specs.declared.cmp.Ordering.{Ordering}
use Rattle.std.specs.declared.cmp.Ordering.TheVariants.{Less, Equal, Greater}
use Rattle.std.proofs.lemmas.Bool.{false≢true, lt-ltb, ltb-true}
use Rattle.std.proofs.lemmas.Bool.Decides.{Decides-eqb, eqb_tells}
use Rattle.std.proofs.lemmas.List.Elements.{Contains-append_left, Contains-append_right, Contains-append_cases}
use Rattle.std.proofs.lemmas.Map.Lookups.{CmpEqualImpliesEq, exact_unsigned}
use Rattle.std.proofs.lemmas.Map.Views.{btree_set_contains_iff}
use Rattle.spie_base.proofs.Booleans.{both_held, both_hold, not_false}
use Rattle.spie_base.proofs.Membership.{has_none, has_first, has_one, from_map, into_map, from_filter, into_filter}
use Rattle.topology.specs.Layout.{Layout, IsSound}
use Rattle.reverse_flood.specs.declared.graphs.Node.{Node}
use Rattle.reverse_flood.specs.declared.graphs.Edge.{Edge}
use Rattle.reverse_flood.specs.declared.graphs.Part.{Part}
use Rattle.reverse_flood.specs.Flood.{node_cmp}
use Rattle.reverse_flood.proofs.Orders.{nodes_total}
use Rattle.reverse_flood.proofs.ToldFacts.{sigs_exact}
use Rattle.regional_agent.specs.Desks.{lying}
use Rattle.agent_wire.specs.declared.requests.Asked.{Asked}
use Rattle.agent_wire.specs.Requests.{IsEntry}
use Rattle.agent_wire.specs.Accepting.{IsNew, open_request, request_of, requests_below, requests_for}
use Rattle.agent_wire.specs.Sets.{is_new, news}

-- ---- pairs are told apart

then_equal : (o p : Ordering) → ordering_then o p ≡ Equal → (o ≡ Equal) × (p ≡ Equal)
then_equal Less p e = let f : Less ≡ Equal = e in let no : ⊥ = cc in absurd no
then_equal Equal p e = (refl, e)
then_equal Greater p e = let f : Greater ≡ Equal = e in let no : ⊥ = cc in absurd no

pub nodes_exact : CmpEqualImpliesEq node_cmp
nodes_exact a b e =
    let both = then_equal _ _ e in
    let N : ℕ → Rattle.spie_base.specs.declared.Sig.Sig → Node = λ r s. record { router = record { number = r }; sig = s } in
    ap (λ r. N r a.sig) (exact_unsigned _ _ both.0) ∙ ap (λ s. N b.router.number s) (sigs_exact _ _ both.1)

-- ---- new pairs

new_held : (layout : Layout) (known : BTreeSet Node) (n : Node) → is_new layout known n ≡ true → (n.router.number < length layout.names) × (Contains known.keys n → ⊥)
new_held layout known n h =
    let both = both_held (nat_lt n.router.number (length layout.names)) (not (contains node_cmp known n)) h in (
      ltb-true _ _ both.0,
      λ k. false≢true (sym (not_false _ both.1) ∙ (btree_set_contains_iff nodes_total nodes_exact known n).1 k),
    )

not_is : (b : Bool) → (b ≡ true → ⊥) → not b ≡ true
not_is true h = absurd (h refl)
not_is false h = refl

new_holds : (layout : Layout) (known : BTreeSet Node) (n : Node) → n.router.number < length layout.names → (Contains known.keys n → ⊥) → is_new layout known n ≡ true
new_holds layout known n l h =
    both_hold (nat_lt n.router.number (length layout.names)) (not (contains node_cmp known n)) (lt-ltb _ _ l)
    (not_is (contains node_cmp known n) (λ c. h ((btree_set_contains_iff nodes_total nodes_exact known n).0 c)))

pub news_are : (layout : Layout) (known : BTreeSet Node) (part : Part) (n : Node) → Contains (news layout known part.exits) n ↔ IsNew layout (λ m. Contains known.keys m) part n
news_are layout known part n =
    let p : Edge → Bool = λ e. is_new layout known e.up in
    let up : Edge → Node = λ e. e.up in (
      (λ h.
          let i = from_map up (filter p part.exits) n h in
          let k = from_filter p part.exits i.of i.has in
          let At : Node → Type 0 = λ m. (m.router.number < length layout.names) × (Contains known.keys m → ⊥) in
          let held = subst At i.is (new_held layout known i.of.up k.1) in
          record { exit = i.of; has = k.0; up = i.is; exists = held.0; unknown = held.1 }),
      (λ (w : IsNew layout (λ m. Contains known.keys m) part n).
          let At : Node → Type 0 = λ m. Contains (news layout known part.exits) m in
          let Is : Node → Type 0 = λ m. is_new layout known m ≡ true in
          subst At w.up (into_map up (filter p part.exits) w.exit (into_filter p part.exits w.exit w.has (subst Is (sym w.up) (new_holds layout known n w.exists w.unknown))))),
    )

-- ---- requests

pub entry_none : (n : Node) → IsEntry [] n → ⊥
entry_none n h = has_none h.of h.has

pub entry_left : (xs ys : List Asked) (n : Node) → IsEntry xs n → IsEntry (xs ++ ys) n
entry_left xs ys n h = record { of = h.of; has = Contains-append_left xs ys h.of h.has; entry = h.entry }

pub entry_right : (xs ys : List Asked) (n : Node) → IsEntry ys n → IsEntry (xs ++ ys) n
entry_right xs ys n h = record { of = h.of; has = Contains-append_right xs ys h.of h.has; entry = h.entry }

pub entry_cases : (xs ys : List Asked) (n : Node) → IsEntry (xs ++ ys) n → IsEntry xs n ⊎ IsEntry ys n
entry_cases xs ys n h = ⊎_elim (λ k. inl (record { of = h.of; has = k; entry = h.entry })) (λ k. inr (record { of = h.of; has = k; entry = h.entry })) (Contains-append_cases xs ys h.of h.has)

-- what a request that follows is
pub record Follows (layout : Layout) (pairs : List Node) (q : Asked) : Type 0 where
  pub is : q ≡ open_request q.region (lying layout q.region pairs)

one_follows : (layout : Layout) (pairs : List Node) (region : ℕ) (lies : List Node) (q : Asked) → lies ≡ lying layout region pairs → Contains (request_of region lies) q → Follows layout pairs q
one_follows layout pairs region [] q e h = absurd (has_none q h)
one_follows layout pairs region (n ∷ others) q e h =
    let is : open_request region (n ∷ others) ≡ q = has_one _ q h in
    let At : Asked → Type 0 = λ a. a ≡ open_request a.region (lying layout a.region pairs) in
    record { is = subst At is (ap (λ (l : List Node). open_request region l) e) }

pub below_follows : (layout : Layout) (pairs : List Node) (number : ℕ) (q : Asked) → Contains (requests_below layout pairs number) q → Follows layout pairs q
unfolding requests_below
below_follows layout pairs zero q h = absurd (has_none q h)
below_follows layout pairs (suc region) q h =
    ⊎_elim (λ k. below_follows layout pairs region q k)
    (λ k. one_follows layout pairs region (lying layout region pairs) q refl k)
    (Contains-append_cases (requests_below layout pairs region) (request_of region (lying layout region pairs)) q h)

one_entry : (region : ℕ) (lies : List Node) (n : Node) → Contains lies n → IsEntry (request_of region lies) n
one_entry region [] n h = absurd (has_none n h)
one_entry region (m ∷ others) n h = record { of = open_request region (m ∷ others); has = has_first _ []; entry = h }

below_or_at : (a b : ℕ) → a < suc b → (a < b) ⊎ (a ≡ b)
below_or_at a b l = ⊎_elim (λ e. inr e.1) (λ n. inl (omega (arith, l, n.1))) (eqb_tells a b)

pub below_entry : (layout : Layout) (pairs : List Node) (number : ℕ) (n : Node) → Contains pairs n → slice_index layout.regions n.router.number < number → IsEntry (requests_below layout pairs number) n
unfolding requests_below
below_entry layout pairs zero n h l = absurd (omega (arith, l))
below_entry layout pairs (suc region) n h l =
    let it = slice_index layout.regions n.router.number in
    let others = requests_below layout pairs region in
    let these = request_of region (lying layout region pairs) in
    ⊎_elim
    (λ (less : it < region). entry_left others these n (below_entry layout pairs region n h less))
    (λ (same : it ≡ region). entry_right others these n (one_entry region _ n (into_filter _ pairs n h ((Decides-eqb it region).1 same))))
    (below_or_at it region l)

-- the entries of the requests that follow are the pairs
pub follow_entry : (layout : Layout) (pairs : List Node) (n : Node) → IsSound layout → Contains pairs n → n.router.number < length layout.names → IsEntry (requests_for layout pairs) n
follow_entry layout pairs n sound h l = below_entry layout pairs (length layout.region_names) n h (sound.homes n.router.number l)

pub entry_follows : (layout : Layout) (pairs : List Node) (n : Node) → IsEntry (requests_for layout pairs) n → Contains pairs n
entry_follows layout pairs n h =
    let f = below_follows layout pairs (length layout.region_names) h.of h.has in
    let At : Asked → Type 0 = λ a. Contains a.entries n in
    (from_filter _ pairs n (subst At f.is h.entry)).0
