-- What holds of a manager's requests from the start holds after each part that is accepted.
use Rattle.std.proofs.Common.{◌≡◌, ◌∙◌, ◌<◌, ℕ, Bool, true, false, ◌⊎◌, inl, inr, ⊎_elim, refl, sym, subst, ap, List, [], ◌∷◌, ◌++◌, None, Some, length, set, slice_get, slice_index}
use Rattle.std.specs.List.{Contains}
use Rattle.std.proofs.lemmas.Bool.{false≢true}
use Rattle.std.proofs.lemmas.Bool.Decides.{Decides-eqb}
use Rattle.std.proofs.lemmas.List.Elements.{Contains-append_cases}
use Rattle.spie_base.proofs.Membership.{has_none, has_first, has_later, has_one, has_cases, from_filter}
use Rattle.topology.specs.Layout.{Layout, IsSound}
use Rattle.reverse_flood.specs.declared.graphs.Node.{Node}
use Rattle.reverse_flood.specs.declared.graphs.Part.{Part}
use Rattle.reverse_flood.specs.Flood.{Net, IsAsked, IsListOf, IsPart, everywhere, in_region, node_cmp}
use Rattle.reverse_flood.specs.Rows.{node_eq}
use Rattle.reverse_flood.proofs.Orders.{node_laws, same_node}
use Rattle.regional_agent.specs.Answers.{AreHome}
use Rattle.regional_agent.specs.Desks.{lying}
use Rattle.agent_wire.specs.declared.requests.Asked.{Asked}
use Rattle.agent_wire.specs.Requests.{IsEntry, AreRequests, LeadsToRouters}
use Rattle.agent_wire.specs.Accepting.{HasAccepted, IsNew, first_request, open_request, requests_for, with_part}
use Rattle.agent_wire.proofs.EntryFacts.{set_entry, some_is, set_has, stood_has}
use Rattle.agent_wire.proofs.FollowFacts.{below_follows, entry_left, entry_right, follow_entry}
use Rattle.agent_wire.proofs.UnionFacts.{wide_node}

-- ---- whether a pair is an entry

either : (b : Bool) → (b ≡ true) ⊎ (b ≡ false)
either true = inl refl
either false = inr refl

has_or_not : (xs : List Node) (n : Node) → Contains xs n ⊎ (Contains xs n → ⊥)
has_or_not [] n = inr (has_none n)
has_or_not (x ∷ xs) n =
    let Has : Node → Type 0 = λ z. Contains (x ∷ xs) z in
    ⊎_elim (λ (e : node_eq x n ≡ true). inl (subst Has (same_node x n e) (has_first x xs)))
    (λ (e : node_eq x n ≡ false). ⊎_elim
    (λ h. inl (has_later x xs n h))
    (λ no. inr (λ h. ⊎_elim (λ (s : x ≡ n). false≢true (sym e ∙ ap (λ z. node_eq x z) (sym s) ∙ node_laws.refl x)) no (has_cases x xs n h)))
    (has_or_not xs n))
    (either (node_eq x n))

entry_or_not : (made : List Asked) (n : Node) → IsEntry made n ⊎ (IsEntry made n → ⊥)
entry_or_not [] n = inr (λ h. has_none h.of h.has)
entry_or_not (q ∷ made) n =
    ⊎_elim (λ h. inl (record { of = q; has = has_first q made; entry = h }))
    (λ no. ⊎_elim
    (λ (h : IsEntry made n). inl (record { of = h.of; has = has_later q made h.of h.has; entry = h.entry }))
    (λ none. inr (λ (h : IsEntry (q ∷ made) n). ⊎_elim
    (λ (s : q ≡ h.of). let At : Asked → Type 0 = λ a. Contains a.entries n in no (subst At (sym s) h.entry))
    (λ k. none (record { of = h.of; has = k; entry = h.entry }))
    (has_cases q made h.of h.has)))
    (entry_or_not made n))
    (has_or_not q.entries n)

none_some : {X : Type 0} (x : X) → None ≡ Some x → ⊥
none_some x e = cc

-- ---- the first request

pub first_keeps : (net : Net) (layout : Layout) (start : Node) → start.router.number < length layout.names → AreRequests net layout start (first_request layout start ∷ [])
first_keeps net layout start exists =
    let one = first_request layout start in
    record {
      begun = record { of = one; has = has_first one []; entry = has_first start [] };
      home = λ q h. let At : Asked → Type 0 = λ a. AreHome layout a.region a.entries in
          subst At (has_one one q h) (λ n k. let In : Node → Type 0 = λ m. (m.router.number < length layout.names) × (slice_index layout.regions m.router.number ≡ one.region) in
          let i = subst In (has_one start n k) (exists, refl) in record { exists = i.0; here = i.1 });
      asked = λ q n h k. let At : Asked → Type 0 = λ a. Contains a.entries n → IsAsked net everywhere (start ∷ []) n in subst At (has_one one q h) inl k;
      answered = λ q p h e. let none : q.part ≡ None = (let At : Asked → Type 0 = λ a. a.part ≡ None in subst At (has_one one q h) refl) in absurd (none_some p (sym none ∙ e));
      followed = λ q p edge h e k. let none : q.part ≡ None = (let At : Asked → Type 0 = λ a. a.part ≡ None in subst At (has_one one q h) refl) in absurd (none_some p (sym none ∙ e));
    }

-- ---- one more part

-- a request after it: the one that got the part, another one from before, or one that follows
after_cases : (layout : Layout) (before : List Asked) (number : ℕ) (with : Asked) (pairs : List Node) (q : Asked) → Contains (set before number with ++ requests_for layout pairs) q
    → (with ≡ q) ⊎ (Contains before q ⊎ (q ≡ open_request q.region (lying layout q.region pairs)))
after_cases layout before number with pairs q h =
    ⊎_elim (λ k. ⊎_elim inl (λ m. inr (inl m)) (set_has before number with q k))
    (λ k. inr (inr (below_follows layout pairs (length layout.region_names) q k).is))
    (Contains-append_cases (set before number with) (requests_for layout pairs) q h)

home_after : (layout : Layout) (number : ℕ) (part : Part) (before : List Asked) (of : Asked) (pairs : List Node) → slice_get before number ≡ Some of → IsListOf node_cmp (IsNew layout (IsEntry before) part) pairs
    → ((q : Asked) → Contains before q → AreHome layout q.region q.entries) → (q : Asked) → Contains (set before number (with_part of part) ++ requests_for layout pairs) q → AreHome layout q.region q.entries
home_after layout number part before of pairs stood news home q h =
    let At : Asked → Type 0 = λ b. AreHome layout b.region b.entries in
    ⊎_elim (λ (e : with_part of part ≡ q). subst At e (home of (stood_has before number of stood)))
    (λ k. ⊎_elim (λ m. home q m)
    (λ (e : q ≡ open_request q.region (lying layout q.region pairs)).
    subst At (sym e) (λ n w.
    let f = from_filter (λ (m : Node). in_region layout q.region m.router.number) pairs n w in
    record { exists = ((news.same n).0 f.0).exists; here = (Decides-eqb (slice_index layout.regions n.router.number) q.region).0 f.1 }))
    k)
    (after_cases layout before number (with_part of part) pairs q h)

pub accepted_home : (layout : Layout) (number : ℕ) (part : Part) (before after : List Asked) → HasAccepted layout number part before after
    → ((q : Asked) → Contains before q → AreHome layout q.region q.entries) → (q : Asked) → Contains after q → AreHome layout q.region q.entries
accepted_home layout number part before after a home =
    let At : List Asked → Type 0 = λ xs. (q : Asked) → Contains xs q → AreHome layout q.region q.entries in
    subst At (sym a.is) (home_after layout number part before a.of a.pairs a.stood a.new_pairs home)

keeps : (net : Net) (layout : Layout) (start : Node) (number : ℕ) (part : Part) (before : List Asked) (of : Asked) (pairs : List Node) → IsSound layout → LeadsToRouters net layout
    → AreRequests net layout start before → slice_get before number ≡ Some of → IsListOf node_cmp (IsNew layout (IsEntry before) part) pairs → IsPart net (in_region layout of.region) of.entries part
    → AreRequests net layout start (set before number (with_part of part) ++ requests_for layout pairs)
keeps net layout start number part before of pairs sound leads are stood news is =
    let with = with_part of part in
    let changed = set before number with in
    let others = requests_for layout pairs in
    let had = stood_has before number of stood in
    let kept : (n : Node) → IsEntry before n → IsEntry (changed ++ others) n = λ n h. entry_left changed others n (set_entry before number part of n stood h) in
    record {
      begun = kept start are.begun;
      home = home_after layout number part before of pairs stood news are.home;
      asked = λ q n h w.
          let At : Asked → Type 0 = λ b. Contains b.entries n in
          ⊎_elim (λ (e : with ≡ q). are.asked of n had (subst At (sym e) w))
          (λ k. ⊎_elim (λ m. are.asked q n m w)
          (λ (e : q ≡ open_request q.region (lying layout q.region pairs)).
          let f = from_filter (λ (m : Node). in_region layout q.region m.router.number) pairs n (subst At e w) in
          let new = (news.same n).0 f.0 in
          let exit = (is.exits.same new.exit).0 new.has in
          let node = wide_node net (in_region layout of.region) of.entries start (λ m i. are.asked of m had i) new.exit.down exit.node in
          let To : Node → Type 0 = λ m. IsAsked net everywhere (start ∷ []) m in
          subst To new.up (inr (record { from = new.exit.down; node = node; step = exit.step; within = refl })))
          k)
          (after_cases layout before number with pairs q h);
      answered = λ q p h e.
          ⊎_elim
          (λ (s : with ≡ q).
          let P : Asked → Type 0 = λ b. IsPart net (in_region layout b.region) b.entries part in
          let same : part ≡ p = some_is part p (ap (λ (b : Asked). b.part) s ∙ e) in
          let Q : Part → Type 0 = λ x. IsPart net (in_region layout q.region) q.entries x in
          subst Q same (subst P s is))
          (λ k. ⊎_elim (λ m. are.answered q p m e)
          (λ (s : q ≡ open_request q.region (lying layout q.region pairs)). absurd (none_some p (sym (ap (λ (b : Asked). b.part) s) ∙ e)))
          k)
          (after_cases layout before number with pairs q h);
      followed = λ q p edge h e w.
          ⊎_elim
          (λ (s : with ≡ q).
          let same : p ≡ part = sym (some_is part p (ap (λ (b : Asked). b.part) s ∙ e)) in
          let Has : Part → Type 0 = λ x. Contains x.exits edge in
          let exits = subst Has same w in
          let exit = (is.exits.same edge).0 exits in
          ⊎_elim (λ known. kept edge.up known)
          (λ fresh.
          let there = leads edge.down.router.number edge.up.router.number exit.step.linked in
          let new = (news.same edge.up).1 (record { exit = edge; has = exits; up = refl; exists = there; unknown = fresh }) in
          entry_right changed others edge.up (follow_entry layout pairs edge.up sound new there))
          (entry_or_not before edge.up))
          (λ k. ⊎_elim (λ m. kept edge.up (are.followed q p edge m e w))
          (λ (s : q ≡ open_request q.region (lying layout q.region pairs)). absurd (none_some p (sym (ap (λ (b : Asked). b.part) s) ∙ e)))
          k)
          (after_cases layout before number with pairs q h);
    }

pub accepting_keeps : (net : Net) (layout : Layout) (start : Node) (number : ℕ) (part : Part) (before after : List Asked) → IsSound layout → LeadsToRouters net layout
    → AreRequests net layout start before → (a : HasAccepted layout number part before after) → IsPart net (in_region layout a.of.region) a.of.entries part → AreRequests net layout start after
accepting_keeps net layout start number part before after sound leads are a is =
    let At : List Asked → Type 0 = λ xs. AreRequests net layout start xs in
    subst At (sym a.is) (keeps net layout start number part before a.of a.pairs sound leads are a.stood a.new_pairs is)
