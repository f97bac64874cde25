-- The routers beside each router.
use Rattle.std.proofs.Common.{◌≡◌, ◌∙◌, ◌↔◌, ◌⊎◌, inl, inr, ⊎_elim, ◌∷◌, [], ◌++◌, ℕ, ◌+◌, ◌<◌, ◌==◌, ◌&&◌, Bool, true, false, IsTrue, List, length, map, slice_index_or, if◌then◌else◌, refl, sym, subst, ap, arith}
use Rattle.std.specs.List.{Contains, flat_map}
use Rattle.std.specs.List.Sorted.{IsStrictlySortedBy}
use Rattle.std.proofs.lemmas.Bool.{eq-eqb, eqb-true, false≢true}
use Rattle.std.proofs.lemmas.List.{get_or_append_left, length-append}
use Rattle.std.proofs.Math.Seq.{get_or-append_seam}
use Rattle.std.proofs.lemmas.List.Elements.{Contains-append_cases, Contains-append_left, Contains-append_right}
use Rattle.spie_base.proofs.Booleans.{both_held, both_hold, one_held, one_holds}
use Rattle.spie_base.proofs.Membership.{from_flat_map, has_first, has_none, has_one}
use Rattle.spie_base.specs.Order.{router_cmp}
use Rattle.spie_base.specs.declared.RouterId.{RouterId}
use Rattle.topology.specs.Layout.{is_linked, joins}
use Rattle.topology.specs.Wired.{IsNear}
use Rattle.evidence_text.specs.declared.certificates.Link.{Link}
use Rattle.evidence_check.specs.Evidence.{stated_link}
use Rattle.evidence_check.specs.Steps.{AreNear, LinksExist, across}

-- ---- one link

module _ (a : ℕ) (l : Link) (q : RouterId) where
  abbrev Joined : Type 0
  Joined = joins a q.number (stated_link l) ≡ true

  abbrev ends : Bool → Bool → List RouterId
  ends low high = if low then l.high ∷ [] else if high then l.low ∷ [] else []

  same_number : (x : RouterId) → x ≡ q → (x.number == q.number) ≡ true
  same_number x e = eq-eqb x.number q.number (ap (λ (r : RouterId). r.number) e)

  same_router : (x : RouterId) → x.number ≡ q.number → x ≡ q
  same_router x e = let R : ℕ → RouterId = λ n. record { number = n } in ap R e

  only : (x : RouterId) → x.number ≡ q.number → Contains (x ∷ []) q
  only x e = let P : RouterId → Type 0 = λ y. Contains (x ∷ []) y in subst P (same_router x e) (has_first x [])

  end_joins : (low high : Bool) → (l.low.number == a) ≡ low → (l.high.number == a) ≡ high → Contains (ends low high) q → Joined
  end_joins true high lo hi has = one_holds (l.low.number == a && l.high.number == q.number) (l.low.number == q.number && l.high.number == a) (inl (both_hold (l.low.number == a) (l.high.number == q.number) lo (same_number l.high (has_one l.high q has))))
  end_joins false true lo hi has = one_holds (l.low.number == a && l.high.number == q.number) (l.low.number == q.number && l.high.number == a) (inr (both_hold (l.low.number == q.number) (l.high.number == a) (same_number l.low (has_one l.low q has)) hi))
  end_joins false false lo hi has = absurd (has_none q has)

  joins_cases : Joined → ((l.low.number ≡ a) × (l.high.number ≡ q.number)) ⊎ ((l.low.number ≡ q.number) × (l.high.number ≡ a))
  joins_cases j = ⊎_elim
      (λ x. let p = both_held (l.low.number == a) (l.high.number == q.number) x in inl (eqb-true l.low.number a p.0, eqb-true l.high.number q.number p.1))
      (λ x. let p = both_held (l.low.number == q.number) (l.high.number == a) x in inr (eqb-true l.low.number q.number p.0, eqb-true l.high.number a p.1))
      (one_held (l.low.number == a && l.high.number == q.number) (l.low.number == q.number && l.high.number == a) j)

  joins_end : (low high : Bool) → (l.low.number == a) ≡ low → (l.high.number == a) ≡ high → Joined → Contains (ends low high) q
  joins_end true high lo hi j = only l.high (⊎_elim (λ p. p.1) (λ p. let at = eqb-true l.low.number a lo in p.1 ∙ sym at ∙ p.0) (joins_cases j))
  joins_end false true lo hi j = only l.low (⊎_elim (λ p. absurd (false≢true (sym lo ∙ eq-eqb l.low.number a p.0))) (λ p. p.0) (joins_cases j))
  joins_end false false lo hi j = absurd (⊎_elim (λ p. false≢true (sym lo ∙ eq-eqb l.low.number a p.0)) (λ p. false≢true (sym hi ∙ eq-eqb l.high.number a p.1)) (joins_cases j))

  end_is : (low high : Bool) → Contains (ends low high) q → (l.high ≡ q) ⊎ (l.low ≡ q)
  end_is true high has = inl (has_one l.high q has)
  end_is false true has = inr (has_one l.low q has)
  end_is false false has = absurd (has_none q has)

-- ---- all links

linked_forth : (a : ℕ) (links : List Link) (q : RouterId) → Contains (flat_map (across a) links) q → IsTrue (is_linked (map stated_link links) a q.number)
linked_forth a [] q has = absurd (has_none q has)
linked_forth a (l ∷ links) q has = one_holds (joins a q.number (stated_link l)) (is_linked (map stated_link links) a q.number)
    (⊎_elim
    (λ here. inl (end_joins a l q (l.low.number == a) (l.high.number == a) refl refl here))
    (λ later. inr (linked_forth a links q later))
    (Contains-append_cases (across a l) (flat_map (across a) links) q has))

linked_back : (a : ℕ) (links : List Link) (q : RouterId) → IsTrue (is_linked (map stated_link links) a q.number) → Contains (flat_map (across a) links) q
linked_back a [] q linked = absurd (false≢true linked)
linked_back a (l ∷ links) q linked = ⊎_elim
    (λ here. Contains-append_left (across a l) (flat_map (across a) links) q (joins_end a l q (l.low.number == a) (l.high.number == a) refl refl here))
    (λ later. Contains-append_right (across a l) (flat_map (across a) links) q (linked_back a links q later))
    (one_held (joins a q.number (stated_link l)) (is_linked (map stated_link links) a q.number) linked)

pub near_is : (links : List Link) (a : ℕ) (found near : List RouterId) → found ≡ flat_map (across a) links → IsStrictlySortedBy router_cmp near → ((q : RouterId) → Contains near q ↔ Contains found q) → IsNear (map stated_link links) a near
near_is links a found near is ordered same = record {
  ordered = ordered;
  same = λ q.
      let s = same q in
      let Has : List RouterId → Type 0 = λ l. Contains l q in
      ((λ h. linked_forth a links q (subst Has is (s.0 h))), (λ h. s.1 (subst Has (sym is) (linked_back a links q h))));
}

-- ---- one router after another

pub near_none : (links : List Link) → AreNear links []
near_none links = λ a d l. let none : ⊥ = omega (arith, l) in absurd none

at_last : (a size : ℕ) → a < size + 1 → (a < size) ⊎ (a ≡ size)
at_last a size l = cases (a == size) refl
  where
    cases : (b : Bool) → (a == size) ≡ b → (a < size) ⊎ (a ≡ size)
    cases true e = inr (eqb-true a size e)
    cases false e = let ne : a ≡ size → ⊥ = λ s. false≢true (sym e ∙ eq-eqb a size s) in inl (omega (arith, l, ne))

pub near_more : (links : List Link) (near : List (List RouterId)) (x : List RouterId) → AreNear links near → IsNear (map stated_link links) (length near) x → AreNear links (near ++ x ∷ [])
near_more links near x before last = λ a d l.
    let size : length (near ++ x ∷ []) ≡ length near + 1 = length-append near (x ∷ []) in
    let P : List RouterId → Type 0 = λ y. IsNear (map stated_link links) a y in
    ⊎_elim
    (λ (lt : a < length near). subst P (sym (get_or_append_left near (x ∷ []) d a lt)) (before a d lt))
    (λ (e : a ≡ length near).
    let Q : ℕ → Type 0 = λ k. IsNear (map stated_link links) k (slice_index_or (near ++ x ∷ []) k d) in
    let R : List RouterId → Type 0 = λ y. IsNear (map stated_link links) (length near) y in
    subst Q (sym e) (subst R (sym (get_or-append_seam near x [] d)) last))
    (at_last a (length near) (omega (arith, l, size)))

-- ---- their ends

pub links_exist : (routers : ℕ) (links : List Link) → ((l : Link) → Contains links l → (l.low.number < routers) × (l.high.number < routers)) → LinksExist routers links
links_exist routers links known = λ a b linked.
    let q : RouterId = record { number = b } in
    let p = from_flat_map (across a) links q (linked_back a links q linked) in
    let l : Link = p.of in
    let k = known l p.has in
    let P : RouterId → Type 0 = λ r. r.number < routers in
    ⊎_elim (λ (e : l.high ≡ q). subst P e k.1) (λ (e : l.low ≡ q). subst P e k.0) (end_is a l q (l.low.number == a) (l.high.number == a) p.in_piece)
