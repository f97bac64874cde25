-- Walks over the steps from a pair, those of one signature at a time.
use Rattle.std.proofs.Common.{◌≡◌, ◌∙◌, ◌+◌, ◌<◌, ◌≤◌, ◌↔◌, ◌⊎◌, inl, inr, ⊎_elim, ℕ, Bool, IsTrue, ◌∷◌, [], ◌++◌, List, length, take, slice_get, Some, refl, sym, subst, arith}
use Rattle.std.specs.List.{Contains, flat_map}
use Rattle.std.proofs.lemmas.List.Elements.{Contains-append_left, Contains-push, Contains-push_cases}
use Rattle.spie_base.proofs.Membership.{from_flat_map, from_map, has_none, into_flat_map}
use Rattle.spie_base.specs.declared.RouterId.{RouterId}
use Rattle.spie_base.specs.declared.Sig.{Sig}
use Rattle.topology.specs.declared.limits.TheConstants.{ROUTERS_MOST}
use Rattle.reverse_flood.specs.declared.graphs.Node.{Node}
use Rattle.reverse_flood.specs.Flood.{Net, IsStep}
use Rattle.reverse_flood.specs.Leads.{pair_with, pairs_with}
use Rattle.reverse_flood.proofs.WayFacts.{take_done}
use Rattle.evidence_check.specs.Lines.{Exist}
use Rattle.evidence_check.specs.Steps.{AreFewRouters}
use Rattle.evidence_check.proofs.LeftFacts.{taken_more}
use Rattle.evidence_check.proofs.Places.{at_place}
use Rattle.evidence_check.proofs.WalkFacts.{steps_are}

pub few_steps : (near : List RouterId) (sig : Sig) (steps : List Node) → steps ≡ pairs_with near sig → AreFewRouters near → Exist ROUTERS_MOST steps
few_steps near sig steps is few = λ n has.
    let Has : List Node → Type 0 = λ l. Contains l n in
    let i = from_map (pair_with sig) near n (subst Has is has) in
    let P : Node → Type 0 = λ m. m.router.number < ROUTERS_MOST in
    subst P i.is (few i.of i.has)

pub few_beside : (net : Net) (node : Node) (routers : ℕ) (near : List RouterId) → ((q : RouterId) → Contains near q ↔ IsTrue (net.linked node.router.number q.number)) → ((a b : ℕ) → IsTrue (net.linked a b) → b < routers) → routers ≤ ROUTERS_MOST → AreFewRouters near
few_beside net node routers near linked ends few = λ q has. let l = linked q in let e = ends node.router.number q.number (l.0 has) in omega (arith, e, few)

-- ---- a walk so far

module _ (near : List RouterId) (origins : List Sig) where
  abbrev pub IsWalked : ℕ → Node → Type 0
  IsWalked place n = Contains (flat_map (pairs_with near) (take place origins)) n

  pub walked_none : (n : Node) → IsWalked 0 n → ⊥
  walked_none n has = has_none n has

  pub walked_more : (place : ℕ) (sig : Sig) (steps : List Node) → slice_get origins place ≡ Some sig → steps ≡ pairs_with near sig → (n : Node) → IsWalked (place + 1) n ↔ (IsWalked place n ⊎ Contains steps n)
  walked_more place sig steps at is n =
      let more = taken_more origins place sig at in
      let Has : List Node → Type 0 = λ l. Contains l n in
      let In : Sig → Type 0 = λ s. Contains (pairs_with near s) n in
      let Of : List Sig → Type 0 = λ l. Contains (flat_map (pairs_with near) l) n in (
        (λ h.
            let p = from_flat_map (pairs_with near) (take place origins ++ sig ∷ []) n (subst Of more h) in
            ⊎_elim
            (λ before. inl (into_flat_map (pairs_with near) (take place origins) p.of n before p.in_piece))
            (λ (e : sig ≡ p.of). inr (subst Has (sym is) (subst In (sym e) p.in_piece)))
            (Contains-push_cases (take place origins) sig p.of p.has)),
        (λ h. subst Of (sym more) (⊎_elim
            (λ before.
            let p = from_flat_map (pairs_with near) (take place origins) n before in
            into_flat_map (pairs_with near) (take place origins ++ sig ∷ []) p.of n (Contains-append_left (take place origins) (sig ∷ []) p.of p.has) p.in_piece)
            (λ here. into_flat_map (pairs_with near) (take place origins ++ sig ∷ []) sig n (Contains-push (take place origins) sig) (subst Has is here))
            h)),
      )

  -- one signature's steps are among all
  pub walked_part : (place : ℕ) (sig : Sig) (steps : List Node) → slice_get origins place ≡ Some sig → steps ≡ pairs_with near sig → (n : Node) → Contains steps n → Contains (flat_map (pairs_with near) origins) n
  walked_part place sig steps at is n has = let Has : List Node → Type 0 = λ l. Contains l n in into_flat_map (pairs_with near) origins sig n (at_place origins place sig at) (subst Has is has)

  -- what holds of the steps so far, and of those of one signature more
  pub over_more : (Q : Node → Type 0) (place : ℕ) (sig : Sig) (steps : List Node) → slice_get origins place ≡ Some sig → steps ≡ pairs_with near sig → ((n : Node) → IsWalked place n → Q n) → ((n : Node) → Contains steps n → Q n) → (n : Node) → IsWalked (place + 1) n → Q n
  over_more Q place sig steps at is before here n has = let m = walked_more place sig steps at is n in ⊎_elim (λ b. before n b) (λ h. here n h) (m.0 has)

  pub over_all : (Q : Node → Type 0) (place : ℕ) → place ≡ length origins → ((n : Node) → IsWalked place n → Q n) → (n : Node) → Contains (flat_map (pairs_with near) origins) n → Q n
  over_all Q place whole walked n has =
      let Of : List Sig → Type 0 = λ l. Contains (flat_map (pairs_with near) l) n in
      walked n (subst Of (sym (take_done origins place whole)) has)

-- ---- the steps are those of the net

pub steps_same : (net : Net) (node : Node) (near : List RouterId) (origins found : List Sig) → found ≡ origins → origins ≡ net.origins node → ((q : RouterId) → Contains near q ↔ IsTrue (net.linked node.router.number q.number)) → (n : Node) → Contains (flat_map (pairs_with near) found) n ↔ IsStep net node n
steps_same net node near origins found is from linked = steps_are net node near found (flat_map (pairs_with near) found) refl (is ∙ from) linked

-- what holds of all of them
pub over_same : (S T : Node → Type 0) → ((n : Node) → S n ↔ T n) → (Q : Node → Type 0) (said : Bool) → IsTrue said ↔ ((n : Node) → S n → Q n) → IsTrue said ↔ ((n : Node) → T n → Q n)
over_same S T same Q said is = (
  (λ t n h. let s = same n in is.0 t n (s.1 h)),
  (λ all. is.1 (λ n h. let s = same n in all n (s.0 h))),
)
