-- The lines of pairs that are no hit, one by one.
use Rattle.std.proofs.Common.{◌≡◌, ◌∙◌, ℕ, ◌+◌, ◌<◌, ◌↔◌, ◌⊎◌, inl, inr, ⊎_elim, ◌∷◌, [], ◌++◌, Bool, true, false, cond, IsTrue, List, take, slice_get, Some, suc, refl, sym, subst, ap, arith}
use Rattle.std.specs.List.{Contains}
use Rattle.std.proofs.Math.Seq.{take-suc}
use Rattle.std.proofs.lemmas.Bool.{false≢true}
use Rattle.std.proofs.lemmas.Option.{slice_get_within, get_or_from_slice_get}
use Rattle.std.proofs.lemmas.List.Elements.{Contains-append_left, Contains-push, Contains-push_cases}
use Rattle.spie_base.proofs.Membership.{has_none}
use Rattle.topology.specs.declared.limits.TheConstants.{ROUTERS_MOST}
use Rattle.reverse_flood.specs.declared.graphs.Node.{Node}
use Rattle.reverse_flood.specs.Flood.{Net, node_cmp}
use Rattle.reverse_flood.specs.Rows.{node_eq}
use Rattle.reverse_flood.proofs.Orders.{same_node, node_laws}
use Rattle.evidence_check.specs.declared.pairs.Cell.{Cell}
use Rattle.evidence_check.specs.declared.pairs.Cell.TheVariants as cell
use Rattle.evidence_check.specs.declared.pairs.Pairs.{Pairs}
use Rattle.evidence_check.specs.Judging.{IsAbove}
use Rattle.evidence_check.specs.Pairs.{IsLeftIn, LeftAtIn, LeftHoldsIn, Tells, cell_at, is_asked, is_asked_cell, is_node, is_node_cell, is_told, is_told_cell}
use Rattle.evidence_check.proofs.Places.{some_same}

-- ---- what is noted

no_node_asked : (c : Cell) → is_asked_cell c ≡ true → is_node_cell c ≡ false
no_node_asked cell.Free e = refl
no_node_asked cell.Node e = absurd (false≢true e)
no_node_asked cell.Asked e = refl
no_node_asked cell.Told e = refl

-- the first item more
pub taken_more : {X : Type 0} (xs : List X) (place : ℕ) (x : X) → slice_get xs place ≡ Some x → take (place + 1) xs ≡ take place xs ++ x ∷ []
taken_more {X} xs place x at =
    let one : place + 1 ≡ suc place = omega arith in
    let L : X → List X = λ y. take place xs ++ y ∷ [] in
    ap (λ k. take k xs) one ∙ take-suc xs place x (slice_get_within xs place x at) ∙ ap L (get_or_from_slice_get xs place x x at)

-- a pair that was asked is told
pub record IsCase (x : Node) (old new : Pairs) (n : Node) : Type 0 where
  pub cases : ((x ≡ n) × (cell_at new n ≡ cell.Told)) ⊎ ((node_eq x n ≡ false) × (cell_at new n ≡ cell_at old n))

case_of : (x : Node) (old new : Pairs) → ((n : Node) → n.router.number < ROUTERS_MOST → cell_at new n ≡ cond (node_eq x n) cell.Told (cell_at old n)) → (n : Node) → n.router.number < ROUTERS_MOST → IsCase x old new n
case_of x old new writes n few =
    let by : (b : Bool) → node_eq x n ≡ b → IsCase x old new n =
    elim [
      | true ↦ λ e. record { cases = inl (same_node x n e, writes n few ∙ ap (λ b. cond b cell.Told (cell_at old n)) e) }
      | false ↦ λ e. record { cases = inr (e, writes n few ∙ ap (λ b. cond b cell.Told (cell_at old n)) e) }
    ] in
    by (node_eq x n) refl

pub tells_none : (old : Pairs) → Tells [] old old
tells_none old = record {
  nodes = λ n few. refl;
  asked = λ n few. refl;
  told = λ n few. ((λ h. inl h), (λ h. ⊎_elim (λ a. a) (λ none. absurd (has_none n none)) h));
}

pub tells_more : (first old new : Pairs) (left : List Node) (x : Node) → Tells left first old → is_asked old x ≡ true → ((n : Node) → n.router.number < ROUTERS_MOST → cell_at new n ≡ cond (node_eq x n) cell.Told (cell_at old n)) → Tells (left ++ x ∷ []) first new
tells_more first old new left x tells was writes = record {
  nodes = λ n few. ⊎_elim
      (λ here.
      let P : Node → Type 0 = λ m. is_node old m ≡ false in
      ap is_node_cell here.1 ∙ sym (subst P here.0 (no_node_asked (cell_at old x) was)) ∙ tells.nodes n few)
      (λ other. ap is_node_cell other.1 ∙ tells.nodes n few)
      (case_of x old new writes n few).cases;
  asked = λ n few. ⊎_elim
      (λ here.
      let P : Node → Type 0 = λ m. is_asked old m ≡ true in
      ap is_asked_cell here.1 ∙ sym (subst P here.0 was) ∙ tells.asked n few)
      (λ other. ap is_asked_cell other.1 ∙ tells.asked n few)
      (case_of x old new writes n few).cases;
  told = λ n few. ⊎_elim
      (λ here.
      let P : Node → Type 0 = λ m. Contains (left ++ x ∷ []) m in
      ((λ h. inr (subst P here.0 (Contains-push left x))), (λ h. ap is_told_cell here.1)))
      (λ other.
      let t = tells.told n few in
      let same : is_told new n ≡ is_told old n = ap is_told_cell other.1 in (
        (λ h. ⊎_elim (λ a. inl a) (λ b. inr (Contains-append_left left (x ∷ []) n b)) (t.0 (sym same ∙ h))),
        (λ h. same ∙ t.1 (⊎_elim
            (λ a. inl a)
            (λ b. ⊎_elim
            (λ o. inr o)
            (λ (e : x ≡ n). let E : Node → Type 0 = λ m. node_eq x m ≡ true in absurd (false≢true (sym other.0 ∙ subst E e (node_laws.refl x))))
            (Contains-push_cases left x n b))
            h)),
      ))
      (case_of x old new writes n few).cases;
}

-- ---- one line

module _ (net : Net) (first : Pairs) (misses : Bool) (left : List Node) (place : ℕ) (x : Node) (at : slice_get left place ≡ Some x) where
  pub left_low : (said : Bool) → IsTrue said ↔ IsAbove node_cmp left place x → said ≡ false → LeftAtIn net first misses left place → ⊥
  left_low said is unsaid holds = let h = holds x at in false≢true (sym unsaid ∙ is.1 h.above)

  -- by what is known of it now
  pub left_unfit : (now : Pairs) (said : Bool) → is_asked now x ≡ is_asked first x → IsTrue said ↔ IsLeftIn net now misses x → said ≡ false → LeftAtIn net first misses left place → ⊥
  left_unfit now said same is unsaid holds =
      let h = holds x at in
      false≢true (sym unsaid ∙ is.1 (record { unseen = h.is.unseen; missing = h.is.missing; asked = same ∙ h.is.asked }))

  pub left_more : (now : Pairs) → is_asked now x ≡ is_asked first x → IsAbove node_cmp left place x → IsLeftIn net now misses x → LeftAtIn net first misses left place
  left_more now same above is = λ y there.
      let P : Node → Type 0 = λ n. LeftHoldsIn net first misses left place n in
      subst P (some_same x y (sym at ∙ there)) (record { above = above; is = record { unseen = is.unseen; missing = is.missing; asked = sym same ∙ is.asked } })
