-- What a write of one cell changes of what is known of pairs.
use Rattle.std.proofs.Common.{◌≡◌, ◌∙◌, ◌<◌, ◌↔◌, ◌⊎◌, inl, inr, ⊎_elim, Bool, true, false, cond, refl, sym, subst, ap}
use Rattle.std.proofs.lemmas.Bool.{false≢true}
use Rattle.topology.specs.declared.limits.TheConstants.{ROUTERS_MOST}
use Rattle.reverse_flood.specs.declared.graphs.Node.{Node}
use Rattle.reverse_flood.specs.Rows.{node_eq}
use Rattle.reverse_flood.proofs.Orders.{same_node, node_laws}
use Rattle.evidence_check.specs.declared.pairs.Cell.{Cell}
use Rattle.evidence_check.specs.declared.pairs.Cell.TheVariants as cell
use Rattle.evidence_check.specs.declared.pairs.Pairs.{Pairs}
use Rattle.evidence_check.specs.Pairs.{Asks, IsFresh, cell_at, is_asked_cell, is_free, is_free_cell, is_node_cell, is_told_cell}

-- the pair's cell is this, or the cell stays
pub record IsCase (x : Node) (v : Cell) (old new : Pairs) (n : Node) : Type 0 where
  pub cases : ((x ≡ n) × (cell_at new n ≡ v)) ⊎ ((x ≡ n → ⊥) × (cell_at new n ≡ cell_at old n))

pub case_of : (x : Node) (v : Cell) (old new : Pairs) → ((n : Node) → n.router.number < ROUTERS_MOST → cell_at new n ≡ cond (node_eq x n) v (cell_at old n)) → (n : Node) → n.router.number < ROUTERS_MOST → IsCase x v old new n
case_of x v old new writes n few =
    let by : (b : Bool) → node_eq x n ≡ b → IsCase x v old new n =
    elim [
      | true ↦ λ e. record { cases = inl (same_node x n e, writes n few ∙ ap (λ b. cond b v (cell_at old n)) e) }
      | false ↦ λ e. record { cases = inr ((λ (same : x ≡ n). let E : Node → Type 0 = λ m. node_eq x m ≡ true in false≢true (sym e ∙ subst E same (node_laws.refl x))), writes n few ∙ ap (λ b. cond b v (cell_at old n)) e) }
    ] in
    by (node_eq x n) refl

pub fresh_more : (old new : Pairs) (x : Node) → ((n : Node) → n.router.number < ROUTERS_MOST → cell_at new n ≡ cond (node_eq x n) cell.Node (cell_at old n)) → IsFresh old → IsFresh new
fresh_more old new x writes fresh n few =
    ⊎_elim
    (λ here. ap is_asked_cell here.1)
    (λ other. ap is_asked_cell other.1 ∙ fresh n few)
    (case_of x cell.Node old new writes n few).cases

-- ---- one pair is asked

free_cell : (c : Cell) → is_free_cell c ≡ true → c ≡ cell.Free
free_cell cell.Free e = refl
free_cell cell.Node e = absurd (false≢true e)
free_cell cell.Asked e = absurd (false≢true e)
free_cell cell.Told e = absurd (false≢true e)

known_cell : (c : Cell) → is_free_cell c ≡ false → is_node_cell c ≡ false → is_asked_cell c ≡ true
known_cell cell.Free e h = absurd (false≢true (sym e))
known_cell cell.Node e h = absurd (false≢true (sym h))
known_cell cell.Asked e h = refl
known_cell cell.Told e h = refl

pub asks_known : (old : Pairs) (x : Node) → is_free old x ≡ false → Asks (λ n. x ≡ n) old old
asks_known old x known = record {
  nodes = λ n few. refl;
  told = λ n few. refl;
  asked = λ n few none. (
    (λ h. inl h),
    (λ h. ⊎_elim
        (λ was. was)
        (λ (e : x ≡ n).
        let P : Node → Type 0 = λ m. is_free old m ≡ false in
        known_cell (cell_at old n) (subst P e known) none)
        h),
  );
}

pub asks_new : (old new : Pairs) (x : Node) → is_free old x ≡ true → ((n : Node) → n.router.number < ROUTERS_MOST → cell_at new n ≡ cond (node_eq x n) cell.Asked (cell_at old n)) → Asks (λ n. x ≡ n) old new
asks_new old new x free writes =
    let was : (n : Node) → x ≡ n → cell_at old n ≡ cell.Free = λ n e. let P : Node → Type 0 = λ m. cell_at old m ≡ cell.Free in subst P e (free_cell (cell_at old x) free) in
    record {
      nodes = λ n few. ⊎_elim
          (λ here. ap is_node_cell here.1 ∙ sym (ap is_node_cell (was n here.0)))
          (λ other. ap is_node_cell other.1)
          (case_of x cell.Asked old new writes n few).cases;
      told = λ n few. ⊎_elim
          (λ here. ap is_told_cell here.1 ∙ sym (ap is_told_cell (was n here.0)))
          (λ other. ap is_told_cell other.1)
          (case_of x cell.Asked old new writes n few).cases;
      asked = λ n few none. (
        (λ h. ⊎_elim (λ here. inr here.0) (λ other. inl (sym (ap is_asked_cell other.1) ∙ h)) (case_of x cell.Asked old new writes n few).cases),
        (λ h. ⊎_elim
            (λ here. ap is_asked_cell here.1)
            (λ other. ap is_asked_cell other.1 ∙ ⊎_elim (λ a. a) (λ (e : x ≡ n). absurd (other.0 e)) h)
            (case_of x cell.Asked old new writes n few).cases),
      );
    }

-- ---- several are

pub asks_none : (P : Node → Type 0) (old : Pairs) → ((n : Node) → P n → ⊥) → Asks P old old
asks_none P old none = record {
  nodes = λ n few. refl;
  told = λ n few. refl;
  asked = λ n few is. ((λ h. inl h), (λ h. ⊎_elim (λ a. a) (λ p. absurd (none n p)) h));
}

pub asks_join : (P Q R : Node → Type 0) (a b c : Pairs) → ((n : Node) → R n ↔ (P n ⊎ Q n)) → Asks P a b → Asks Q b c → Asks R a c
asks_join P Q R a b c same p q = record {
  nodes = λ n few. q.nodes n few ∙ p.nodes n few;
  told = λ n few. q.told n few ∙ p.told n few;
  asked = λ n few none.
      let first = p.asked n few none in
      let second = q.asked n few (p.nodes n few ∙ none) in
      let s = same n in (
        (λ h. ⊎_elim
            (λ was. ⊎_elim (λ x. inl x) (λ x. inr (s.1 (inl x))) (first.0 was))
            (λ x. inr (s.1 (inr x)))
            (second.0 h)),
        (λ h. ⊎_elim
            (λ x. second.1 (inl (first.1 (inl x))))
            (λ r. ⊎_elim (λ x. second.1 (inl (first.1 (inr x)))) (λ x. second.1 (inr x)) (s.0 r))
            h),
      );
}

pub asks_same : (P Q : Node → Type 0) (a b : Pairs) → ((n : Node) → P n ↔ Q n) → Asks P a b → Asks Q a b
asks_same P Q a b same p = record {
  nodes = p.nodes;
  told = p.told;
  asked = λ n few none.
      let first = p.asked n few none in
      let s = same n in (
        (λ h. ⊎_elim (λ x. inl x) (λ x. inr (s.0 x)) (first.0 h)),
        (λ h. first.1 (⊎_elim (λ x. inl x) (λ x. inr (s.1 x)) h)),
      );
}
