-- The rows of a set of pairs.
use Rattle.std.proofs.Common.{◌≡◌, ◌∙◌, ℕ, ◌+◌, ◌<◌, ◌≤◌, ◌⊎◌, inl, inr, ⊎_elim, Bool, true, false, cond, List, length, set, get_or, ◌++◌, replicate, Option, Some, None, unwrap_or, refl, sym, subst, ap, arith}
use Rattle.std.specs.Ordering.{is_eq}
use Rattle.std.specs.declared.cmp.Ordering.{Ordering}
use Rattle.std.specs.declared.cmp.Ordering.TheVariants.{Less, Equal, Greater}
use Rattle.std.specs.BTreeMap.{is_at}
use Rattle.std.proofs.lemmas.Bool.{false≢true}
use Rattle.std.proofs.lemmas.Map.Lookups.{exact_bytes}
use Rattle.std.proofs.lemmas.List.{get_or_append_left, get_or-append-add, get_or-replicate, get_or-set_same, get_or-set_other}
use Rattle.spie_base.specs.declared.Sig.{Sig}
use Rattle.spie_base.specs.Order.{sig_cmp}
use Rattle.topology.specs.declared.limits.TheConstants.{ROUTERS_MOST}
use Rattle.reverse_flood.specs.declared.graphs.Node.{Node}
use Rattle.reverse_flood.specs.Rows.{AreRows, KeepsRows, cell_in, cell_of, node_eq}
use Rattle.reverse_flood.proofs.Orders.{same_node, node_laws}

equal_from : (o : Ordering) → is_eq o ≡ true → o ≡ Equal
equal_from Less e = absurd (false≢true e)
equal_from Equal e = refl
equal_from Greater e = absurd (false≢true e)

-- signatures that compare alike are one
pub same_sig : (a b : Sig) → is_at (sig_cmp a) b ≡ true → a ≡ b
same_sig a b e =
    let S : List ℕ → Sig = λ l. record { bytes = l } in
    ap S (exact_bytes a.bytes b.bytes (equal_from (sig_cmp a b) e))

same_some : (j k : ℕ) → Some j ≡ Some k → j ≡ k
same_some j k e = ap (λ (o : Option ℕ). unwrap_or o 0) e

not_none : (k : ℕ) → (o : Option ℕ) → o ≡ None → o ≡ Some k → ⊥
not_none k None n e = false≢true (ap (λ (o : Option ℕ). let f : Option ℕ → Bool = elim [ None ↦ false | Some _ ↦ true ] in f o) e)
not_none k (Some j) n e = false≢true (ap (λ (o : Option ℕ). let f : Option ℕ → Bool = elim [ None ↦ false | Some _ ↦ true ] in f o) (sym n))

-- what one more row changes
abbrev IsMoreAt : Sig → ℕ → (Sig → Option ℕ) → (Sig → Option ℕ) → Sig → Type 0
IsMoreAt sig row old new q = ((sig ≡ q) × (new q ≡ Some row)) ⊎ (new q ≡ old q)

more_at : (sig : Sig) (row : ℕ) (old new : Sig → Option ℕ) → ((q : Sig) → new q ≡ cond (is_at (sig_cmp sig) q) (Some row) (old q)) → (q : Sig) → IsMoreAt sig row old new q
more_at sig row old new more q =
    let by : (b : Bool) → is_at (sig_cmp sig) q ≡ b → IsMoreAt sig row old new q =
    elim [
      | true ↦ λ e. inl (same_sig sig q e, more q ∙ ap (λ b. cond b (Some row) (old q)) e)
      | false ↦ λ e. inr (more q ∙ ap (λ b. cond b (Some row) (old q)) e)
    ] in
    by (is_at (sig_cmp sig) q) refl

-- one more row at the end
pub rows_more : (sig : Sig) (row size : ℕ) (old new : Sig → Option ℕ) → row ≡ size → ((q : Sig) → new q ≡ cond (is_at (sig_cmp sig) q) (Some row) (old q)) → AreRows old size → AreRows new (size + ROUTERS_MOST)
rows_more sig row size old new at more rows = record {
  fit = λ s k e. ⊎_elim
      (λ i. let k_is : row ≡ k = same_some row k (sym i.1 ∙ e) in omega (arith, k_is, at))
      (λ o. let l = rows.fit s k (sym o ∙ e) in omega (arith, l))
      (more_at sig row old new more s);
  apart = λ s t j k a b. ⊎_elim
      (λ i. ⊎_elim
      (λ h. inl (sym i.0 ∙ h.0))
      (λ o. let l = rows.fit t k (sym o ∙ b) in let j_is : row ≡ j = same_some row j (sym i.1 ∙ a) in inr (inr (omega (arith, l, j_is, at))))
      (more_at sig row old new more t))
      (λ p. ⊎_elim
      (λ h. let l = rows.fit s j (sym p ∙ a) in let k_is : row ≡ k = same_some row k (sym h.1 ∙ b) in inr (inl (omega (arith, l, k_is, at))))
      (λ o. rows.apart s t j k (sym p ∙ a) (sym o ∙ b))
      (more_at sig row old new more t))
      (more_at sig row old new more s);
}

cell_kept : {X : Type 0} (blank : X) (cells more : List X) (router : ℕ) (o : Option ℕ) → ((k : ℕ) → o ≡ Some k → k + ROUTERS_MOST ≤ length cells) → router < ROUTERS_MOST → cell_in blank (cells ++ more) router o ≡ cell_in blank cells router o
cell_kept blank cells more router None fit few = refl
cell_kept blank cells more router (Some k) fit few =
    let l = fit k refl in
    get_or_append_left cells more blank (k + router) (omega (arith, l, few))

-- an empty row changes nothing of the pairs
pub rows_same : {X : Type 0} (blank : X) (sig : Sig) (row : ℕ) (old new : Sig → Option ℕ) (cells : List X) → row ≡ length cells → old sig ≡ None → ((q : Sig) → new q ≡ cond (is_at (sig_cmp sig) q) (Some row) (old q)) → AreRows old (length cells) → (n : Node) → n.router.number < ROUTERS_MOST → cell_of blank new (cells ++ replicate ROUTERS_MOST blank) n ≡ cell_of blank old cells n
rows_same {X} blank sig row old new cells at none more rows n few =
    let r = n.router.number in
    let longer : List X = cells ++ replicate ROUTERS_MOST blank in
    ⊎_elim
    (λ i.
    let P : Sig → Type 0 = λ s. old s ≡ None in
    ap (cell_in blank longer r) i.1
    ∙ ap (λ k. get_or longer (k + r) blank) at
    ∙ get_or-append-add cells (replicate ROUTERS_MOST blank) r blank
    ∙ get_or-replicate ROUTERS_MOST r blank blank few
    ∙ sym (ap (cell_in blank cells r) (subst P i.0 none)))
    (λ o. ap (cell_in blank longer r) o ∙ cell_kept blank cells (replicate ROUTERS_MOST blank) r (old n.sig) (λ k e. rows.fit n.sig k e) few)
    (more_at sig row old new more n.sig)

-- a row that is new takes none away
pub rows_keep : (sig : Sig) (row : ℕ) (old new : Sig → Option ℕ) → old sig ≡ None → ((q : Sig) → new q ≡ cond (is_at (sig_cmp sig) q) (Some row) (old q)) → KeepsRows old new
rows_keep sig row old new none more s k is =
    let P : Sig → Type 0 = λ t. old t ≡ None in
    ⊎_elim
    (λ i. absurd (not_none k (old s) (subst P i.0 none) is))
    (λ o. o ∙ is)
    (more_at sig row old new more s)

-- one more cell is written
pub cell_more : {X : Type 0} (blank v : X) (rows : Sig → Option ℕ) (cells : List X) (row : ℕ) (node : Node) → AreRows rows (length cells) → rows node.sig ≡ Some row → node.router.number < ROUTERS_MOST → (n : Node) → n.router.number < ROUTERS_MOST → cell_of blank rows (set cells (row + node.router.number) v) n ≡ cond (node_eq node n) v (cell_of blank rows cells n)
cell_more {X} blank v rows cells row node are is few n small =
    let place = row + node.router.number in
    let l = are.fit node.sig row is in
    let by : (b : Bool) → node_eq node n ≡ b → cell_of blank rows (set cells place v) n ≡ cond b v (cell_of blank rows cells n) =
    elim [
      | true ↦ λ e.
          let P : Node → Type 0 = λ m. cell_of blank rows (set cells place v) m ≡ v in
          subst P (same_node node n e) (ap (cell_in blank (set cells place v) node.router.number) is ∙ get_or-set_same cells place v blank (omega (arith, l, few)))
      | false ↦ λ e.
          let other : (o : Option ℕ) → rows n.sig ≡ o → cell_in blank (set cells place v) n.router.number o ≡ cell_in blank cells n.router.number o =
          elim [
            | None ↦ λ _. refl
            | Some k ↦ λ a. get_or-set_other cells place (k + n.router.number) v blank (λ (hit : k + n.router.number ≡ place).
                let differ : ((row + ROUTERS_MOST ≤ k) ⊎ (k + ROUTERS_MOST ≤ row)) → ⊥ = ⊎_elim (λ x. omega (arith, x, hit, few, small)) (λ x. omega (arith, x, hit, few, small)) in
                ⊎_elim
                (λ (s : node.sig ≡ n.sig).
                let Q : Sig → Type 0 = λ t. rows t ≡ Some row in
                let k_is : row ≡ k = same_some row k (sym (subst Q s is) ∙ a) in
                let r_is : node.router.number ≡ n.router.number = omega (arith, hit, k_is) in
                let N : ℕ → Sig → Node = λ r t. record { router = record { number = r }; sig = t } in
                let same : node ≡ n = ap (λ r. N r node.sig) r_is ∙ ap (N n.router.number) s in
                let E : Node → Type 0 = λ m. node_eq node m ≡ true in
                false≢true (sym e ∙ subst E same (node_laws.refl node)))
                differ
                (are.apart node.sig n.sig row k is a))
          ] in
          other (rows n.sig) refl
    ] in
    by (node_eq node n) refl
