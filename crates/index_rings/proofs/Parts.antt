-- Parts of a list of places by their labels.
use Rattle.std.proofs.Common.{◌≡◌, ◌≢◌, ℕ, ◌<◌, List, [], ◌∷◌, ◌++◌, length, Option, Some, None, eqb, refl, sym, ap, ◌∙◌, subst, inl, inr, arith, set}
use Rattle.std.proofs.lemmas.Bool.{cases_eq}
use Rattle.std.proofs.lemmas.Bool.Decides.{nat_tests}
use Rattle.std.proofs.lemmas.List.{append-nil, get_or-set_same, get_or-set_other}
use Rattle.std.proofs.lemmas.List.Elements.{filter-append}
use Rattle.index_rings.specs.Rings.{IsChain, Lacks, Distinct, without, first_or}
use Rattle.index_rings.specs.Orders.{labelled, AreChains, first_of}
use Rattle.index_rings.proofs.Runs.{without_here, without_other, without_lacking}

pub labelled_yes : (label : ℕ → ℕ) (c x : ℕ) (xs : List ℕ) → label x ≡ c → labelled label c (x ∷ xs) ≡ x ∷ labelled label c xs
labelled_yes label c x xs e = grind (arith, nat_tests)

pub labelled_no : (label : ℕ → ℕ) (c x : ℕ) (xs : List ℕ) → label x ≢ c → labelled label c (x ∷ xs) ≡ labelled label c xs
labelled_no label c x xs e = grind (arith, nat_tests)

-- a part lacks what the whole lacks, and what has another label
pub labelled_lacks : (label : ℕ → ℕ) (c f : ℕ) (xs : List ℕ) → Lacks xs f → Lacks (labelled label c xs) f
labelled_lacks label c f [] l = tt
labelled_lacks label c f (x ∷ xs) l =
    elim (cases_eq (label x) c) [
      | inl e ↦ subst (λ ys. Lacks ys f) (sym (labelled_yes label c x xs e)) (l.0, labelled_lacks label c f xs l.1)
      | inr ne ↦ subst (λ ys. Lacks ys f) (sym (labelled_no label c x xs ne)) (labelled_lacks label c f xs l.1)
    ]

pub labelled_apart : (label : ℕ → ℕ) (c f : ℕ) (xs : List ℕ) → label f ≢ c → Lacks (labelled label c xs) f
labelled_apart label c f [] ne = tt
labelled_apart label c f (x ∷ xs) ne =
    elim (cases_eq (label x) c) [
      | inl e ↦ subst (λ ys. Lacks ys f) (sym (labelled_yes label c x xs e)) (λ h. ne (ap label (sym h) ∙ e), labelled_apart label c f xs ne)
      | inr off_it ↦ subst (λ ys. Lacks ys f) (sym (labelled_no label c x xs off_it)) (labelled_apart label c f xs ne)
    ]

pub labelled_distinct : (label : ℕ → ℕ) (c : ℕ) (xs : List ℕ) → Distinct xs → Distinct (labelled label c xs)
labelled_distinct label c [] d = tt
labelled_distinct label c (x ∷ xs) d =
    elim (cases_eq (label x) c) [
      | inl e ↦ subst Distinct (sym (labelled_yes label c x xs e)) (labelled_lacks label c x xs d.0, labelled_distinct label c xs d.1)
      | inr ne ↦ subst Distinct (sym (labelled_no label c x xs ne)) (labelled_distinct label c xs d.1)
    ]

-- the two filters change places
pub labelled_without : (label : ℕ → ℕ) (c i : ℕ) (xs : List ℕ) → labelled label c (without i xs) ≡ without i (labelled label c xs)
labelled_without label c i [] = refl
labelled_without label c i (x ∷ xs) =
    let rest : labelled label c (without i xs) ≡ without i (labelled label c xs) = labelled_without label c i xs in
    elim (cases_eq x i) [
      | inl same ↦ elim (cases_eq (label x) c) [
        | inl e ↦ ap (labelled label c) (without_here i x xs same) ∙ rest ∙ sym (ap (without i) (labelled_yes label c x xs e) ∙ without_here i x (labelled label c xs) same)
        | inr ne ↦ ap (labelled label c) (without_here i x xs same) ∙ rest ∙ sym (ap (without i) (labelled_no label c x xs ne))
      ]
      | inr other ↦ elim (cases_eq (label x) c) [
        | inl e ↦ ap (labelled label c) (without_other i x xs other) ∙ labelled_yes label c x (without i xs) e ∙ ap (λ ys. x ∷ ys) rest ∙ sym (ap (without i) (labelled_yes label c x xs e) ∙ without_other i x (labelled label c xs) other)
        | inr ne ↦ ap (labelled label c) (without_other i x xs other) ∙ labelled_no label c x (without i xs) ne ∙ rest ∙ sym (ap (without i) (labelled_no label c x xs ne))
      ]
    ]

pub labelled_more_yes : (label : ℕ → ℕ) (c i : ℕ) (xs : List ℕ) → label i ≡ c → labelled label c (xs ++ i ∷ []) ≡ labelled label c xs ++ i ∷ []
labelled_more_yes label c i xs e = filter-append (λ place. eqb (label place) c) xs (i ∷ []) ∙ ap (λ ys. labelled label c xs ++ ys) (labelled_yes label c i [] e)

pub labelled_more_no : (label : ℕ → ℕ) (c i : ℕ) (xs : List ℕ) → label i ≢ c → labelled label c (xs ++ i ∷ []) ≡ labelled label c xs
labelled_more_no label c i xs ne = filter-append (λ place. eqb (label place) c) xs (i ∷ []) ∙ ap (λ ys. labelled label c xs ++ ys) (labelled_no label c i [] ne) ∙ append-nil _

pub chain_lacks : (next : ℕ → ℕ) (f : ℕ) (xs : List ℕ) → Lacks xs f → IsChain next (Some f) xs → ⊥
unfolding IsChain
chain_lacks next f [] l r = absurd (cc)
chain_lacks next f (x ∷ xs) l r = l.0 (cc)

-- what has the label of another chain does not stand in it
first_apart : (label : ℕ → ℕ) (next : ℕ → ℕ) (c d f : ℕ) (order : List ℕ) → c ≢ d → IsChain next (Some f) (labelled label c order) → label f ≡ c
first_apart label next c d f order ne r = elim (cases_eq (label f) c) [
  | inl e ↦ e
  | inr off_it ↦ absurd (chain_lacks next f (labelled label c order) (labelled_apart label c f order off_it) r)
]

pub result_apart : (label : ℕ → ℕ) (next : ℕ → ℕ) (first : Option ℕ) (c d i : ℕ) (order : List ℕ) → c ≢ d → Lacks order i → IsChain next first (labelled label c order) → Lacks (labelled label d order) (first_or first i)
result_apart label next None c d i order ne l r = labelled_lacks label d i order l
result_apart label next (Some f) c d i order ne l r = labelled_apart label d f order (λ h. ne (sym (first_apart label next c d f order ne r) ∙ h))

pub linked : (label : ℕ → ℕ) (next next' : ℕ → ℕ) (first first' : ℕ → Option ℕ) (c i : ℕ) (order : List ℕ) → Distinct order → Lacks order i → label i ≡ c
    → first' c ≡ Some (first_or (first c) i) → ((d : ℕ) → d ≢ c → first' d ≡ first d)
    → ((xs : List ℕ) → Distinct xs → Lacks xs i → IsChain next (first c) xs → IsChain next' (Some (first_or (first c) i)) (xs ++ i ∷ []))
    → ((other : Option ℕ) → (ys : List ℕ) → Lacks ys (first_or (first c) i) → Lacks ys i → IsChain next other ys → IsChain next' other ys)
    → AreChains next first label order → AreChains next' first' label (order ++ i ∷ [])
linked label next next' first first' c i order d l e here there chain others was = record {
  parts = λ k. elim (cases_eq k c) [
    | inl same ↦ subst (λ j. IsChain next' (first' j) (labelled label j (order ++ i ∷ []))) (sym same)
        (subst (λ o. IsChain next' o (labelled label c (order ++ i ∷ []))) (sym here) (subst (λ ys. IsChain next' (Some (first_or (first c) i)) ys) (sym (labelled_more_yes label c i order e))
        (chain (labelled label c order) (labelled_distinct label c order d) (labelled_lacks label c i order l) (was.parts c))))
    | inr ne ↦ subst (λ o. IsChain next' o (labelled label k (order ++ i ∷ []))) (sym (there k ne)) (subst (λ ys. IsChain next' (first k) ys) (sym (labelled_more_no label k i order (λ h. ne (sym h ∙ e))))
        (others (first k) (labelled label k order) (result_apart label next (first c) c k i order (λ h. ne (sym h)) l (was.parts c)) (labelled_lacks label k i order l) (was.parts k)))
  ];
}

pub unlinked : (label : ℕ → ℕ) (next next' : ℕ → ℕ) (first first' : ℕ → Option ℕ) (c i : ℕ) (order : List ℕ) → Distinct order → label i ≡ c
    → ((d : ℕ) → d ≢ c → first' d ≡ first d)
    → ((xs : List ℕ) → Distinct xs → IsChain next (first c) xs → IsChain next' (first' c) (without i xs))
    → ((other : Option ℕ) → (ys : List ℕ) → Lacks ys i → IsChain next other ys → IsChain next' other ys)
    → AreChains next first label order → AreChains next' first' label (without i order)
unlinked label next next' first first' c i order d e there chain others was = record {
  parts = λ k. subst (λ ys. IsChain next' (first' k) ys) (sym (labelled_without label k i order)) (elim (cases_eq k c) [
    | inl same ↦ subst (λ j. IsChain next' (first' j) (without i (labelled label j order))) (sym same) (chain (labelled label c order) (labelled_distinct label c order d) (was.parts c))
    | inr ne ↦
        let lacks = labelled_apart label k i order (λ h. ne (sym h ∙ e)) in
        subst (λ o. IsChain next' o (without i (labelled label k order))) (sym (there k ne)) (subst (λ ys. IsChain next' (first k) ys) (sym (without_lacking i (labelled label k order) lacks))
        (others (first k) (labelled label k order) lacks (was.parts k)))
  ]);
}

-- one first place is written
pub first_written : (firsts : List (Option ℕ)) (c : ℕ) (o : Option ℕ) → c < length firsts → first_of (set firsts c o) c ≡ o
first_written firsts c o h = get_or-set_same firsts c o None h

pub first_kept : (firsts : List (Option ℕ)) (c : ℕ) (o : Option ℕ) (d : ℕ) → d ≢ c → first_of (set firsts c o) d ≡ first_of firsts d
first_kept firsts c o d ne = get_or-set_other firsts c d o None ne
