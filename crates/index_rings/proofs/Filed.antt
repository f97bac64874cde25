-- A list of places in its chains, one more and one fewer.
use Rattle.std.proofs.Common.{◌≡◌, ◌≢◌, ℕ, ◌+◌, ◌<◌, List, [], ◌∷◌, ◌++◌, length, Option, Some, None, refl, sym, ap, ◌∙◌, subst, inl, inr, arith}
use Rattle.std.proofs.lemmas.Bool.{cases_eq}
use Rattle.index_rings.specs.Rings.{IsChain, Lacks, Distinct, without, next_of}
use Rattle.index_rings.specs.declared.link.Link.{Link}
use Rattle.index_rings.specs.Orders.{labelled, AreChains, first_of, AllBelow, IsFiled}
use Rattle.index_rings.proofs.Runs.{without_here, without_other, without_lacking, chain_none}
use Rattle.index_rings.proofs.Parts.{labelled_yes, labelled_no, labelled_lacks, chain_lacks}

pub below_more : (n : ℕ) (xs : List ℕ) (i : ℕ) → AllBelow n xs → i < n → AllBelow n (xs ++ i ∷ [])
below_more n [] i b h = (h, tt)
below_more n (x ∷ xs) i b h = (b.0, below_more n xs i b.1 h)

pub below_without : (n i : ℕ) (xs : List ℕ) → AllBelow n xs → AllBelow n (without i xs)
below_without n i [] b = tt
below_without n i (x ∷ xs) b =
    elim (cases_eq x i) [
      | inl e ↦ subst (AllBelow n) (sym (without_here i x xs e)) (below_without n i xs b.1)
      | inr ne ↦ subst (AllBelow n) (sym (without_other i x xs ne)) (b.0, below_without n i xs b.1)
    ]

pub below_same : (n m : ℕ) (xs : List ℕ) → n ≡ m → AllBelow n xs → AllBelow m xs
below_same n m xs e b = subst (λ k. AllBelow k xs) e b

pub lacks_more : (xs : List ℕ) (i x : ℕ) → Lacks (xs ++ i ∷ []) x → Lacks xs x × (i ≢ x)
lacks_more [] i x l = (tt, l.0)
lacks_more (y ∷ ys) i x l = let r = lacks_more ys i x l.1 in ((l.0, r.0), r.1)

-- the first place of a part stands in the whole
pub first_stands : (next : ℕ → ℕ) (label : ℕ → ℕ) (c f i : ℕ) (order : List ℕ) → IsChain next (Some f) (labelled label c order) → Lacks order i → f ≢ i
first_stands next label c f i order r l e = chain_lacks next i (labelled label c order) (labelled_lacks label c i order l) (subst (λ g. IsChain next (Some g) (labelled label c order)) e r)

first_below_chain : (next : ℕ → ℕ) (n f : ℕ) (xs : List ℕ) → AllBelow n xs → IsChain next (Some f) xs → f < n
unfolding IsChain
first_below_chain next n f [] b r = absurd (cc)
first_below_chain next n f (x ∷ xs) b r = let e : f ≡ x = cc in omega (arith, b.0, e)

pub labelled_below : (n : ℕ) (label : ℕ → ℕ) (c : ℕ) (xs : List ℕ) → AllBelow n xs → AllBelow n (labelled label c xs)
labelled_below n label c [] b = tt
labelled_below n label c (x ∷ xs) b =
    elim (cases_eq (label x) c) [
      | inl e ↦ subst (AllBelow n) (sym (labelled_yes label c x xs e)) (b.0, labelled_below n label c xs b.1)
      | inr ne ↦ subst (AllBelow n) (sym (labelled_no label c x xs ne)) (labelled_below n label c xs b.1)
    ]

pub first_below : (next : ℕ → ℕ) (label : ℕ → ℕ) (n c f : ℕ) (order : List ℕ) → AllBelow n order → IsChain next (Some f) (labelled label c order) → f < n
first_below next label n c f order b r = first_below_chain next n f (labelled label c order) (labelled_below n label c order b) r

-- what a part lacks that has its label, the whole lacks
pub whole_lacks : (label : ℕ → ℕ) (c i : ℕ) (xs : List ℕ) → label i ≡ c → Lacks (labelled label c xs) i → Lacks xs i
whole_lacks label c i [] e l = tt
whole_lacks label c i (x ∷ xs) e l =
    elim (cases_eq (label x) c) [
      | inl y ↦ let m : Lacks (x ∷ labelled label c xs) i = subst (λ ys. Lacks ys i) (labelled_yes label c x xs y) l in (m.0, whole_lacks label c i xs e m.1)
      | inr ne ↦ (λ h. ne (ap label h ∙ e), whole_lacks label c i xs e (subst (λ ys. Lacks ys i) (labelled_no label c x xs ne) l))
    ]

pub lacks_without : (i x : ℕ) (xs : List ℕ) → x ≢ i → Lacks (without i xs) x → Lacks xs x
lacks_without i x [] ne l = tt
lacks_without i x (y ∷ ys) ne l =
    elim (cases_eq y i) [
      | inl e ↦ (λ h. ne (sym h ∙ e), lacks_without i x ys ne (subst (λ zs. Lacks zs x) (without_here i y ys e) l))
      | inr other ↦ let m : Lacks (y ∷ without i ys) x = subst (λ zs. Lacks zs x) (without_other i y ys other) l in (m.0, lacks_without i x ys ne m.1)
    ]

pub without_lacks : (i x : ℕ) (xs : List ℕ) → Lacks xs x → Lacks (without i xs) x
without_lacks i x [] l = tt
without_lacks i x (y ∷ ys) l =
    elim (cases_eq y i) [
      | inl e ↦ subst (λ zs. Lacks zs x) (sym (without_here i y ys e)) (without_lacks i x ys l.1)
      | inr ne ↦ subst (λ zs. Lacks zs x) (sym (without_other i y ys ne)) (l.0, without_lacks i x ys l.1)
    ]

pub distinct_without : (i : ℕ) (xs : List ℕ) → Distinct xs → Distinct (without i xs)
distinct_without i [] d = tt
distinct_without i (x ∷ xs) d =
    elim (cases_eq x i) [
      | inl e ↦ subst Distinct (sym (without_here i x xs e)) (distinct_without i xs d.1)
      | inr ne ↦ subst Distinct (sym (without_other i x xs ne)) (without_lacks i x xs d.0, distinct_without i xs d.1)
    ]

pub lacks_last : (xs : List ℕ) (i x : ℕ) → Lacks xs x → i ≢ x → Lacks (xs ++ i ∷ []) x
lacks_last [] i x l ne = (ne, tt)
lacks_last (y ∷ ys) i x l ne = (l.0, lacks_last ys i x l.1 ne)

pub distinct_more : (xs : List ℕ) (i : ℕ) → Distinct xs → Lacks xs i → Distinct (xs ++ i ∷ [])
distinct_more [] i d l = (tt, tt)
distinct_more (x ∷ xs) i d l = (lacks_last xs i x d.0 (λ e. l.0 (sym e)), distinct_more xs i d.1 l.1)

pub filed_more : (links links' : List Link) (firsts firsts' : List (Option ℕ)) (label : ℕ → ℕ) (order : List ℕ) (c i : ℕ) → i < length links → length links' ≡ length links
    → AreChains (next_of links') (first_of firsts') label (order ++ i ∷ [])
    → ((x : ℕ) → x ≢ i → first_of firsts c ≢ Some x → next_of links x ≡ x → next_of links' x ≡ x)
    → IsFiled links firsts label order → IsFiled links' firsts' label (order ++ i ∷ [])
filed_more links links' firsts firsts' label order c i h e chains single was = record {
  chains = chains;
  alone = λ x l.
      let m = lacks_more order i x l in
      single x (λ g. m.1 (sym g)) (λ g. first_stands (next_of links) label c x x order (subst (λ o. IsChain (next_of links) o (labelled label c order)) g (was.chains.parts c)) m.0 refl) (was.alone x m.0);
  within = below_same (length links) (length links') _ (sym e) (below_more (length links) order i was.within h);
}

pub filed_fewer : (links links' : List Link) (firsts firsts' : List (Option ℕ)) (label : ℕ → ℕ) (order : List ℕ) (c i : ℕ) → length links' ≡ length links → label i ≡ c → (Lacks order i → ⊥)
    → AreChains (next_of links') (first_of firsts') label (without i order)
    → ((x : ℕ) → next_of links x ≡ x → next_of links' x ≡ x) → (first_of firsts c ≢ None → next_of links' i ≡ i)
    → IsFiled links firsts label order → IsFiled links' firsts' label (without i order)
filed_fewer links links' firsts firsts' label order c i e el has chains single here was = record {
  chains = chains;
  alone = λ x l. elim (cases_eq x i) [
    | inl same ↦ ap (next_of links') same ∙ here (λ none. has (whole_lacks label c i order el
        (subst (λ ys. Lacks ys i) (sym (chain_none (next_of links) (labelled label c order) (subst (λ o. IsChain (next_of links) o (labelled label c order)) none (was.chains.parts c)))) tt))) ∙ sym same
    | inr ne ↦ single x (was.alone x (lacks_without i x order ne l))
  ];
  within = below_same (length links) (length links') _ (sym e) (below_without (length links) i order was.within);
}

-- the labels may change at a place that is not in the list
labelled_same : (label label' : ℕ → ℕ) (c key : ℕ) (xs : List ℕ) → Lacks xs key → ((x : ℕ) → x ≢ key → label x ≡ label' x) → labelled label c xs ≡ labelled label' c xs
labelled_same label label' c key [] l same = refl
labelled_same label label' c key (x ∷ xs) l same =
    let rest : labelled label c xs ≡ labelled label' c xs = labelled_same label label' c key xs l.1 same in
    elim (cases_eq (label x) c) [
      | inl e ↦ labelled_yes label c x xs e ∙ ap (λ ys. x ∷ ys) rest ∙ sym (labelled_yes label' c x xs (sym (same x l.0) ∙ e))
      | inr ne ↦ labelled_no label c x xs ne ∙ rest ∙ sym (labelled_no label' c x xs (λ h. ne (same x l.0 ∙ h)))
    ]

pub relabelled : (links : List Link) (firsts : List (Option ℕ)) (label label' : ℕ → ℕ) (key : ℕ) (order : List ℕ) → Lacks order key → ((x : ℕ) → x ≢ key → label x ≡ label' x)
    → IsFiled links firsts label order → IsFiled links firsts label' order
relabelled links firsts label label' key order l same was = record {
  chains = record { parts = λ c. subst (λ ys. IsChain (next_of links) (first_of firsts c) ys) (labelled_same label label' c key order l same) (was.chains.parts c) };
  alone = was.alone;
  within = was.within;
}

pub lacks_itself : (i : ℕ) (xs : List ℕ) → Lacks (without i xs) i
lacks_itself i [] = tt
lacks_itself i (x ∷ xs) =
    elim (cases_eq x i) [
      | inl e ↦ subst (λ ys. Lacks ys i) (sym (without_here i x xs e)) (lacks_itself i xs)
      | inr ne ↦ subst (λ ys. Lacks ys i) (sym (without_other i x xs ne)) (ne, lacks_itself i xs)
    ]

pub length_without : (i : ℕ) (xs : List ℕ) → Distinct xs → (Lacks xs i → ⊥) → length (without i xs) + 1 ≡ length xs
length_without i [] d has = absurd (has tt)
length_without i (x ∷ xs) d has =
    elim (cases_eq x i) [
      | inl e ↦ omega (arith, ap length (without_here i x xs e ∙ without_lacking i xs (subst (λ y. Lacks xs y) e d.0)))
      | inr ne ↦ omega (arith, ap length (without_other i x xs ne), length_without i xs d.1 (λ l. has (ne, l)))
    ]
