-- The list of the keys of a slab, and the chains of its places: one place more, and one fewer.
use Rattle.std.proofs.Common.{◌≡◌, ◌≢◌, ℕ, ◌+◌, ◌<◌, List, [], ◌∷◌, ◌++◌, Option, Some, None, IsSome, IfNone, All, get_or, refl, sym, ap, ◌∙◌, subst, inl, inr, arith}
use Rattle.std.proofs.lemmas.Bool.{cases_eq}
use Rattle.std.specs.Prelude.{count_by, is_some}
use Rattle.std.proofs.lemmas.List.{length_push}
use Rattle.std.proofs.lemmas.List.Elements.{All-head, All-tail}
use Rattle.slab.specs.Slab.{Slab, get, slab_len, Updates, ContainsKey}
use Rattle.index_rings.specs.Rings.{Lacks, Distinct, without}
use Rattle.index_rings.specs.Orders.{AllBelow, Holds}
use Rattle.index_rings.specs.declared.chains.Chains.{Chains}
use Rattle.index_rings.proofs.Filed.{relabelled, lacks_more, lacks_last, lacks_itself, lacks_without, without_lacks, distinct_more, distinct_without, length_without}
use Rattle.indirect_store.specs.Stores.{ListsKeys}

-- what is not nothing is something
some_there : {T : Type 0} (o : Option T) → o ≢ None → IsSome o
some_there None ne = absurd (ne refl)
some_there (Some x) ne = refl

pub present : {T : Type 0} (slots : Slab T) (i : ℕ) → get slots i ≢ None → ContainsKey slots i
present slots i ne = some_there (get slots i) ne

none_there : {T : Type 0} (o : Option T) → IsSome o → o ≡ None → ⊥
none_there None s e = (cc)
none_there (Some x) s e = (cc)

pub not_none : {T : Type 0} (slots : Slab T) (i : ℕ) → ContainsKey slots i → get slots i ≢ None
not_none slots i s e = none_there (get slots i) s e

-- a place that the list has is within what bounds the list
pub below_at : (n : ℕ) (order : List ℕ) (i : ℕ) → AllBelow n order → (Lacks order i → ⊥) → i < n
below_at n [] i b has = absurd (has tt)
below_at n (x ∷ xs) i b has =
    elim (cases_eq x i) [
      | inl e ↦ subst (λ y. y < n) e b.0
      | inr ne ↦ below_at n xs i b.1 (λ l. has (ne, l))
    ]

pub keys_none : {T : Type 0} (slots : Slab T) → slots.slots ≡ [] → ListsKeys slots []
keys_none slots e = record { distinct = tt; held = λ i none. tt; free = λ i l. ap (λ s. get_or s i None) e; count = sym (ap (count_by is_some) e) }

pub keys_more : {T : Type 0} (slots slots' : Slab T) (order : List ℕ) (i : ℕ) (value : T) → get slots i ≡ None → Updates slots slots' i (Some value) → slab_len slots' ≡ slab_len slots + 1
    → ListsKeys slots order → ListsKeys slots' (order ++ i ∷ [])
keys_more slots slots' order i value vacant up len was =
    let lacks = was.held i vacant in
    record {
      distinct = distinct_more order i was.distinct lacks;
      held = λ x none.
          let apart : i ≢ x = λ e. let bad : Some value ≡ None = sym up.changed ∙ ap (get slots') e ∙ none in (cc) in
          lacks_last order i x (was.held x (sym (up.others x (λ e. apart (sym e))) ∙ none)) apart;
      free = λ x l. let m = lacks_more order i x l in up.others x (λ e. m.1 (sym e)) ∙ was.free x m.0;
      count = length_push order i ∙ ap (λ n. n + 1) was.count ∙ sym len;
    }

pub keys_fewer : {T : Type 0} (slots slots' : Slab T) (order : List ℕ) (i : ℕ) → get slots i ≢ None → Updates slots slots' i None → slab_len slots' + 1 ≡ slab_len slots
    → ListsKeys slots order → ListsKeys slots' (without i order)
keys_fewer slots slots' order i there up len was = record {
  distinct = distinct_without i order was.distinct;
  held = λ x none. elim (cases_eq x i) [
    | inl e ↦ subst (λ y. Lacks (without i order) y) (sym e) (lacks_itself i order)
    | inr ne ↦ without_lacks i x order (was.held x (sym (up.others x ne) ∙ none))
  ];
  free = λ x l. elim (cases_eq x i) [
    | inl e ↦ ap (get slots') e ∙ up.changed
    | inr ne ↦ up.others x ne ∙ was.free x (lacks_without i x order ne l)
  ];
  count = omega (arith, length_without i order was.distinct (λ l. there (was.free i l)), was.count, len);
}

-- another value under a key that has one
pub keys_changed : {T : Type 0} (slots slots' : Slab T) (order : List ℕ) (i : ℕ) (value : T) → get slots i ≢ None → Updates slots slots' i (Some value) → slab_len slots' ≡ slab_len slots
    → ListsKeys slots order → ListsKeys slots' order
keys_changed slots slots' order i value there up len was = record {
  distinct = was.distinct;
  held = λ x none. elim (cases_eq x i) [
    | inl e ↦ let bad : Some value ≡ None = sym up.changed ∙ ap (get slots') (sym e) ∙ none in absurd (cc)
    | inr ne ↦ was.held x (sym (up.others x ne) ∙ none)
  ];
  free = λ x l. elim (cases_eq x i) [
    | inl e ↦ absurd (there (ap (get slots) (sym e) ∙ was.free x l))
    | inr ne ↦ up.others x ne ∙ was.free x l
  ];
  count = was.count ∙ sym len;
}

-- more room changes nothing
pub keys_roomier : {T : Type 0} (slots slots' : Slab T) (order : List ℕ) (more : ℕ) → slots' ≡ record slots { capacity = more } → ListsKeys slots order → ListsKeys slots' order
keys_roomier slots slots' order more e was =
    subst (λ s. ListsKeys s order) (sym e) (record { distinct = was.distinct; held = was.held; free = was.free; count = was.count })

-- what `append` and `take_out` ensure, whatever the labels
abbrev pub Appends : (chains chains' : Chains) → (chain place : ℕ) → Type 0
Appends chains chains' chain place =
    (label : ℕ → ℕ) → (order : List ℕ) → Distinct order → Lacks order place → label place ≡ chain → Holds chains label order → Holds chains' label (order ++ place ∷ [])

abbrev pub TakesOut : (chains chains' : Chains) → (chain place : ℕ) → Type 0
TakesOut chains chains' chain place =
    (label : ℕ → ℕ) → (order : List ℕ) → Distinct order → (Lacks order place → ⊥) → label place ≡ chain → Holds chains label order → Holds chains' label (without place order)

pub holds_more : (chains chains' : Chains) (label label' : ℕ → ℕ) (order : List ℕ) (chain i : ℕ) → Appends chains chains' chain i → label' i ≡ chain → ((x : ℕ) → x ≢ i → label' x ≡ label x)
    → Distinct order → Lacks order i → Holds chains label order → Holds chains' label' (order ++ i ∷ [])
holds_more chains chains' label label' order chain i app here others d l was =
    app label' order d l here (relabelled _ _ label label' i order l (λ x ne. sym (others x ne)) was)

pub holds_fewer : (chains chains' : Chains) (label label' : ℕ → ℕ) (order : List ℕ) (chain i : ℕ) → TakesOut chains chains' chain i → label i ≡ chain → ((x : ℕ) → x ≢ i → label' x ≡ label x)
    → Distinct order → (Lacks order i → ⊥) → Holds chains label order → Holds chains' label' (without i order)
holds_fewer chains chains' label label' order chain i out here others d has was =
    relabelled _ _ label label' i (without i order) (lacks_itself i order) (λ x ne. sym (others x ne)) (out label order d has here was)

-- what is something is the value that it has
pub the_value : {T : Type 0} (o : Option T) → IsSome o → (x : T) × (o ≡ Some x)
the_value None s = absurd (cc)
the_value (Some x) s = (x, refl)

-- what does not hold of a place that a list may have
pub all_lacks : (P : ℕ → Type 0) (i : ℕ) (xs : List ℕ) → All P xs → (P i → ⊥) → Lacks xs i
all_lacks P i [] all not_here = tt
all_lacks P i (x ∷ xs) all not_here = (λ e. not_here (subst P e (All-head P x xs all)), all_lacks P i xs (All-tail P x xs all) not_here)

pub if_none : {T : Type 0} (o : Option T) (P Q : Type 0) → (P → Q) → IfNone o P → IfNone o Q
if_none None P Q f p = f p
if_none (Some x) P Q f p = tt
