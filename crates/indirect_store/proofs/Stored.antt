-- A store with one signature more, with one fewer, and with other uses of one.
use Rattle.std.proofs.Common.{◌≡◌, ◌≢◌, ℕ, ◌+◌, ◌<◌, ◌^◌, List, [], ◌∷◌, ◌++◌, Option, Some, None, All, refl, sym, ap, ◌∙◌, subst, inl, inr, arith}
use mathlib.Core.Path.{fun_ext}
use Rattle.std.proofs.lemmas.Bool.{cases_eq}
use Rattle.slab.specs.Slab.{Slab, get, slab_len, Updates, ContainsKey}
use Rattle.spie_base.specs.declared.types.Sig.{Sig}
use Rattle.index_rings.specs.Rings.{Lacks, without}
use Rattle.index_rings.specs.Orders.{Holds, chains_in, labelled}
use Rattle.index_rings.proofs.Filed.{whole_lacks}
use Rattle.index_rings.specs.declared.chains.Chains.{Chains}
use Rattle.indirect_store.specs.Held.{sig_in, uses_in}
use Rattle.indirect_store.specs.Stores.{ListsKeys, AreFiled, IsStore, bucket_in, bucket_at, bucket_of, with_uses}
use Rattle.indirect_store.specs.declared.held.Held.{Held}
use Rattle.indirect_store.proofs.Keys.{keys_none, keys_more, keys_fewer, keys_changed, keys_roomier, holds_more, holds_fewer, the_value, all_lacks, Appends, TakesOut}

-- the label of a place changes at one place alone
abbrev pub Elsewhere : {T : Type 0} (slots slots' : Slab T) → ℕ → Type 0
Elsewhere slots slots' i = (x : ℕ) → x ≢ i → get slots' x ≡ get slots x

pub store_none : (slots : Slab Held) (buckets : Chains) → slots.slots ≡ [] → chains_in buckets ≡ 1024 → ((label : ℕ → ℕ) → Holds buckets label []) → IsStore slots buckets
store_none slots buckets e many holds =
    let keys : ListsKeys slots [] = keys_none slots e in
    let nothing : (id : ℕ) → get slots id ≡ None = λ id. keys.free id tt in
    record {
      order = [];
      filed = record { listed = keys; chained = holds (bucket_at slots); many = many };
      different = λ a b sig ea eb. let bad : None ≡ Some sig = sym (ap sig_in (nothing a)) ∙ ea in absurd (cc);
      used = λ id there. absurd (there (nothing id));
      fits = λ id there. absurd (there (nothing id));
    }

pub filed_more : (slots slots' : Slab Held) (buckets buckets' : Chains) (order : List ℕ) (i : ℕ) (held : Held) → get slots i ≡ None → Updates slots slots' i (Some held)
    → slab_len slots' ≡ slab_len slots + 1 → Appends buckets buckets' (bucket_of held.sig) i → chains_in buckets' ≡ chains_in buckets
    → AreFiled slots buckets order → AreFiled slots' buckets' (order ++ i ∷ [])
filed_more slots slots' buckets buckets' order i held vacant up len app many was = record {
  listed = keys_more slots slots' order i held vacant up len was.listed;
  chained = holds_more buckets buckets' (bucket_at slots) (bucket_at slots') order (bucket_of held.sig) i app (ap bucket_in up.changed) (λ x ne. ap bucket_in (up.others x ne))
      was.listed.distinct (was.listed.held i vacant) was.chained;
  many = many ∙ was.many;
}

pub filed_fewer : (slots slots' : Slab Held) (buckets buckets' : Chains) (order : List ℕ) (i : ℕ) (held : Held) → get slots i ≡ Some held → Updates slots slots' i None
    → slab_len slots' + 1 ≡ slab_len slots → TakesOut buckets buckets' (bucket_of held.sig) i → chains_in buckets' ≡ chains_in buckets
    → AreFiled slots buckets order → AreFiled slots' buckets' (without i order)
filed_fewer slots slots' buckets buckets' order i held there up len out many was =
    let has : get slots i ≢ None = λ e. let bad : Some held ≡ None = sym there ∙ e in (cc) in
    record {
      listed = keys_fewer slots slots' order i has up len was.listed;
      chained = holds_fewer buckets buckets' (bucket_at slots) (bucket_at slots') order (bucket_of held.sig) i out (ap bucket_in there) (λ x ne. ap bucket_in (up.others x ne))
          was.listed.distinct (λ l. has (was.listed.free i l)) was.chained;
      many = many ∙ was.many;
    }

pub store_more : (slots slots' : Slab Held) (buckets buckets' : Chains) (i : ℕ) (sig : Sig) → ((id : ℕ) → sig_in (get slots id) ≢ Some sig) → Updates slots slots' i (Some (record { sig = sig; uses = 1 })) → i < 2 ^ 32
    → ((order : List ℕ) → AreFiled slots buckets order → AreFiled slots' buckets' (order ++ i ∷ [])) → IsStore slots buckets → IsStore slots' buckets'
store_more slots slots' buckets buckets' i sig new up fits filed was = record {
  order = was.order ++ i ∷ [];
  filed = filed was.order was.filed;
  different = λ a b s ea eb. elim (cases_eq a i) [
    | inl one ↦ elim (cases_eq b i) [
      | inl two ↦ one ∙ sym two
      | inr ne ↦ absurd (new b (sym (ap sig_in (up.others b ne)) ∙ eb ∙ sym (same a s one ea)))
    ]
    | inr na ↦ elim (cases_eq b i) [
      | inl two ↦ absurd (new a (sym (ap sig_in (up.others a na)) ∙ ea ∙ sym (same b s two eb)))
      | inr nb ↦ was.different a b s (sym (ap sig_in (up.others a na)) ∙ ea) (sym (ap sig_in (up.others b nb)) ∙ eb)
    ]
  ];
  used = λ id there. elim (cases_eq id i) [
    | inl e ↦ λ none. let one : 1 ≡ 0 = sym (ap uses_in (ap (get slots') e ∙ up.changed)) ∙ none in omega (arith, one)
    | inr ne ↦ λ none. was.used id (λ e. there (up.others id ne ∙ e)) (sym (ap uses_in (up.others id ne)) ∙ none)
  ];
  fits = λ id there. elim (cases_eq id i) [
    | inl e ↦ subst (λ k. k < 2 ^ 32) (sym e) fits
    | inr ne ↦ was.fits id (λ e. there (up.others id ne ∙ e))
  ];
}
  where
    same : (x : ℕ) (s : Sig) → x ≡ i → sig_in (get slots' x) ≡ Some s → Some sig ≡ Some s
    same x s e h = sym (ap sig_in (ap (get slots') e ∙ up.changed)) ∙ h

pub store_fewer : (slots slots' : Slab Held) (buckets buckets' : Chains) (i : ℕ) → Updates slots slots' i None
    → ((order : List ℕ) → AreFiled slots buckets order → AreFiled slots' buckets' (without i order)) → IsStore slots buckets → IsStore slots' buckets'
store_fewer slots slots' buckets buckets' i up filed was = record {
  order = without i was.order;
  filed = filed was.order was.filed;
  different = λ a b s ea eb. was.different a b s (sym (ap sig_in (up.others a (other a s ea))) ∙ ea) (sym (ap sig_in (up.others b (other b s eb))) ∙ eb);
  used = λ id there none. was.used id (λ e. there (up.others id (kept id there) ∙ e)) (sym (ap uses_in (up.others id (kept id there))) ∙ none);
  fits = λ id there. was.fits id (λ e. there (up.others id (kept id there) ∙ e));
}
  where
    kept : (x : ℕ) → get slots' x ≢ None → x ≢ i
    kept x there e = there (ap (get slots') e ∙ up.changed)

    other : (x : ℕ) (s : Sig) → sig_in (get slots' x) ≡ Some s → x ≢ i
    other x s h e = let bad : None ≡ Some s = sym (ap sig_in (ap (get slots') e ∙ up.changed)) ∙ h in (cc)

pub store_changed : (slots slots' : Slab Held) (buckets : Chains) (i uses : ℕ) (held : Held) → get slots i ≡ Some held → Updates slots slots' i (Some (record { sig = held.sig; uses = uses })) → uses ≢ 0
    → slab_len slots' ≡ slab_len slots → IsStore slots buckets → IsStore slots' buckets
store_changed slots slots' buckets i uses held there up some len was = record {
  order = was.order;
  filed = record {
    listed = keys_changed slots slots' was.order i (record { sig = held.sig; uses = uses }) has up len was.filed.listed;
    chained = subst (λ label. Holds buckets label was.order) (fun_ext (λ x. sym (bucket_same x))) was.filed.chained;
    many = was.filed.many;
  };
  different = λ a b s ea eb. was.different a b s (sym (sig_same a) ∙ ea) (sym (sig_same b) ∙ eb);
  used = λ id now. elim (cases_eq id i) [
    | inl e ↦ λ none. some (sym (ap uses_in (ap (get slots') e ∙ up.changed)) ∙ none)
    | inr ne ↦ λ none. was.used id (λ e. now (up.others id ne ∙ e)) (sym (ap uses_in (up.others id ne)) ∙ none)
  ];
  fits = λ id now. elim (cases_eq id i) [
    | inl e ↦ was.fits id (λ n. has (ap (get slots) (sym e) ∙ n))
    | inr ne ↦ was.fits id (λ e. now (up.others id ne ∙ e))
  ];
}
  where
    has : get slots i ≢ None
    has e = let bad : Some held ≡ None = sym there ∙ e in (cc)

    sig_same : (x : ℕ) → sig_in (get slots' x) ≡ sig_in (get slots x)
    sig_same x = elim (cases_eq x i) [
      | inl e ↦ ap sig_in (ap (get slots') e ∙ up.changed) ∙ sym (ap sig_in (ap (get slots) e ∙ there))
      | inr ne ↦ ap sig_in (up.others x ne)
    ]

    bucket_same : (x : ℕ) → bucket_in (get slots' x) ≡ bucket_in (get slots x)
    bucket_same x = elim (cases_eq x i) [
      | inl e ↦ ap bucket_in (ap (get slots') e ∙ up.changed) ∙ sym (ap bucket_in (ap (get slots) e ∙ there))
      | inr ne ↦ ap bucket_in (up.others x ne)
    ]

pub store_roomier : (slots slots' : Slab Held) (buckets buckets' : Chains) (more : ℕ) → slots' ≡ record slots { capacity = more } → chains_in buckets' ≡ chains_in buckets
    → ((label : ℕ → ℕ) → (order : List ℕ) → Holds buckets label order → Holds buckets' label order) → IsStore slots buckets → IsStore slots' buckets'
store_roomier slots slots' buckets buckets' more e many kept was =
    subst (λ s. IsStore s buckets') (sym e) (record {
      order = was.order;
      filed = record {
        listed = keys_roomier slots (record slots { capacity = more }) was.order more refl was.filed.listed;
        chained = kept (bucket_at slots) was.order was.filed.chained;
        many = many ∙ was.filed.many;
      };
      different = was.different;
      used = was.used;
      fits = was.fits;
    })

-- the uses of a signature that is held change
pub store_reused : (slots slots' : Slab Held) (buckets : Chains) (i uses : ℕ) → ContainsKey slots i
    → Updates slots slots' i (with_uses (get slots i) uses) → uses ≢ 0 → slab_len slots' ≡ slab_len slots → IsStore slots buckets → IsStore slots' buckets
store_reused slots slots' buckets i uses there up some len was =
    let held = the_value (get slots i) there in
    store_changed slots slots' buckets i uses held.0 held.1 (subst (λ o. Updates slots slots' i (with_uses o uses)) held.1 up) some len was

-- a signature that no place of its bucket holds is not held
pub none_found : (slots : Slab Held) (order xs : List ℕ) (chain : ℕ) (sig : Sig) → ListsKeys slots order → chain ≡ bucket_of sig → xs ≡ labelled (bucket_at slots) chain order
    → All (λ place. sig_in (get slots place) ≢ Some sig) xs → (id : ℕ) → sig_in (get slots id) ≢ Some sig
none_found slots order xs chain sig listed ec ex all id e =
    let here : Lacks xs id = all_lacks (λ place. sig_in (get slots place) ≢ Some sig) id xs all (λ f. f e) in
    let nowhere : Lacks order id = whole_lacks (bucket_at slots) chain id order (in_bucket (get slots id) e ∙ sym ec) (subst (λ ys. Lacks ys id) ex here) in
    let bad : None ≡ Some sig = sym (ap sig_in (listed.free id nowhere)) ∙ e in
    (cc)
  where
    in_bucket : (o : Option Held) → sig_in o ≡ Some sig → bucket_in o ≡ bucket_of sig
    in_bucket None h = absurd (cc)
    in_bucket (Some held) h = let s : held.sig ≡ sig = cc in ap bucket_of s
