-- How many different old signatures the rows keep.
use Rattle.std.proofs.Common.{◌≡◌, ◌≢◌, ℕ, zero, suc, Bool, true, false, ◌||◌, cond, eqb, filter, List, [], ◌∷◌, length, Option, Some, None, IsSome, refl, sym, ap, ◌∙◌, subst, inl, inr, ◌⊎◌, ⊎_elim, arith}
use Rattle.std.specs.Prelude.{filter_map, option_map, option_and_then, is_some, count_by, MatchOption}
use Rattle.std.specs.List.{list_any, IsDistinct, AllByRecursion, cons_option}
use Rattle.std.specs.Cmp.{both_ways}
use Rattle.std.specs.Cmp.Lexicographic.{same_text, on_texts_equal}
use Rattle.std.proofs.lemmas.Bool.{cases_eq}
use Rattle.std.proofs.lemmas.Bool.Decides.{nat_tests}
use Rattle.std.proofs.lemmas.List.Sums.{length-filter}
use Rattle.std.proofs.lemmas.Map.Made.{length-from_keys}
use Rattle.slab.specs.Slab.{Slab, get}
use Rattle.index_rings.specs.declared.chains.Chains.{Chains}
use Rattle.spie_base.proofs.Booleans.{one_holds, one_held}
use Rattle.spie_base.specs.declared.types.PageNo.{PageNo}
use Rattle.spie_base.specs.declared.types.Sig.{Sig}
use Rattle.indirect_store.specs.Held.{held_at, sig_in, sig_at, AreDifferent, AreUsed}
use Rattle.indirect_store.specs.declared.held.Held.{Held}
use Rattle.packet_signature.specs.declared.rows.Row.{Row}
use Rattle.transform_table.specs.declared.line.Line.{Line}
use Rattle.transform_table.specs.declared.line.Kept.{Kept}
use Rattle.transform_table.specs.declared.line.Kept.TheVariants.{Bytes, Id}
use Rattle.transform_table.specs.Tables.{old_in, olds_in, same_sig, different_olds}
use Rattle.transform_table.specs.Rows.{sig_or_none, data_of, pair_of, pair_at, pairs_in, is_id, keeps_id}
use Rattle.transform_table.specs.Chained.{IsTable}
use Rattle.transform_table.proofs.Gathered.{Has, has_head, has_tail, passing_one}
use Rattle.transform_table.proofs.Tabled.{shown_is, ids_held}

either : (b : Bool) → (b ≡ true) ⊎ (b ≡ false)
either true = inl refl
either false = inr refl

-- ---- tests of what a list filters

module _ {X : Type 0} (p : X → Bool) where
  none_passes : (xs : List X) → filter p xs ≡ [] → list_any p xs ≡ false
  none_passes [] e = refl
  none_passes (x ∷ xs) e = elim (either (p x)) [
    | inl passes ↦ let bad : x ∷ filter p xs ≡ [] = sym (ap (λ b. cond b (x ∷ filter p xs) (filter p xs)) passes) ∙ e in absurd (cc)
    | inr fails ↦ ap (λ b. b || list_any p xs) fails ∙ none_passes xs (sym (ap (λ b. cond b (x ∷ filter p xs) (filter p xs)) fails) ∙ e)
  ]

  one_passes : (xs : List X) (y : X) (ys : List X) → filter p xs ≡ y ∷ ys → list_any p xs ≡ true
  one_passes [] y ys e = absurd (cc)
  one_passes (x ∷ xs) y ys e = elim (either (p x)) [
    | inl passes ↦ ap (λ b. b || list_any p xs) passes
    | inr fails ↦ ap (λ b. b || list_any p xs) fails ∙ one_passes xs y ys (sym (ap (λ b. cond b (x ∷ filter p xs) (filter p xs)) fails) ∙ e)
  ]

  -- whether the first that passes is there
  pub first_passes : (xs : List X) (o : Option X) (ys : List X) → MatchOption o ((filter p xs ≡ []) × (ys ≡ [])) (λ x. filter p xs ≡ x ∷ ys) → is_some o ≡ list_any p xs
  first_passes xs None ys e = sym (none_passes xs e.0)
  first_passes xs (Some x) ys e = sym (one_passes xs x ys e)

-- ---- tests of what a list gathers

-- what is there passes
record Passes {X : Type 0} (o : Option X) (p : X → Bool) : Type 0 where
  what : X
  is : o ≡ Some what
  passes : p what ≡ true

module _ {X : Type 0} (p : X → Bool) where
  any_here : (o : Option X) (ys : List X) → Passes o p → list_any p (cons_option o ys) ≡ true
  any_here None ys h = let bad = h.is in absurd (cc)
  any_here (Some x) ys h = let e : x ≡ h.what = (let i = h.is in cc) in one_holds (p x) (list_any p ys) (inl (ap p e ∙ h.passes))

  any_later : (o : Option X) (ys : List X) → list_any p ys ≡ true → list_any p (cons_option o ys) ≡ true
  any_later None ys h = h
  any_later (Some x) ys h = one_holds (p x) (list_any p ys) (inr h)

  any_cases : (o : Option X) (ys : List X) → list_any p (cons_option o ys) ≡ true → Passes o p ⊎ (list_any p ys ≡ true)
  any_cases None ys h = inr h
  any_cases (Some x) ys h = ⊎_elim (λ e. inl (record { what = x; is = refl; passes = e })) inr (one_held (p x) (list_any p ys) h)

  -- a place that gathers what passes
  record Gathers (g : ℕ → Option X) (xs : List ℕ) : Type 0 where
    place : ℕ
    has : Has xs place
    passing : Passes (g place) p

  gathers_into : (g : ℕ → Option X) (xs : List ℕ) (x : ℕ) → Has xs x → Passes (g x) p → list_any p (filter_map g xs) ≡ true
  gathers_into g [] x has h = absurd (has tt)
  gathers_into g (y ∷ ys) x has h = elim (cases_eq y x) [
    | inl e ↦ any_here (g y) (filter_map g ys) (subst (λ z. Passes (g z) p) (sym e) h)
    | inr ne ↦ any_later (g y) (filter_map g ys) (gathers_into g ys x (λ l. has (ne, l)) h)
  ]

  gathers_from : (g : ℕ → Option X) (xs : List ℕ) → list_any p (filter_map g xs) ≡ true → Gathers g xs
  gathers_from g [] h = absurd (cc)
  gathers_from g (y ∷ ys) h =
      ⊎_elim (λ here. record { place = y; has = has_head y ys; passing = here })
      (λ t. let r = gathers_from g ys t in record { place = r.place; has = has_tail y r.place ys r.has; passing = r.passing }) (any_cases (g y) (filter_map g ys) h)

-- two filters that follow one another
gathers_one : {X Y : Type 0} (h : X → Option Y) (o : Option X) (ys : List X) → filter_map h (cons_option o ys) ≡ cons_option (option_and_then h o) (filter_map h ys)
gathers_one h None ys = refl
gathers_one h (Some x) ys = refl

gathers_twice : {X Y : Type 0} (h : X → Option Y) (f : ℕ → Option X) (xs : List ℕ) → filter_map h (filter_map f xs) ≡ filter_map (λ x. option_and_then h (f x)) xs
gathers_twice h f [] = refl
gathers_twice h f (x ∷ xs) = gathers_one h (f x) (filter_map f xs) ∙ ap (cons_option (option_and_then h (f x))) (gathers_twice h f xs)

-- ---- the signatures that a store holds

record HeldHere (olds : List (Option Held)) (p : Sig → Bool) : Type 0 where
  id : ℕ
  passing : Passes (sig_at olds id) p

held_into : (p : Sig → Bool) (olds : List (Option Held)) (id : ℕ) → Passes (sig_at olds id) p → list_any p (filter_map sig_in olds) ≡ true
held_into p [] id h = let bad = h.is in absurd (cc)
held_into p (o ∷ rest) zero h = any_here p (sig_in o) (filter_map sig_in rest) h
held_into p (o ∷ rest) (suc id) h = any_later p (sig_in o) (filter_map sig_in rest) (held_into p rest id h)

held_from : (p : Sig → Bool) (olds : List (Option Held)) → list_any p (filter_map sig_in olds) ≡ true → HeldHere olds p
held_from p [] h = absurd (cc)
held_from p (o ∷ rest) h =
    ⊎_elim (λ here. record { id = zero; passing = here }) (λ t. let r = held_from p rest t in record { id = suc r.id; passing = r.passing }) (any_cases p (sig_in o) (filter_map sig_in rest) h)

sig_equal : (a b : Sig) → same_sig a b ≡ true → a ≡ b
sig_equal a b e = ap (λ l. let s : Sig = record { bytes = l } in s) (same_text a.bytes b.bytes (sym e))

differ : (a b : Sig) → a ≢ b → same_sig a b ≡ false
differ a b ne = elim (either (same_sig a b)) [
  | inl e ↦ absurd (ne (sig_equal a b e))
  | inr e ↦ e
]

apart : (olds : List (Option Held)) (sig : Sig) → ((id : ℕ) → sig_at olds id ≢ Some sig) → AllByRecursion (λ y. same_sig sig y ≡ false) (filter_map sig_in olds)
apart [] sig no_one = tt
apart (None ∷ rest) sig no_one = apart rest sig (λ id. no_one (suc id))
apart (Some held ∷ rest) sig no_one = (differ sig held.sig (λ e. no_one zero (ap (λ s. Some s) (sym e))), apart rest sig (λ id. no_one (suc id)))

signatures_differ : (olds : List (Option Held)) → AreDifferent olds → IsDistinct same_sig (filter_map sig_in olds)
unfolding IsDistinct
signatures_differ [] different = tt
signatures_differ (None ∷ rest) different = signatures_differ rest (λ a b s ea eb. let e : suc a ≡ suc b = different (suc a) (suc b) s ea eb in omega (arith, e))
signatures_differ (Some held ∷ rest) different = (
  apart rest held.sig (λ id h. let bad : zero ≡ suc id = different zero (suc id) held.sig refl h in omega (arith, bad)),
  signatures_differ rest (λ a b s ea eb. let e : suc a ≡ suc b = different (suc a) (suc b) s ea eb in omega (arith, e)),
)

counted_of : (olds : List (Option Held)) → length (filter_map sig_in olds) ≡ length (filter is_some olds)
counted_of [] = refl
counted_of (None ∷ rest) = counted_of rest
counted_of (Some held ∷ rest) = omega (arith, counted_of rest)

-- ---- the old signatures of the rows

old_of_kept : (olds : List (Option Held)) (id : ℕ) (sig : Sig) (kept : Kept) → is_id id kept ≡ true → sig_at olds id ≡ Some sig → old_in (data_of olds kept) ≡ Some sig
old_of_kept olds id sig (Bytes bytes) keeps e = absurd (cc)
old_of_kept olds id sig (Id other) keeps e = ap (λ o. Some (sig_or_none o)) (ap (sig_at olds) (the_same other id keeps) ∙ e)
  where
    the_same : (a b : ℕ) → eqb a b ≡ true → a ≡ b
    the_same a b h = grind (arith, nat_tests)

old_of_line : (olds : List (Option Held)) (id : ℕ) (sig : Sig) (o : Option Line) → keeps_id id o ≡ true → sig_at olds id ≡ Some sig → option_and_then (λ (pair : PageNo × Row). old_in pair.1.old) (option_map (pair_of olds) o) ≡ Some sig
old_of_line olds id sig None keeps e = absurd (cc)
old_of_line olds id sig (Some line) keeps e = old_of_kept olds id sig line.kept keeps e

there_is : (o : Option Held) (sig : Sig) → IsSome o → Some (sig_or_none (sig_in o)) ≡ Some sig → sig_in o ≡ Some sig
there_is None sig there e = absurd (cc)
there_is (Some held) sig there e = e

id_of_kept : (olds : List (Option Held)) (sig : Sig) (kept : Kept) → ((id : ℕ) → is_id id kept ≡ true → IsSome (held_at olds id)) → old_in (data_of olds kept) ≡ Some sig → (id : ℕ) × (sig_at olds id ≡ Some sig)
id_of_kept olds sig (Bytes bytes) held e = absurd (cc)
id_of_kept olds sig (Id id) held e = (id, there_is (held_at olds id) sig (held id (itself id)) e)
  where
    itself : (a : ℕ) → eqb a a ≡ true
    itself a = grind (arith, nat_tests)

id_of_line : (olds : List (Option Held)) (sig : Sig) (o : Option Line) → ((id : ℕ) → keeps_id id o ≡ true → IsSome (held_at olds id))
    → option_and_then (λ (pair : PageNo × Row). old_in pair.1.old) (option_map (pair_of olds) o) ≡ Some sig → (id : ℕ) × (sig_at olds id ≡ Some sig)
id_of_line olds sig None held e = absurd (cc)
id_of_line olds sig (Some line) held e = id_of_kept olds sig line.kept held e

there_none : (olds : List (Option Held)) (id : ℕ) (sig : Sig) → sig_at olds id ≡ Some sig → held_at olds id ≢ None
there_none olds id sig e none = let bad : None ≡ Some sig = sym (ap sig_in none) ∙ e in (cc)

module _ (rows : Slab Line) (all buckets pages : Chains) (olds : List (Option Held)) (was : IsTable rows all buckets pages olds) (used : AreUsed olds) where
  old_at : ℕ → Option Sig
  old_at x = option_and_then (λ (pair : PageNo × Row). old_in pair.1.old) (pair_at rows olds x)

  gathered : filter_map old_at was.order ≡ olds_in (pairs_in rows all olds)
  unfolding old_at
  gathered =
      sym (gathers_twice (λ (pair : PageNo × Row). old_in pair.1.old) (pair_at rows olds) was.order) ∙ sym (ap olds_in (shown_is rows all buckets pages olds was))

  into_rows : (p : Sig → Bool) → list_any p (filter_map sig_in olds) ≡ true → list_any p (filter_map old_at was.order) ≡ true
  unfolding old_at
  into_rows p h =
      let here = held_from p olds h in let id = here.id in let sig = here.passing.what in
      let one = passing_one (λ place. keeps_id id (get rows place)) was.order (λ z. used id (there_none olds id sig here.passing.is) (was.counted id ∙ z)) in
      gathers_into p old_at was.order one.0 one.1.0 (record { what = sig; is = old_of_line olds id sig (get rows one.0) one.1.1 here.passing.is; passes = here.passing.passes })

  from_rows : (p : Sig → Bool) → list_any p (filter_map old_at was.order) ≡ true → list_any p (filter_map sig_in olds) ≡ true
  unfolding old_at
  from_rows p h =
      let here = gathers_from p old_at was.order h in let sig = here.passing.what in
      let at = id_of_line olds sig (get rows here.place) (ids_held rows all buckets pages olds was here.place) here.passing.is in
      held_into p olds at.0 (record { what = sig; is = at.1; passes = here.passing.passes })

  pub olds_counted : AreDifferent olds → count_by is_some olds ≡ different_olds (pairs_in rows all olds)
  olds_counted different =
      sym (counted_of olds ∙ length-filter is_some olds)
      ∙ length-from_keys (on_texts_equal (λ (s : Sig). s.bytes)) (filter_map sig_in olds) (olds_in (pairs_in rows all olds)) (signatures_differ olds different)
      (λ q. both_ways (list_any (same_sig q) (filter_map sig_in olds)) (list_any (same_sig q) (filter_map old_at was.order)) (into_rows (same_sig q)) (from_rows (same_sig q)) ∙ ap (list_any (same_sig q)) gathered)
