-- The test of marks, and the fact.
use Rattle.std.proofs.Common.{subst, ℕ, zero, suc, ◌≡◌, true, false, List, [], ◌∷◌, refl, sym, ap, ◌∙◌, inl, inr, ⊎_elim}
use Rattle.std.specs.Cmp.{nat_eq_equiv}
use mathlib.Core.Option.{some-injective, some-ne-none}
use Rattle.std.proofs.lemmas.Bool.{eqb-true, eq-eqb}
use Rattle.std.proofs.lemmas.Map.Views.{list_any-from_Contains, Contains-from_any}
use Rattle.spie_base.specs.declared.types.Entry.{Entry}
use Rattle.spie_base.specs.declared.types.PageShape.{PageShape}
use Rattle.spie_base.proofs.Booleans.{both_hold, both_held, one_holds, one_held}
use Rattle.hash_family.specs.Positions.{marks_of}
use Rattle.hash_family.specs.Entries.{IsAmong, IsMarked, is_marked}
use Rattle.hash_family.proofs.PositionFacts.{Contains-marks_of}

module _ (shape : PageShape) (page p : ℕ) where
  pub marked-from_test : (entries : List Entry) → is_marked shape entries page p ≡ true → IsMarked shape entries page p
  marked-from_test [] e = absurd (let f : false ≡ true = e in cc)
  marked-from_test (x ∷ xs) e = ⊎_elim
      (λ here. let both = both_held _ _ here in
      (0, x, refl, eqb-true x.page.number page both.0, (Contains-marks_of shape page x.sig p).0 (Contains-from_any eqb-true p (marks_of shape page x.sig) both.1)))
      (λ later. let (i, entry, at, of, among) = marked-from_test xs later in (suc i, entry, at, of, among))
      (one_held _ _ e)

  pub test-from_marked : (entries : List Entry) → IsMarked shape entries page p → is_marked shape entries page p ≡ true
  test-from_marked [] (i, entry, at, of, among) = absurd (some-ne-none entry (sym at))
  test-from_marked (x ∷ xs) (zero, entry, at, of, among) =
      let same : x ≡ entry = some-injective x entry at in
      let number : x.page.number ≡ page = ap (λ (e : Entry). e.page.number) same ∙ of in
      let mine : IsAmong shape page x.sig shape.k p = subst (λ (e : Entry). IsAmong shape page e.sig shape.k p) (sym same) among in
      one_holds _ _ (inl (both_hold _ _ (eq-eqb x.page.number page number) (list_any-from_Contains nat_eq_equiv p (marks_of shape page x.sig) ((Contains-marks_of shape page x.sig p).1 mine))))
  test-from_marked (x ∷ xs) (suc i, entry, at, of, among) = one_holds _ _ (inr (test-from_marked xs (i, entry, at, of, among)))
