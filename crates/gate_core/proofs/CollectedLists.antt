-- The lists of the words that were collected, one a page.
use Rattle.std.proofs.Common.{◌≡◌, ℕ, suc, zero, ◌<◌, ◌≢◌, List, [], ◌∷◌, length, map, get_or, set, sym, refl, ap, ◌∙◌, subst, arith, length-set, get_or-set_same}
use Rattle.std.proofs.lemmas.Option.{slice_get_within, get_or_from_slice_get, slice_get-get_or}
use mathlib.Core.Option.{some}
use lib.ListN.{get_elem?}
use Rattle.std.specs.Prelude.{slice_get, Some, Vec}
use Rattle.std.specs.declared.alloc.Global.{Global}
use Rattle.gate_core.specs.Desks.{AddsWord}

abbrev pub Lists : Type 0
Lists = Vec (Vec ℕ Global) Global

abbrev pub words_in : Lists → List (List ℕ)
words_in lists = map (λ (v : Vec ℕ Global). v.items) lists.items

pub adds_word-same : (lists one two : Lists) (p q w x : ℕ) → two ≡ one → p ≡ q → w ≡ x → AddsWord lists one p w → AddsWord lists two q x
adds_word-same lists one two p q w x e f g h =
    subst (λ (l : Lists). AddsWord lists l q x) (sym e) (subst (λ (i : ℕ). AddsWord lists one i x) f (subst (λ (i : ℕ). AddsWord lists one p i) g h))

read_at : {A : Type 0} → (xs : List A) (i : ℕ) (x : A) → i < length xs → get_or xs i x ≡ x → get_elem? xs i ≡ some x
read_at [] i x lt e = absurd (omega arith)
read_at (y ∷ ys) zero x lt e = ap some e
read_at (y ∷ ys) (suc i) x lt e = read_at ys i x (omega arith) e

pub slice_get_there : {A : Type 0} → (xs : List A) (i : ℕ) (x : A) → slice_get xs i ≡ Some x → get_elem? xs i ≡ some x
slice_get_there xs i x e = read_at xs i x (slice_get_within xs i x e) (get_or_from_slice_get xs i x x e)

pub slice_get-set_same : {A : Type 0} → (xs : List A) (i : ℕ) (x : A) → i < length xs → slice_get (set xs i x) i ≡ Some x
slice_get-set_same xs i x lt = let e = length-set xs i x in slice_get-get_or (set xs i x) i x (omega arith) ∙ ap Some (get_or-set_same xs i x x lt)

pub slice_get-set_other : {A : Type 0} → (xs : List A) (i j : ℕ) (x : A) → j ≢ i → slice_get (set xs i x) j ≡ slice_get xs j
slice_get-set_other [] i j x ne = refl
slice_get-set_other (y ∷ ys) zero zero x ne = absurd (ne refl)
slice_get-set_other (y ∷ ys) zero (suc j) x ne = refl
slice_get-set_other (y ∷ ys) (suc i) zero x ne = refl
slice_get-set_other (y ∷ ys) (suc i) (suc j) x ne = slice_get-set_other ys i j x (λ e. ne (ap suc e))
