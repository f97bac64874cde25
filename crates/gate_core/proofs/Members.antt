-- What is in a list, in one or the other way to say it, and the items of an actor.
use Rattle.std.proofs.Common.{◌≡◌, ℕ, zero, suc, ◌<◌, List, [], ◌∷◌, length, get_or, sym, refl, ◌∙◌, subst, arith}
use Rattle.std.specs.Prelude.{Any}
use mathlib.Core.Option.{some, some-injective, some-ne-none}
use lib.ListN.{get_elem?}
use Rattle.gate_core.specs.Core.{items_at}
use Rattle.gate_core.proofs.Gates.{tested}
use Rattle.gate_core.proofs.Lists.{at_within}

module _ {A : Type 0} where
  -- what stands at a place of a list
  pub item_at : (l : List A) (i : ℕ) → i < length l → (a : A) × (get_elem? l i ≡ some a)
  item_at [] i lt = absurd (omega arith)
  item_at (x ∷ xs) zero lt = (x, refl)
  item_at (x ∷ xs) (suc i) lt = item_at xs i (omega arith)

  pub read_item : (l : List A) (i : ℕ) (d a : A) → get_elem? l i ≡ some a → get_or l i d ≡ a
  read_item [] i d a at = absurd (some-ne-none a (sym at))
  read_item (x ∷ xs) zero d a at = some-injective x a at
  read_item (x ∷ xs) (suc i) d a at = read_item xs i d a at

  pub any_here : (P : A → Type 0) (l : List A) (i : ℕ) (a : A) → get_elem? l i ≡ some a → P a → Any P l
  any_here P l i a at p = (i, a, at_within l i a at, read_item l i a a at, p)

  pub any_where : (P : A → Type 0) (l : List A) → Any P l → (i : ℕ) × (a : A) × (get_elem? l i ≡ some a) × P a
  any_where P l (i, a, lt, is, p) = let (b, at) = item_at l i lt in (i, b, at, subst P (sym is ∙ read_item l i a b at) p)

  abbrev In : A → List A → Type 0
  In a l = (i : ℕ) × (get_elem? l i ≡ some a)

  later : (a x : A) (l : List A) → In a l → In a (x ∷ l)
  later a x l (i, at) = (suc i, at)

  head_or_later : (a x : A) (l m : List A) → (In a l → In a m) → In a (x ∷ l) → In a (x ∷ m)
  head_or_later a x l m k (zero, at) = (zero, at)
  head_or_later a x l m k (suc i, at) = later a x m (k (i, at))

  -- an item of an actor is an item
  pub of_actor : (place : ℕ) (ps : List ℕ) (xs : List A) (a : A) → In a (items_at place ps xs) → In a xs
  of_actor place [] xs a (i, at) = absurd (some-ne-none a (sym at))
  of_actor place (p ∷ ps) [] a (i, at) = absurd (some-ne-none a (sym at))
  of_actor place (p ∷ ps) (x ∷ xs) a h =
      tested (λ (l : List A). In a l → In a (x ∷ xs)) p place (x ∷ items_at place ps xs) (items_at place ps xs)
      (λ _. head_or_later a x (items_at place ps xs) xs (of_actor place ps xs a))
      (λ _ k. later a x xs (of_actor place ps xs a k)) h

  -- and an item is one of its actor
  pub to_actor : (ps : List ℕ) (xs : List A) (i q : ℕ) (a : A) → get_elem? ps i ≡ some q → get_elem? xs i ≡ some a → In a (items_at q ps xs)
  to_actor [] xs i q a pt at = absurd (some-ne-none q (sym pt))
  to_actor (p ∷ ps) [] i q a pt at = absurd (some-ne-none a (sym at))
  to_actor (p ∷ ps) (x ∷ xs) zero q a pt at =
      tested (λ (l : List A). In a l) p q (x ∷ items_at q ps xs) (items_at q ps xs) (λ _. (zero, at)) (λ ne. absurd (ne (some-injective p q pt)))
  to_actor (p ∷ ps) (x ∷ xs) (suc i) q a pt at =
      let rest = to_actor ps xs i q a pt at in
      tested (λ (l : List A). In a l) p q (x ∷ items_at q ps xs) (items_at q ps xs) (λ _. later a x (items_at q ps xs) rest) (λ _. rest)
