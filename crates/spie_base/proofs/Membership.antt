-- What a list contains, and lists that are made of others: by `map`, `flat_map` and `filter`.
use Rattle.std.proofs.Common.{◌≡◌, Bool, true, false, cond, ◌∷◌, [], ◌⊎◌, subst, sym, refl, inl, inr, ⊎_elim, List, map, arith, ap, ◌∙◌}
use Rattle.std.specs.List.{Contains, flat_map, filter}
use Rattle.std.proofs.lemmas.List.Elements.{Contains-append_left, Contains-append_right, Contains-append_cases, Contains-push, Contains-push_cases}
use Rattle.std.proofs.lemmas.Bool.{false≢true}

-- what a list contains, by its first element and the others
pub has_none : {X : Type 0} (y : X) → Contains [] y → ⊥
has_none y (k, l, e) = omega arith

pub has_first : {X : Type 0} (x : X) (xs : List X) → Contains (x ∷ xs) x
has_first x xs = Contains-append_left (x ∷ []) xs x (Contains-push [] x)

pub has_later : {X : Type 0} (x : X) (xs : List X) (y : X) → Contains xs y → Contains (x ∷ xs) y
has_later x xs y h = Contains-append_right (x ∷ []) xs y h

pub has_one : {X : Type 0} (x y : X) → Contains (x ∷ []) y → x ≡ y
has_one x y h = ⊎_elim (λ n. absurd (has_none y n)) (λ e. e) (Contains-push_cases [] x y h)

pub has_cases : {X : Type 0} (x : X) (xs : List X) (y : X) → Contains (x ∷ xs) y → (x ≡ y) ⊎ Contains xs y
has_cases x xs y h = ⊎_elim (λ o. inl (has_one x y o)) inr (Contains-append_cases (x ∷ []) xs y h)

-- what a `map` contains
pub record IsImage {X Y : Type 0} (f : X → Y) (xs : List X) (y : Y) : Type 0 where
  pub of : X
  pub has : Contains xs of
  pub is : f of ≡ y

pub from_map : {X Y : Type 0} (f : X → Y) (xs : List X) (y : Y) → Contains (map f xs) y → IsImage f xs y
from_map f [] y h = absurd (has_none y h)
from_map f (x ∷ xs) y h =
    ⊎_elim (λ e. record { of = x; has = has_first x xs; is = e })
    (λ t. let i = from_map f xs y t in record { of = i.of; has = has_later x xs i.of i.has; is = i.is })
    (has_cases (f x) (map f xs) y h)

pub into_map : {X Y : Type 0} (f : X → Y) (xs : List X) (x : X) → Contains xs x → Contains (map f xs) (f x)
into_map f [] x h = absurd (has_none x h)
into_map {X} {Y} f (a ∷ xs) x h =
    let P : Y → Type 0 = λ y. Contains (f a ∷ map f xs) y in
    ⊎_elim (λ e. subst P (ap f e) (has_first (f a) (map f xs)))
    (λ t. has_later (f a) (map f xs) (f x) (into_map f xs x t))
    (has_cases a xs x h)

-- what a `flat_map` contains
pub record IsPiece {X Y : Type 0} (f : X → List Y) (xs : List X) (y : Y) : Type 0 where
  pub of : X
  pub has : Contains xs of
  pub in_piece : Contains (f of) y

pub from_flat_map : {X Y : Type 0} (f : X → List Y) (xs : List X) (y : Y) → Contains (flat_map f xs) y → IsPiece f xs y
from_flat_map f [] y h = absurd (has_none y h)
from_flat_map f (x ∷ xs) y h =
    ⊎_elim (λ e. record { of = x; has = has_first x xs; in_piece = e })
    (λ t. let i = from_flat_map f xs y t in record { of = i.of; has = has_later x xs i.of i.has; in_piece = i.in_piece })
    (Contains-append_cases (f x) (flat_map f xs) y h)

pub into_flat_map : {X Y : Type 0} (f : X → List Y) (xs : List X) (x : X) (y : Y) → Contains xs x → Contains (f x) y → Contains (flat_map f xs) y
into_flat_map f [] x y h i = absurd (has_none x h)
into_flat_map {X} f (a ∷ xs) x y h i =
    let P : X → Type 0 = λ z. Contains (f z) y in
    ⊎_elim (λ e. Contains-append_left (f a) (flat_map f xs) y (subst P (sym e) i))
    (λ t. Contains-append_right (f a) (flat_map f xs) y (into_flat_map f xs x y t i))
    (has_cases a xs x h)

-- what a `filter` contains
pub from_filter : {X : Type 0} (p : X → Bool) (xs : List X) (y : X) → Contains (filter p xs) y → Contains xs y × (p y ≡ true)
from_filter p [] y h = absurd (has_none y h)
from_filter {X} p (x ∷ xs) y h =
    let later : Contains (filter p xs) y → Contains (x ∷ xs) y × (p y ≡ true) = λ t. let i = from_filter p xs y t in (has_later x xs y i.0, i.1) in
    let split : (b : Bool) → p x ≡ b → Contains (cond b (x ∷ filter p xs) (filter p xs)) y → Contains (x ∷ xs) y × (p y ≡ true) =
    elim [
      | true ↦ λ e g. ⊎_elim (λ (s : x ≡ y). let P : X → Type 0 = λ z. Contains (x ∷ xs) z × (p z ≡ true) in subst P s (has_first x xs, e)) later (has_cases x (filter p xs) y g)
      | false ↦ λ e g. later g
    ] in
    split (p x) refl h

pub into_filter : {X : Type 0} (p : X → Bool) (xs : List X) (y : X) → Contains xs y → p y ≡ true → Contains (filter p xs) y
into_filter p [] y h e = absurd (has_none y h)
into_filter {X} p (x ∷ xs) y h e =
    let split : (b : Bool) → p x ≡ b → Contains (cond b (x ∷ filter p xs) (filter p xs)) y =
    elim [
      | true ↦ λ q. ⊎_elim (λ (s : x ≡ y). let P : X → Type 0 = λ z. Contains (x ∷ filter p xs) z in subst P s (has_first x (filter p xs))) (λ t. has_later x (filter p xs) y (into_filter p xs y t e)) (has_cases x xs y h)
      | false ↦ λ q. ⊎_elim (λ (s : x ≡ y). absurd (false≢true (sym q ∙ ap p s ∙ e))) (λ t. into_filter p xs y t e) (has_cases x xs y h)
    ] in
    split (p x) refl
