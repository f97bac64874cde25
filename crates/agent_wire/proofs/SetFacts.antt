-- Sets that grow by whole lists: one more item, one item less, and what is left where memory was refused.
use Rattle.std.proofs.Common.{◌≡◌, ◌∙◌, ◌<◌, ◌+◌, ℕ, Bool, true, false, cond, ◌⊎◌, ◌↔◌, inl, inr, ⊎_elim, refl, sym, subst, ap, List, [], ◌∷◌, ◌++◌, length, take, drop, get_or, Result, Ok, Err, OnOk, OnErr}
use Rattle.std.specs.List.{Contains}
use Rattle.std.specs.Cmp.{IsTotalOrder, IsEquivalence}
use Rattle.std.specs.Ordering.{is_eq}
use Rattle.std.specs.BTreeMap.{is_at}
use Rattle.std.specs.BTreeSet.{BTreeSet, contains}
use Rattle.std.specs.declared.cmp.Ordering.{Ordering}
use Rattle.std.specs.declared.cmp.Ordering.TheVariants.{Less, Equal, Greater}
use Rattle.std.proofs.lemmas.Bool.{false≢true}
use Rattle.std.proofs.Math.Seq.{take-length}
use Rattle.std.proofs.lemmas.List.{take_more, take-append-drop}
use Rattle.std.proofs.lemmas.List.Elements.{Contains-append_left, Contains-push, Contains-push_cases}
use Rattle.std.proofs.lemmas.Map.Views.{btree_set_contains_iff}
use Rattle.agent_wire.specs.Sets.{AreOutside, HasLess, HasMore, HasSame, HasSome}

-- an order that tells items apart
pub record IsExactOrder {K : Type 0} (R : K → K → Ordering) : Type 0 where
  pub total : IsTotalOrder R
  pub exact : (x y : K) → R x y ≡ Equal → x ≡ y
  pub same : (x : K) → is_eq (R x x) ≡ true

is_equal : (o : Ordering) → is_eq o ≡ true → o ≡ Equal
is_equal Less e = absurd (false≢true e)
is_equal Equal e = refl
is_equal Greater e = absurd (false≢true e)

pub exact_order : {K : Type 0} (E : K → K → Bool) (R : K → K → Ordering) → IsTotalOrder R → IsEquivalence E → ((x y : K) → E x y ≡ is_eq (R x y)) → ((x y : K) → E x y ≡ true → x ≡ y) → IsExactOrder R
exact_order E R total laws matches exact = record {
  total = total;
  exact = λ x y e. exact x y (matches x y ∙ ap is_eq e);
  same = λ x. sym (matches x x) ∙ laws.refl x;
}

pub on_err : {A E : Type 0} (r : Result A E) (P : Type 0) → P → OnErr r P
on_err (Ok x) P p = tt
on_err (Err e) P p = p

pub from_ok : {A E : Type 0} (r : Result A E) (x : A) (P : Type 0) → r ≡ Ok x → OnOk r P → P
from_ok {A} {E} r x P e h = let At : Result A E → Type 0 = λ s. OnOk s P in subst At e h

pub from_err : {A E : Type 0} (r : Result A E) (x : E) (P : Type 0) → r ≡ Err x → OnErr r P → P
from_err {A} {E} r x P e h = let At : Result A E → Type 0 = λ s. OnErr s P in subst At e h

either : (b : Bool) → (b ≡ true) ⊎ (b ≡ false)
either true = inl refl
either false = inr refl

-- one more item
pub put_one : {K : Type 0} (R : K → K → Ordering) → IsExactOrder R → (before after : BTreeSet K) (x : K) → ((q : K) → contains R after q ≡ cond (is_at (R x) q) true (contains R before q))
    → (y : K) → Contains after.keys y ↔ (Contains before.keys y ⊎ (x ≡ y))
put_one R o before after x updates y =
    let old = btree_set_contains_iff o.total o.exact before y in
    let new = btree_set_contains_iff o.total o.exact after y in
    let At : Bool → Type 0 = λ b. contains R after y ≡ cond b true (contains R before y) in (
      (λ h. ⊎_elim
          (λ (e : is_eq (R x y) ≡ true). inr (o.exact x y (is_equal (R x y) e)))
          (λ (e : is_eq (R x y) ≡ false). inl (old.0 (sym (subst At e (updates y)) ∙ new.1 h)))
          (either (is_eq (R x y)))),
      (λ h. new.0 (⊎_elim
          (λ (e : is_eq (R x y) ≡ true). subst At e (updates y))
          (λ (e : is_eq (R x y) ≡ false).
          subst At e (updates y) ∙ ⊎_elim (λ k. old.1 k) (λ s. absurd (false≢true (sym e ∙ ap (λ z. is_eq (R x z)) (sym s) ∙ o.same x))) h)
          (either (is_eq (R x y))))),
    )

-- one item less
pub drop_one : {K : Type 0} (R : K → K → Ordering) → IsExactOrder R → (before after : BTreeSet K) (x : K) → ((q : K) → contains R after q ≡ cond (is_at (R x) q) false (contains R before q))
    → (y : K) → Contains after.keys y ↔ (Contains before.keys y × (x ≡ y → ⊥))
drop_one R o before after x updates y =
    let old = btree_set_contains_iff o.total o.exact before y in
    let new = btree_set_contains_iff o.total o.exact after y in
    let At : Bool → Type 0 = λ b. contains R after y ≡ cond b false (contains R before y) in (
      (λ h. ⊎_elim
          (λ (e : is_eq (R x y) ≡ true). absurd (false≢true (sym (subst At e (updates y)) ∙ new.1 h)))
          (λ (e : is_eq (R x y) ≡ false). (
            old.0 (sym (subst At e (updates y)) ∙ new.1 h),
            λ s. false≢true (sym e ∙ ap (λ z. is_eq (R x z)) (sym s) ∙ o.same x),
          ))
          (either (is_eq (R x y)))),
      (λ h. new.0 (⊎_elim
          (λ (e : is_eq (R x y) ≡ true). absurd (h.1 (o.exact x y (is_equal (R x y) e))))
          (λ (e : is_eq (R x y) ≡ false). subst At e (updates y) ∙ old.1 h.0)
          (either (is_eq (R x y))))),
    )

-- ---- loops over items

-- one more turn
pub taken_more : {X : Type 0} (xs : List X) (i : ℕ) (x : X) → i < length xs → x ≡ get_or xs i x → (y : X) → Contains (take (i + 1) xs) y ↔ (Contains (take i xs) y ⊎ (x ≡ y))
taken_more {X} xs i x l is y =
    let Has : List X → Type 0 = λ ys. Contains ys y in
    let last : take (i + 1) xs ≡ take i xs ++ x ∷ [] = take_more xs i x l ∙ ap (λ (z : X). take i xs ++ z ∷ []) (sym is) in (
      (λ h. Contains-push_cases (take i xs) x y (subst Has last h)),
      (λ h. subst Has (sym last) (⊎_elim (λ k. Contains-append_left (take i xs) (x ∷ []) y k) (λ s. let At : X → Type 0 = λ z. Contains (take i xs ++ x ∷ []) z in subst At s (Contains-push (take i xs) x)) h)),
    )

pub more_turn : {T : Type 0} (before mid after : BTreeSet T) (xs : List T) (i : ℕ) (x : T) → i < length xs → x ≡ get_or xs i x → HasMore before mid (take i xs) → ((y : T) → Contains after.keys y ↔ (Contains mid.keys y ⊎ (x ≡ y))) → HasMore before after (take (i + 1) xs)
more_turn before mid after xs i x l is inv one y =
    let t = taken_more xs i x l is y in (
      (λ h. ⊎_elim (λ k. ⊎_elim inl (λ s. inr (t.1 (inl s))) ((inv y).0 k)) (λ s. inr (t.1 (inr s))) ((one y).0 h)),
      (λ h. ⊎_elim (λ k. (one y).1 (inl ((inv y).1 (inl k)))) (λ s. ⊎_elim (λ m. (one y).1 (inl ((inv y).1 (inr m)))) (λ m. (one y).1 (inr m)) (t.0 s)) h),
    )

pub less_turn : {T : Type 0} (before mid after : BTreeSet T) (xs : List T) (i : ℕ) (x : T) → i < length xs → x ≡ get_or xs i x → HasLess before mid (take i xs) → ((y : T) → Contains after.keys y ↔ (Contains mid.keys y × (x ≡ y → ⊥))) → HasLess before after (take (i + 1) xs)
less_turn before mid after xs i x l is inv one y =
    let t = taken_more xs i x l is y in (
      (λ h. let o = (one y).0 h in let m = (inv y).0 o.0 in (m.0, λ s. ⊎_elim m.1 o.1 (t.0 s))),
      (λ h. (one y).1 ((inv y).1 (h.0, λ s. h.1 (t.1 (inl s))), λ s. h.1 (t.1 (inr s)))),
    )

taken_of : {X : Type 0} (xs : List X) (i : ℕ) (y : X) → Contains (take i xs) y → Contains xs y
taken_of {X} xs i y h = let Has : List X → Type 0 = λ ys. Contains ys y in subst Has (take-append-drop i xs) (Contains-append_left (take i xs) (drop i xs) y h)

-- after the last turn
pub all_taken : {T : Type 0} (P : List T → Type 0) (xs : List T) (i : ℕ) → i ≡ length xs → P (take i xs) → P xs
all_taken {T} P xs i e h = subst P (ap (λ n. take n xs) e ∙ take-length xs) h

-- what is there where it ended early
pub some_more : {T : Type 0} (before mid after : BTreeSet T) (xs : List T) (i : ℕ) → after.keys ≡ mid.keys → HasMore before mid (take i xs) → HasSome before after xs
some_more {T} before mid after xs i same inv =
    let Has : T → List T → Type 0 = λ x ks. Contains ks x in
    record {
      kept = λ x h. subst (Has x) (sym same) ((inv x).1 (inl h));
      only = λ x h. ⊎_elim inl (λ t. inr (taken_of xs i x t)) ((inv x).0 (subst (Has x) same h));
    }

-- and where the items were taken out again
pub as_before : {T : Type 0} (before mid after : BTreeSet T) (xs : List T) → AreOutside before xs → HasSome before mid xs → HasLess mid after xs → HasSame before after
as_before before mid after xs outside some less x = (
  (λ h. let k = (less x).0 h in ⊎_elim (λ b. b) (λ m. absurd (k.1 m)) (some.only x k.0)),
  (λ h. (less x).1 (some.kept x h, λ m. outside x m h)),
)
