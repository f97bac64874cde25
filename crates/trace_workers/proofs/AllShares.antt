-- All shares together.
use Rattle.std.proofs.Common.{◌≡◌, ℕ, zero, suc, ◌+◌, ◌%◌, ◌<◌, ◌==◌, Bool, cond, true, false, List, [], ◌∷◌, ◌++◌, length, get_or, sym, refl, ap, ap₂, ◌∙◌, subst, ⊎_elim, arith}
use Rattle.std.proofs.Math.Nat.{mod-lt}
use Rattle.std.proofs.lemmas.Bool.{eq-eqb}
use Rattle.std.proofs.lemmas.List.Elements.{Contains-append_left, Contains-append_right, Contains-append_cases}
use Rattle.std.specs.List.{Contains, flat_map, range_with_len}
use Rattle.spie_base.specs.declared.Entry.{Entry}
use Rattle.page_gate.specs.Held.{PassHeld}
use Rattle.router_account.specs.Account.{below}
use Rattle.trace_history.specs.Receipts.{Receipt}
use Rattle.trace_history.specs.Workers.{entry_by, share_of}
use Rattle.trace_workers.specs.Records.{entries_by}
use Rattle.trace_workers.specs.Laws.{SharesAreAll, ColumnsAreWorked}

-- ---- lists made of lists

into_ranges : {A : Type 0} (f : ℕ → List A) (a n k : ℕ) (x : A) → k < n → Contains (f (a + k)) x → Contains (flat_map f (range_with_len a n)) x
into_ranges f a zero k x small has = absurd (omega arith)
into_ranges f a (suc n) zero x small has = let e : a + 0 ≡ a = omega arith in Contains-append_left (f a) (flat_map f (range_with_len (a + 1) n)) x (subst (λ i. Contains (f i) x) e has)
into_ranges f a (suc n) (suc k) x small has = let e : a + suc k ≡ (a + 1) + k = omega arith in
    Contains-append_right (f a) (flat_map f (range_with_len (a + 1) n)) x (into_ranges f (a + 1) n k x (omega arith) (subst (λ i. Contains (f i) x) e has))

none_there : {A : Type 0} {B : Type 0} (x : A) → Contains [] x → B
none_there x (k, small, at) = absurd (omega arith)

out_of_ranges : {A : Type 0} (f : ℕ → List A) (ys : List A) → ((i : ℕ) (x : A) → Contains (f i) x → Contains ys x) → (a n : ℕ) (x : A) → Contains (flat_map f (range_with_len a n)) x → Contains ys x
out_of_ranges f ys h a zero x has = none_there x has
out_of_ranges f ys h a (suc n) x has = ⊎_elim (λ left. h a x left) (λ right. out_of_ranges f ys h (a + 1) n x right) (Contains-append_cases (f a) (flat_map f (range_with_len (a + 1) n)) x has)

-- ---- shares

of_turn : (b : Bool) (r : ℕ) (x : Receipt) (e : Entry) → Contains (cond b (entry_by r x) []) e → Contains (entry_by r x) e
of_turn true r x e has = has
of_turn false r x e has = none_there e has

share_within : (W w r from : ℕ) (xs : List Receipt) (e : Entry) → Contains (share_of W w r from xs) e → Contains (entries_by r xs) e
share_within W w r from [] e has = none_there e has
share_within W w r from (x ∷ xs) e has = ⊎_elim
    (λ here. Contains-append_left (entry_by r x) (entries_by r xs) e (of_turn (from % W == w) r x e here))
    (λ later. Contains-append_right (entry_by r x) (entries_by r xs) e (share_within W w r (from + 1) xs e later))
    (Contains-append_cases (cond (from % W == w) (entry_by r x) []) (share_of W w r (from + 1) xs) e has)

in_some_share : (W r from : ℕ) (xs : List Receipt) (e : Entry) → 0 < W → Contains (entries_by r xs) e → (w : ℕ) × (w < W) × Contains (share_of W w r from xs) e
in_some_share W r from [] e some has = none_there e has
in_some_share W r from (x ∷ xs) e some has = ⊎_elim
    (λ here. (
      from % W,
      mod-lt from some,
      Contains-append_left (cond (from % W == from % W) (entry_by r x) []) (share_of W (from % W) r (from + 1) xs) e
          (subst (λ b. Contains (cond b (entry_by r x) []) e) (sym (eq-eqb (from % W) (from % W) refl)) here),
    ))
    (λ later. let found = in_some_share W r (from + 1) xs e some later in
    (found.0, found.1, Contains-append_right (cond (from % W == found.0) (entry_by r x) []) (share_of W found.0 r (from + 1) xs) e found.2))
    (Contains-append_cases (entry_by r x) (entries_by r xs) e has)

pub shares_are_all : SharesAreAll
shares_are_all W r xs some e = (
  (λ has. out_of_ranges (λ w. share_of W w r 0 xs) (entries_by r xs) (λ w x h. share_within W w r 0 xs x h) 0 W e has),
  (λ has. let found = in_some_share W r 0 xs e some has in
      let z : found.0 ≡ 0 + found.0 = omega arith in
      into_ranges (λ w. share_of W w r 0 xs) 0 W found.0 e found.1 (subst (λ w. Contains (share_of W w r 0 xs) e) z found.2)),
)

-- ---- columns

one_by_one : (f : ℕ → List Entry) (ps : List PassHeld) (a : ℕ) → ((i : ℕ) (p : PassHeld) → i < length ps → (get_or ps i p).entries ≡ f (a + i)) → flat_map (λ (p : PassHeld). p.entries) ps ≡ flat_map f (range_with_len a (length ps))
one_by_one f [] a h = refl
one_by_one f (p ∷ ps) a h =
    let e : a + 0 ≡ a = omega arith in
    ap₂ (λ xs ys. xs ++ ys) (h 0 p (omega arith) ∙ ap f e)
    (one_by_one f ps (a + 1) (λ i q small. let s : a + suc i ≡ (a + 1) + i = omega arith in h (suc i) q (omega arith) ∙ ap f s))

pub columns_are_worked : ColumnsAreWorked
columns_are_worked W r xs column long h =
    one_by_one (λ w. share_of W w r 0 xs) column 0 (λ i p small. let z : i ≡ 0 + i = omega arith in h i p (omega arith) ∙ ap (λ w. share_of W w r 0 xs) z)
    ∙ ap (λ n. flat_map (λ w. share_of W w r 0 xs) (below n)) long
