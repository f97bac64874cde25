-- The pages of a worker's turns rise.
use Rattle.std.proofs.Common.{◌≡◌, ℕ, zero, suc, ◌+◌, ◌%◌, ◌<◌, ◌≤◌, ◌==◌, cond, List, [], ◌∷◌, ◌++◌, length, get_or, sym, refl, ap, ◌∙◌, subst, arith}
use Rattle.std.proofs.Math.Nat.{mod-lt}
use Rattle.std.proofs.lemmas.Bool.{eq-eqb}
use Rattle.std.proofs.lemmas.List.Elements.{Contains-append_left, Contains-append_right}
use Rattle.std.proofs.lemmas.Option.{slice_get_within, get_or_from_slice_get}
use Rattle.std.specs.List.{Contains}
use lib.ListN.{get_elem?}
use mathlib.Core.Option.{some}
use Rattle.spie_base.specs.declared.Entry.{Entry}
use Rattle.gate_core.specs.Invariant.{IsRising}
use Rattle.trace_history.specs.Receipts.{Receipt}
use Rattle.trace_history.specs.Workers.{entry_by, share_of}
use Rattle.trace_workers.specs.Laws.{RisingSharesRise}

abbrev pub entry_of : Receipt → Entry
entry_of x = record { page = record { number = x.page }; sig = x.hop.sig }

-- ---- lists of entries

elem_at : (es : List Entry) (k : ℕ) (d : Entry) → k < length es → get_elem? es k ≡ some (get_or es k d)
elem_at [] k d small = absurd (omega arith)
elem_at (e ∷ es) zero d small = refl
elem_at (e ∷ es) (suc k) d small = elem_at es k d (omega arith)

above_floor : (f : ℕ) (es : List Entry) (e : Entry) → IsRising f es → Contains es e → f ≤ e.page.number
above_floor f es e h (k, small, at) = h.from_floor k e (elem_at es k e small ∙ ap some at)

above_first : (f : ℕ) (e x : Entry) (es : List Entry) → IsRising f (e ∷ es) → Contains es x → e.page.number ≤ x.page.number
above_first f e x es h (k, small, at) = h.ordered 0 (suc k) e x (omega arith) refl (elem_at es k x small ∙ ap some at)

rising_rest : (f : ℕ) (e : Entry) (es : List Entry) → IsRising f (e ∷ es) → IsRising f es
rising_rest f e es h = record {
  ordered = λ i j a b le at bt. h.ordered (suc i) (suc j) a b (omega arith) at bt;
  from_floor = λ i a at. h.from_floor (suc i) a at;
}

rising_behind : (f : ℕ) (ds es : List Entry) → IsRising f (ds ++ es) → IsRising f es
rising_behind f [] es h = h
rising_behind f (d ∷ ds) es h = rising_behind f ds es (rising_rest f d (ds ++ es) h)

-- ---- shares

-- the first receipt's part of a share, where the turn is the worker's and the receipt the router's
first_part : (W w r from : ℕ) (x : Receipt) → from % W ≡ w → x.hop.router ≡ r → cond (from % W == w) (entry_by r x) [] ≡ entry_of x ∷ []
first_part W w r from x m here = ap (λ b. cond b (entry_by r x) []) (eq-eqb (from % W) w m) ∙ ap (λ b. cond b (entry_of x ∷ []) []) (eq-eqb x.hop.router r here)

pub in_share : (W w r from : ℕ) (xs : List Receipt) (j : ℕ) (d : Receipt) → j < length xs → (from + j) % W ≡ w → (get_or xs j d).hop.router ≡ r → Contains (share_of W w r from xs) (entry_of (get_or xs j d))
in_share W w r from [] j d small m here = absurd (omega arith)
in_share W w r from (x ∷ xs) zero d small m here =
    let e : from + 0 ≡ from = omega arith in
    Contains-append_left (cond (from % W == w) (entry_by r x) []) (share_of W w r (from + 1) xs) (entry_of x)
    (subst (λ es. Contains es (entry_of x)) (sym (first_part W w r from x (ap (λ n. n % W) (sym e) ∙ m) here)) (0, (let z : 0 < 1 = omega arith in z), refl))
in_share W w r from (x ∷ xs) (suc j) d small m here =
    let e : (from + 1) + j ≡ from + suc j = omega arith in
    Contains-append_right (cond (from % W == w) (entry_by r x) []) (share_of W w r (from + 1) xs) (entry_of (get_or xs j d)) (in_share W w r (from + 1) xs j d (omega arith) (ap (λ n. n % W) e ∙ m) here)

rising_turns : (W w r f from : ℕ) (xs : List Receipt) (i j : ℕ) (d : Receipt) → IsRising f (share_of W w r from xs) → i < j → j < length xs
    → (from + i) % W ≡ w → (from + j) % W ≡ w → (get_or xs i d).hop.router ≡ r → (get_or xs j d).hop.router ≡ r → (get_or xs i d).page ≤ (get_or xs j d).page
rising_turns W w r f from [] i j d h before small mi mj ri rj = absurd (omega arith)
rising_turns W w r f from (x ∷ xs) i zero d h before small mi mj ri rj = absurd (omega arith)
rising_turns W w r f from (x ∷ xs) zero (suc j) d h before small mi mj ri rj =
    let e : from + 0 ≡ from = omega arith in
    let s : (from + 1) + j ≡ from + suc j = omega arith in
    let first = first_part W w r from x (ap (λ n. n % W) (sym e) ∙ mi) ri in
    above_first f (entry_of x) (entry_of (get_or xs j d)) (share_of W w r (from + 1) xs) (subst (λ es. IsRising f (es ++ share_of W w r (from + 1) xs)) first h)
    (in_share W w r (from + 1) xs j d (omega arith) (ap (λ n. n % W) s ∙ mj) rj)
rising_turns W w r f from (x ∷ xs) (suc i) (suc j) d h before small mi mj ri rj =
    let s : (from + 1) + i ≡ from + suc i = omega arith in
    let u : (from + 1) + j ≡ from + suc j = omega arith in
    rising_turns W w r f (from + 1) xs i j d (rising_behind f (cond (from % W == w) (entry_by r x) []) (share_of W w r (from + 1) xs) h) (omega arith) (omega arith)
    (ap (λ n. n % W) s ∙ mi) (ap (λ n. n % W) u ∙ mj) ri rj

pub rising_shares_rise : RisingSharesRise
rising_shares_rise W r f xs least h = record {
  rising = λ i j x y before same gi gj ri rj.
      let small = slice_get_within xs j y gj in
      let lt : j % W < W = mod-lt j least in
      let ei : get_or xs i x ≡ x = get_or_from_slice_get xs i x x gi in
      let ej : get_or xs j x ≡ y = get_or_from_slice_get xs j y x gj in
      let zi : 0 + i ≡ i = omega arith in
      let zj : 0 + j ≡ j = omega arith in
      let le = rising_turns W (j % W) r f 0 xs i j x (h (j % W) lt) before small (ap (λ n. n % W) zi ∙ same) (ap (λ n. n % W) zj)
      (ap (λ (q : Receipt). q.hop.router) ei ∙ ri) (ap (λ (q : Receipt). q.hop.router) ej ∙ rj) in
      subst (λ (q : Receipt). q.page ≤ y.page) ei (subst (λ (q : Receipt). (get_or xs i x).page ≤ q.page) ej le);
  from_floor = λ x has here.
      let k = has.0 in
      let lt : k % W < W = mod-lt k least in
      let z : 0 + k ≡ k = omega arith in
      let at : get_or xs k x ≡ x = has.2 in
      let in_it = in_share W (k % W) r 0 xs k x has.1 (ap (λ n. n % W) z) (ap (λ (q : Receipt). q.hop.router) at ∙ here) in
      subst (λ (q : Receipt). f ≤ q.page) at (above_floor f (share_of W (k % W) r 0 xs) (entry_of (get_or xs k x)) (h (k % W) lt) in_it);
}
