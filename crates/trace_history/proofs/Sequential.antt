-- In a segment where each record is in the page that is open at its line, the receipts are legal.
use Rattle.std.proofs.Common.{◌≡◌, ℕ, zero, suc, ◌+◌, ◌<◌, ◌≤◌, Bool, true, false, cond, ◌==◌, ◌∷◌, [], ◌++◌, ◌⊎◌, ◌∙◌, sym, refl, subst, ap, inl, inr, ⊎_elim, List, length, arith, append-nil, length-append}
use Rattle.std.specs.Prelude.{slice_get, Some}
use Rattle.std.specs.List.{Contains}
use Rattle.std.proofs.lemmas.Bool.{false≢true}
use Rattle.std.proofs.lemmas.Bool.Decides.{Decides-eqb}
use Rattle.std.proofs.lemmas.List.Elements.{Contains-append_cases}
use Rattle.spie_base.specs.declared.Rules.{Rules}
use Rattle.router_account.specs.Account.{Account, fill, with_closing}
use Rattle.trace_history.specs.History.{Event, recorded, rotated, archived, watched, ticked, queried, ended, Moment, History, Hop, account, account_after, clock, with_hop}
use Rattle.page_catalogue.specs.Pages.{open_page, is_due}
use Rattle.trace_history.specs.Receipts.{segment, up_to_barrier, open_at, Receipt, receipt_by, receipts, opened_by, openings, IsLegalFor, IsInTurn, IsSequential}
use Rattle.trace_history.specs.Laws.{SequentialIsLegal}
use Rattle.trace_history.specs.Routers.{RouterRules}
use Rattle.spie_base.proofs.Membership.{has_none, has_one, has_first, has_later}

-- an account is that of its router
cond_router : (b : Bool) (x y : Account) → x.router ≡ y.router → (cond b x y).router ≡ y.router
cond_router true x y e = e
cond_router false x y e = refl

after_router : (rules : Rules) (event : Event) (t : ℕ) (a : Account) → (account_after rules event t a).router ≡ a.router
after_router rules (recorded hop page) t a = cond_router (hop.router == a.router) (with_hop a hop page) a refl
after_router rules (rotated router page) t a = cond_router (router == a.router) (with_closing a t) a refl
after_router rules (archived router put kept) t a = refl
after_router rules (watched router sig answer) t a = refl
after_router rules (ticked time left) t a = cond_router (is_due rules a.closings time (fill rules a (open_page a.closings))) (with_closing a time) a refl
after_router rules (queried query left) t a = refl
after_router rules (ended left) t a = refl

pub account_router : (rules : RouterRules) (router : ℕ) (history : History) → (account rules router history).router ≡ router
account_router rules router [] = refl
account_router rules router (moment ∷ history) = after_router (rules router) moment.event (clock history) (account rules router history) ∙ account_router rules router history

-- where an item of two lists stands
get_cases : {X : Type 0} (xs ys : List X) (i : ℕ) (v : X) → slice_get (xs ++ ys) i ≡ Some v → ((slice_get xs i ≡ Some v) × (i < length xs)) ⊎ ((k : ℕ) × (slice_get ys k ≡ Some v) × (i ≡ length xs + k))
get_cases [] ys i v e = inr (i, e, omega arith)
get_cases (x ∷ xs) ys zero v e = inl (e, omega arith)
get_cases (x ∷ xs) ys (suc i) v e =
    ⊎_elim (λ (h : (slice_get xs i ≡ Some v) × (i < length xs)). inl (h.0, (let l : i < length xs = h.1 in omega arith)))
    (λ (h : (k : ℕ) × (slice_get ys k ≡ Some v) × (i ≡ length xs + k)). inr (h.0, h.1, (let l : i ≡ length xs + h.0 = h.2 in omega arith)))
    (get_cases xs ys i v e)

get_has : {X : Type 0} (xs : List X) (i : ℕ) (v : X) → slice_get xs i ≡ Some v → Contains xs v
get_has [] i v e = cc
get_has (x ∷ xs) zero v e = let same : x ≡ v = cc in subst (λ (y : _). Contains (x ∷ xs) y) same (has_first x xs)
get_has (x ∷ xs) (suc i) v e = has_later x xs v (get_has xs i v e)

-- what a deed may add to a legal segment of m openings
pub record IsFresh (r a m : ℕ) (d : Event) : Type 0 where
  pub few : length (receipt_by d) ≤ 1
  pub stay : (x : Receipt) → Contains (receipt_by d) x → x.hop.router ≡ r → x.page ≡ a + m
  pub opening : (k p : ℕ) → slice_get (opened_by r d) k ≡ Some p → p ≡ a + (m + k + 1)

legal_none : (W r a : ℕ) → IsLegalFor W r a []
legal_none W r a = record {
  within = λ x h. absurd (has_none x h);
  counted = λ i p e. cc;
  rising = λ i j x y l m e f. cc;
}

legal_more : (W r a : ℕ) (d : Moment) (seg : History) → IsLegalFor W r a seg → IsFresh r a (length (openings r seg)) d.event → IsLegalFor W r a (d ∷ seg)
legal_more W r a d seg h f =
    let n : length (openings r seg ++ opened_by r d.event) ≡ length (openings r seg) + length (opened_by r d.event) = length-append (openings r seg) (opened_by r d.event) in
    let m = length (openings r seg) in
    record {
      within = λ x i e. ⊎_elim
          (λ old. let w = h.within x old e in let high : x.page ≤ a + m = w.1 in (w.0, omega (arith, n)))
          (λ new. let same : x.page ≡ a + m = f.stay x new e in (omega arith, omega (arith, n)))
          (Contains-append_cases (receipts seg) (receipt_by d.event) x i);
      counted = λ i p e. ⊎_elim
          (λ (old : (slice_get (openings r seg) i ≡ Some p) × (i < length (openings r seg))). h.counted i p old.0)
          (λ (new : (k : ℕ) × (slice_get (opened_by r d.event) k ≡ Some p) × (i ≡ length (openings r seg) + k)). let is = f.opening new.0 p new.1 in let at : i ≡ length (openings r seg) + new.0 = new.2 in omega arith)
          (get_cases (openings r seg) (opened_by r d.event) i p e);
      rising = λ i j x y l w ei ej ri rj.
          ⊎_elim
          (λ (oldj : (slice_get (receipts seg) j ≡ Some y) × (j < length (receipts seg))). ⊎_elim
          (λ (oldi : (slice_get (receipts seg) i ≡ Some x) × (i < length (receipts seg))). h.rising i j x y l w oldi.0 oldj.0 ri rj)
          (λ (newi : (k : ℕ) × (slice_get (receipt_by d.event) k ≡ Some x) × (i ≡ length (receipts seg) + k)). let b : j < length (receipts seg) = oldj.1 in let c : i ≡ length (receipts seg) + newi.0 = newi.2 in absurd (omega arith))
          (get_cases (receipts seg) (receipt_by d.event) i x ei))
          (λ (newj : (k : ℕ) × (slice_get (receipt_by d.event) k ≡ Some y) × (j ≡ length (receipts seg) + k)).
          let top : y.page ≡ a + m = f.stay y (get_has (receipt_by d.event) newj.0 y newj.1) rj in
          ⊎_elim
          (λ (oldi : (slice_get (receipts seg) i ≡ Some x) × (i < length (receipts seg))). let b : x.page ≤ a + m = (h.within x (get_has (receipts seg) i x oldi.0) ri).1 in omega arith)
          (λ (newi : (k : ℕ) × (slice_get (receipt_by d.event) k ≡ Some x) × (i ≡ length (receipts seg) + k)). let b : x.page ≡ a + m = f.stay x (get_has (receipt_by d.event) newi.0 x newi.1) ri in omega arith)
          (get_cases (receipts seg) (receipt_by d.event) i x ei))
          (get_cases (receipts seg) (receipt_by d.event) j y ej);
    }

-- the open page grows by the openings of the segment
same_closings : (b : Bool) (a : Account) (hop : Hop) (page : ℕ) → length (cond b (with_hop a hop page) a).closings ≡ length a.closings
same_closings true a hop page = refl
same_closings false a hop page = refl

one_closing : (b c : Bool) (a : Account) (t page : ℕ) → b ≡ c → length (cond b (with_closing a t) a).closings ≡ length a.closings + length (cond c (page ∷ []) [])
one_closing true true a t page e = length-append a.closings (t ∷ [])
one_closing false false a t page e = omega arith
one_closing true false a t page e = absurd (false≢true (sym e))
one_closing false true a t page e = absurd (false≢true e)

grow_by : (rules : RouterRules) (r line : ℕ) (history : History) (d : Event) → open_at rules r history ≡ open_at rules r (up_to_barrier history) + length (openings r (segment history)) → open_at rules r (record { line = line; event = d } ∷ history) ≡ open_at rules r (up_to_barrier (record { line = line; event = d } ∷ history)) + length (openings r (segment (record { line = line; event = d } ∷ history)))
grow_by rules r line history (recorded hop page) e =
    same_closings (hop.router == (account rules r history).router) (account rules r history) hop page ∙ e ∙ ap (λ (l : List ℕ). open_at rules r (up_to_barrier history) + length l) (sym (append-nil (openings r (segment history))))
grow_by rules r line history (rotated router page) e =
    let one = one_closing (router == (account rules r history).router) (router == r) (account rules r history) (clock history) page (ap (λ (q : ℕ). router == q) (account_router rules r history)) in
    let n = length-append (openings r (segment history)) (opened_by r (rotated router page)) in
    omega (arith, one, n, e)
grow_by rules r line history (archived router put kept) e = e ∙ ap (λ (l : List ℕ). open_at rules r (up_to_barrier history) + length l) (sym (append-nil (openings r (segment history))))
grow_by rules r line history (watched router sig answer) e = e ∙ ap (λ (l : List ℕ). open_at rules r (up_to_barrier history) + length l) (sym (append-nil (openings r (segment history))))
grow_by rules r line history (ticked time left) e = omega arith
grow_by rules r line history (queried query left) e = omega arith
grow_by rules r line history (ended left) e = omega arith

pub grow : (rules : RouterRules) (r : ℕ) (history : History) → open_at rules r history ≡ open_at rules r (up_to_barrier history) + length (openings r (segment history))
grow rules r [] = refl
grow rules r (d ∷ history) = grow_by rules r d.line history d.event (grow rules r history)

none_there : {X : Type 0} (k : ℕ) (v : X) → slice_get [] k ≡ Some v → ⊥
none_there k v e = cc

opens_one : (b : Bool) (page k p n : ℕ) → slice_get (cond b (page ∷ []) []) k ≡ Some p → (b ≡ true → page ≡ n + 1) → p ≡ n + k + 1
opens_one false page k p n e is = absurd (none_there k p e)
opens_one true page zero p n e is = let same : page ≡ p = cc in let at = is refl in omega arith
opens_one true page (suc k) p n e is = absurd (none_there k p e)

legal_by : (W r : ℕ) (rules : RouterRules) (line : ℕ) (history : History) (d : Event) → IsInTurn rules history d → IsLegalFor W r (open_at rules r (up_to_barrier history)) (segment history) → IsLegalFor W r (open_at rules r (up_to_barrier (record { line = line; event = d } ∷ history))) (segment (record { line = line; event = d } ∷ history))
legal_by W r rules line history (recorded hop page) now h =
    legal_more W r (open_at rules r (up_to_barrier history)) (record { line = line; event = recorded hop page }) (segment history) h (record {
      few = omega arith;
      stay = λ x i e.
          let same : ◌≡◌ {A = Receipt} (record { hop = hop; page = page }) x = has_one (record { hop = hop; page = page }) x i in
          let who : hop.router ≡ r = ap (λ (y : Receipt). y.hop.router) same ∙ e in
          ap (λ (y : Receipt). y.page) (sym same) ∙ now ∙ ap (λ (q : ℕ). open_at rules q history) who ∙ grow rules r history;
      opening = λ k p e. absurd (none_there k p e);
    })
legal_by W r rules line history (rotated router page) now h =
    let a = open_at rules r (up_to_barrier history) in
    let m = length (openings r (segment history)) in
    legal_more W r a (record { line = line; event = rotated router page }) (segment history) h (record {
      few = omega arith;
      stay = λ x i e. absurd (has_none x i);
      opening = λ k p e.
          let is : p ≡ (a + m) + k + 1 = opens_one (router == r) page k p (a + m) e (λ b. now ∙ ap (λ (q : ℕ). open_at rules q history + 1) ((Decides-eqb router r).0 b) ∙ ap (λ (n : ℕ). n + 1) (grow rules r history)) in
          omega (arith, is);
    })
legal_by W r rules line history (archived router put kept) now h =
    legal_more W r (open_at rules r (up_to_barrier history)) (record { line = line; event = archived router put kept }) (segment history) h (record { few = omega arith; stay = λ x i e. absurd (has_none x i); opening = λ k p e. absurd (none_there k p e) })
legal_by W r rules line history (watched router sig answer) now h =
    legal_more W r (open_at rules r (up_to_barrier history)) (record { line = line; event = watched router sig answer }) (segment history) h (record { few = omega arith; stay = λ x i e. absurd (has_none x i); opening = λ k p e. absurd (none_there k p e) })
legal_by W r rules line history (ticked time left) now h = legal_none W r _
legal_by W r rules line history (queried query left) now h = legal_none W r _
legal_by W r rules line history (ended left) now h = legal_none W r _

sequential_segment : (W r : ℕ) (rules : RouterRules) (history : History) → IsSequential rules history → IsLegalFor W r (open_at rules r (up_to_barrier history)) (segment history)
sequential_segment W r rules [] h = legal_none W r _
sequential_segment W r rules (d ∷ history) h = legal_by W r rules d.line history d.event h.1 (sequential_segment W r rules history h.0)

pub sequential_is_legal : SequentialIsLegal
sequential_is_legal W rules [] h = tt
sequential_is_legal W rules (d ∷ history) h = (sequential_is_legal W rules history h.0, λ b r. sequential_segment W r rules history h.0)
