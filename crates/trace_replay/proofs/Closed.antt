-- The pages that were put are closed.
use Rattle.std.proofs.Common.{ℕ, ◌≡◌, ◌≤◌, ◌<◌, ◌∷◌, [], inl, ⊎_elim, Bool, true, false, cond, ◌==◌, List, length, refl, subst, arith, length-append}
use Rattle.std.specs.Prelude.{nat_lt}
use Rattle.std.specs.List.{Contains}
use Rattle.std.proofs.lemmas.Bool.{eqb-true}
use Rattle.std.proofs.lemmas.Bool.Decides.{nat_tests}
use Rattle.std.proofs.lemmas.List.Elements.{Contains-append_cases}
use Rattle.router_account.specs.Account.{Account, fill, with_closing}
use Rattle.page_catalogue.specs.Pages.{open_page, is_due}
use Rattle.router_account.specs.Ledger.{PutBits, Unfinished}
use Rattle.trace_replay.proofs.Held.{ArePutClosed}
use Rattle.trace_history.specs.History.{Event, recorded, rotated, archived, watched, ticked, queried, ended, History, Hop, account, clock, with_hop}
use Rattle.trace_history.specs.Ledgers.{ledger, puts, put_by}
use Rattle.trace_history.specs.Outcomes.{IsAllowed, IsAllowedEvent}
use Rattle.trace_history.specs.Routers.{RouterRules}
use Rattle.spie_base.proofs.Membership.{has_none}
use Rattle.trace_replay.specs.Segments.{Splits, with_split, filled, AreInner, IsBarred}
use Rattle.trace_replay.proofs.Filled.{moment_of, up_filled}

lt_of : (a b : ℕ) → nat_lt a b ≡ true → a < b
lt_of a b e = grind (arith, nat_tests)

hop_count : (b : Bool) (a : Account) (hop : Hop) (page : ℕ) → length a.closings ≤ length (cond b (with_hop a hop page) a).closings
hop_count true a hop page = omega arith
hop_count false a hop page = omega arith

time_count : (b : Bool) (a : Account) (time : ℕ) → length a.closings ≤ length (cond b (with_closing a time) a).closings
time_count true a time = let e = length-append a.closings (time ∷ []) in omega (arith, e)
time_count false a time = omega arith

pub grows_by : (rules : RouterRules) (r line : ℕ) (h : History) (e : Event) → length (account rules r h).closings ≤ length (account rules r (moment_of line e ∷ h)).closings
grows_by rules r line h (recorded hop page) = hop_count (hop.router == (account rules r h).router) (account rules r h) hop page
grows_by rules r line h (rotated q page) = time_count (q == (account rules r h).router) (account rules r h) (clock h)
grows_by rules r line h (archived q put kept) = omega arith
grows_by rules r line h (watched q sig a) = omega arith
grows_by rules r line h (ticked time left) = time_count (is_due (rules r) (account rules r h).closings time (fill (rules r) (account rules r h) (open_page (account rules r h).closings))) (account rules r h) time
grows_by rules r line h (queried query left) = omega arith
grows_by rules r line h (ended left) = omega arith

pub grows_filled : (rules : RouterRules) (r : ℕ) (f : Splits) (seg h : History) → length (account rules r h).closings ≤ length (account rules r (filled f seg h)).closings
grows_filled rules r f [] h = omega arith
grows_filled rules r f (moment ∷ seg) h = let a = grows_filled rules r f seg h in let b = grows_by rules r moment.line (filled f seg h) (with_split f moment.event) in omega (arith, a, b)

in_cond : (b : Bool) (xs : List ℕ) (page : ℕ) → Contains (cond b xs []) page → (b ≡ true) × Contains xs page
in_cond true xs page h = (refl, h)
in_cond false xs page h = absurd (has_none page h)

closed_by : (n : ℕ) (rules : RouterRules) (r line : ℕ) (h : History) (e : Event) → IsAllowedEvent n rules h (moment_of line e ∷ h) e → (page : ℕ) → Contains (put_by r e) page → page < length (account rules r h).closings
closed_by n rules r line h (recorded hop p) a page c = absurd (has_none page c)
closed_by n rules r line h (rotated q p) a page c = absurd (has_none page c)
closed_by n rules r line h (archived q put kept) a page c =
    let at = in_cond (q == r) put page c in
    let e : q ≡ r = eqb-true q r at.0 in
    let P : ℕ → Type 0 = λ x. page < length (account rules x h).closings in
    subst P e (lt_of page _ ((a.all page).0 (inl at.1)).closed)
closed_by n rules r line h (watched q sig w) a page c = absurd (has_none page c)
closed_by n rules r line h (ticked time left) a page c = absurd (has_none page c)
closed_by n rules r line h (queried query left) a page c = absurd (has_none page c)
closed_by n rules r line h (ended left) a page c = absurd (has_none page c)

pub closed_history : (n : ℕ) (rules : RouterRules) (r : ℕ) (h : History) → IsAllowed n rules h → (page : ℕ) → Contains (puts r h) page → page < length (account rules r h).closings
closed_history n rules r [] a page c = absurd (has_none page c)
closed_history n rules r (moment ∷ h) a page c =
    let up = grows_by rules r moment.line h moment.event in
    ⊎_elim (λ (x : Contains (put_by r moment.event) page). let l = closed_by n rules r moment.line h moment.event a.1 page x in omega (arith, l, up))
    (λ (x : Contains (puts r h) page). let l = closed_history n rules r h a.0 page x in omega (arith, l, up))
    (Contains-append_cases (put_by r moment.event) (puts r h) page c)

pub puts_closed : (n : ℕ) (rules : RouterRules) (r : ℕ) (f : Splits) (seg h : History) (u : Unfinished) → AreInner seg → IsBarred h → IsAllowed n rules h
    → ((x : PutBits) → Contains u.bits_put x → x.page < length (account rules r (filled f seg h)).closings) → ArePutClosed (ledger rules r (filled f seg h)) u
puts_closed n rules r f seg h u i b a closed = record {
  bits = closed;
  each = λ page c.
      let P : History → Type 0 = λ x. Contains (puts r x) page in
      let l = closed_history n rules r h a page (subst P (up_filled f seg h i b) c) in
      let up = grows_filled rules r f seg h in omega (arith, l, up);
}
