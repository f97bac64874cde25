-- Over a shelf of which no call failed no page is kept, left, or unreadable.
use Rattle.std.proofs.Common.{ℕ, zero, suc, ◌≡◌, ◌≤◌, ◌<◌, ◌+◌, ◌-◌, ◌^◌, ◌∷◌, [], ◌∙◌, true, cond, List, length, filter, ap, refl, subst, inl, inr, arith}
use Rattle.std.proofs.lemmas.Bool.{cases_eq}
use Rattle.std.specs.Prelude.{min}
use Rattle.std.specs.List.{Contains}
use Rattle.spie_base.proofs.Membership.{has_first}
use Rattle.router_account.specs.declared.Cause.TheVariants.{Failed}
use Rattle.router_account.specs.Sights.{UnreadPage, failures, is_failed}
use Rattle.trace_history.specs.History.{Event, recorded, rotated, archived, watched, ticked, queried, ended, History}
use Rattle.trace_history.specs.Laws.{NoFaultNoMark}
use Rattle.trace_history.specs.Outcomes.{AreFaultless, EachQuery, HasNoneUnread, HasOnlyFaults, IfQuery, IsFaultless, fault_marks, fault_marks_by}
use Rattle.trace_history.specs.Routers.{count, sum_over}

-- no page, where there are none to count
none_of : {X : Type 0} (xs : List X) → length xs ≡ 0 → xs ≡ []
none_of [] e = refl
none_of (x ∷ xs) e = absurd (omega (arith, e))

-- a sum of nothing has nothing
sum_zero : (n : ℕ) (f : ℕ → ℕ) → sum_over n f ≡ 0 → (r : ℕ) → r < n → f r ≡ 0
sum_zero zero f e r l = absurd (omega (arith, l))
sum_zero (suc n) f e r l = elim (cases_eq r n) [
  | inl here ↦ ap f here ∙ (let goal : f n ≡ 0 = omega (arith, e) in goal)
  | inr other ↦ sum_zero n f (omega (arith, e)) r (omega (arith, l, other))
]

event_faultless : (n : ℕ) (event : Event) → fault_marks_by n event ≡ 0 → IsFaultless n event
event_faultless n (recorded hop page) e = tt
event_faultless n (rotated r page) e = tt
event_faultless n (archived r put kept) e = none_of kept e
event_faultless n (watched r sig answer) e = tt
event_faultless n (ticked time left) e = λ r l. none_of (left r) (sum_zero n (λ q. length (left q)) e r l)
event_faultless n (queried query left) e = (
  (λ r l. none_of (left r) (sum_zero n (λ q. length (left q)) (omega (arith, e)) r l)),
  (λ r l. sum_zero n (λ q. failures (query.reads q)) (omega (arith, e)) r l),
)
event_faultless n (ended left) e = λ r l. none_of (left r) (sum_zero n (λ q. length (left q)) e r l)

all_faultless : (n : ℕ) (history : History) → fault_marks n history ≡ 0 → AreFaultless n history
all_faultless n [] e = tt
all_faultless n (moment ∷ history) e = (all_faultless n history (omega (arith, e)), event_faultless n moment.event (omega (arith, e)))

-- where only faults made pages unreadable, and none did, no page is unreadable
none_unread : (unread : List UnreadPage) → ((x : UnreadPage) → Contains unread x → x.cause ≡ Failed) → length (filter (λ x. is_failed x.cause) unread) ≡ 0 → unread ≡ []
none_unread [] all e = refl
none_unread (x ∷ unread) all e =
    let failed : is_failed x.cause ≡ true = ap is_failed (all x (has_first x unread)) in
    let few : length (cond (is_failed x.cause) (x ∷ filter (λ y. is_failed y.cause) unread) (filter (λ y. is_failed y.cause) unread)) ≡ 0 = e in
    absurd (let many = subst (λ b. length (cond b (x ∷ filter (λ y. is_failed y.cause) unread) (filter (λ y. is_failed y.cause) unread)) ≡ 0) failed few in omega (arith, many))

query_read : (n : ℕ) (after : History) (event : Event) → IsFaultless n event → IfQuery (HasOnlyFaults n) after event → IfQuery (HasNoneUnread n) after event
query_read n after (recorded hop page) f only = tt
query_read n after (rotated r page) f only = tt
query_read n after (archived r put kept) f only = tt
query_read n after (watched r sig answer) f only = tt
query_read n after (ticked time left) f only = tt
query_read n after (queried query left) f only = λ r l. none_unread (query.reads r).unread (only r l) (f.1 r l)
query_read n after (ended left) f only = tt

all_read : (n : ℕ) (history : History) → AreFaultless n history → EachQuery (HasOnlyFaults n) history → EachQuery (HasNoneUnread n) history
all_read n [] f only = tt
all_read n (moment ∷ history) f only = (all_read n history f.0 only.0, query_read n (moment ∷ history) moment.event f.1 only.1)

-- marks that are paid where the count stays are none
no_marks : (marks before now : ℕ) → min (before + marks) (2 ^ 64 - 1) ≤ now → now ≡ before → before < 2 ^ 64 - 1 → marks ≡ 0
no_marks marks before now paid same few = omega (arith, paid, same, few)

pub no_fault_no_mark : NoFaultNoMark
no_fault_no_mark t lines before after history possible same few =
    let none = no_marks (fault_marks (count t) history) before.faults after.faults possible.shelf.paid same few in
    let faultless = all_faultless (count t) history none in
    (faultless, (λ tells. all_read (count t) history faultless (possible.shelf.only_faults tells)))
