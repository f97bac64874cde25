-- Histories without what the shelf did: a history whose barriers left no page, and whose queries read none.
use Rattle.std.proofs.Common.{◌≡◌, ℕ, false, cond, ◌==◌, ◌∷◌, [], ◌++◌, ◌∙◌, refl, ap, List}
use Rattle.std.specs.Prelude.{Some, None}
use Rattle.std.specs.declared.option.Option.{Option}
use Rattle.spie_base.specs.declared.Rules.{Rules}
use Rattle.router_account.specs.Account.{Account}
use Rattle.router_account.specs.Ledger.{Ledger}
use Rattle.router_account.specs.Shelves.{ShelfView}
use Rattle.router_account.specs.Sights.{no_reading}
use Rattle.trace_history.specs.History.{Event, recorded, rotated, archived, watched, ticked, queried, ended, History, QueryRun, account, account_after, clock, clock_after}
use Rattle.trace_history.specs.Ledgers.{closed_at_archive, closed_by, covered_by, covers, ledger, left_by, lefts, put_by, puts}
use Rattle.trace_history.specs.Receipts.{up_to_barrier}
use Rattle.trace_history.specs.Routers.{RouterRules}

abbrev pub no_shelf : ShelfView
no_shelf = record { tells = false; contents = λ name. None; faults = 0 }

abbrev pub none_left : ℕ → List ℕ
none_left r = []

abbrev pub plain_query : QueryRun → QueryRun
plain_query query = record { router = query.router; sig = query.sig; time = query.time; reads = λ r. no_reading; shelf_before = no_shelf; shelf_after = no_shelf }

abbrev pub plain_event : Event → Event
plain_event (recorded hop page) = recorded hop page
plain_event (rotated router page) = rotated router page
plain_event (archived router put kept) = archived router put kept
plain_event (watched router sig answer) = watched router sig answer
plain_event (ticked time left) = ticked time none_left
plain_event (queried query left) = queried (plain_query query) none_left
plain_event (ended left) = ended none_left

abbrev pub plain : History → History
plain [] = []
plain (moment ∷ history) = record { line = moment.line; event = plain_event moment.event } ∷ plain history

-- ---- what is known of a router does not go by what the shelf did

clock_by : (d : Event) (now : ℕ) → clock_after (plain_event d) now ≡ clock_after d now
clock_by (recorded hop page) now = refl
clock_by (rotated router page) now = refl
clock_by (archived router put kept) now = refl
clock_by (watched router sig answer) now = refl
clock_by (ticked time left) now = refl
clock_by (queried query left) now = refl
clock_by (ended left) now = refl

pub clock_plain : (history : History) → clock (plain history) ≡ clock history
clock_plain [] = refl
clock_plain (moment ∷ history) = clock_by moment.event (clock (plain history)) ∙ ap (clock_after moment.event) (clock_plain history)

account_by : (rules : Rules) (d : Event) (now : ℕ) (a : Account) → account_after rules (plain_event d) now a ≡ account_after rules d now a
account_by rules (recorded hop page) now a = refl
account_by rules (rotated router page) now a = refl
account_by rules (archived router put kept) now a = refl
account_by rules (watched router sig answer) now a = refl
account_by rules (ticked time left) now a = refl
account_by rules (queried query left) now a = refl
account_by rules (ended left) now a = refl

pub account_plain : (rules : RouterRules) (r : ℕ) (history : History) → account rules r (plain history) ≡ account rules r history
account_plain rules r [] = refl
account_plain rules r (moment ∷ history) =
    account_by (rules r) moment.event (clock (plain history)) (account rules r (plain history))
    ∙ ap (λ (now : ℕ). account_after (rules r) moment.event now (account rules r (plain history))) (clock_plain history)
    ∙ ap (λ (a : Account). account_after (rules r) moment.event (clock history) a) (account_plain rules r history)

up_by : (line : ℕ) (d : Event) (history : History) → up_to_barrier (plain history) ≡ plain (up_to_barrier history)
    → up_to_barrier (plain (record { line = line; event = d } ∷ history)) ≡ plain (up_to_barrier (record { line = line; event = d } ∷ history))
up_by line (recorded hop page) history e = e
up_by line (rotated router page) history e = e
up_by line (archived router put kept) history e = e
up_by line (watched router sig answer) history e = e
up_by line (ticked time left) history e = refl
up_by line (queried query left) history e = refl
up_by line (ended left) history e = refl

up_plain : (history : History) → up_to_barrier (plain history) ≡ plain (up_to_barrier history)
up_plain [] = refl
up_plain (moment ∷ history) = up_by moment.line moment.event history (up_plain history)

put_plain : (r : ℕ) (d : Event) → put_by r (plain_event d) ≡ put_by r d
put_plain r (recorded hop page) = refl
put_plain r (rotated router page) = refl
put_plain r (archived router put kept) = refl
put_plain r (watched router sig answer) = refl
put_plain r (ticked time left) = refl
put_plain r (queried query left) = refl
put_plain r (ended left) = refl

pub puts_plain : (r : ℕ) (history : History) → puts r (plain history) ≡ puts r history
puts_plain r [] = refl
puts_plain r (moment ∷ history) = ap (λ (l : List ℕ). l ++ puts r (plain history)) (put_plain r moment.event) ∙ ap (λ (l : List ℕ). put_by r moment.event ++ l) (puts_plain r history)

covered_plain : (r : ℕ) (d : Event) → covered_by r (plain_event d) ≡ covered_by r d
covered_plain r (recorded hop page) = refl
covered_plain r (rotated router page) = refl
covered_plain r (archived router put kept) = refl
covered_plain r (watched router sig answer) = refl
covered_plain r (ticked time left) = refl
covered_plain r (queried query left) = refl
covered_plain r (ended left) = refl

covers_plain : (r : ℕ) (history : History) → covers r (plain history) ≡ covers r history
covers_plain r [] = refl
covers_plain r (moment ∷ history) = ap (λ (l : List ℕ). l ++ covers r (plain history)) (covered_plain r moment.event) ∙ ap (λ (l : List ℕ). covered_by r moment.event ++ l) (covers_plain r history)

left_plain : (r : ℕ) (d : Event) → left_by r (plain_event d) ≡ []
left_plain r (recorded hop page) = refl
left_plain r (rotated router page) = refl
left_plain r (archived router put kept) = refl
left_plain r (watched router sig answer) = refl
left_plain r (ticked time left) = refl
left_plain r (queried query left) = refl
left_plain r (ended left) = refl

lefts_plain : (r : ℕ) (history : History) → lefts r (plain history) ≡ []
lefts_plain r [] = refl
lefts_plain r (moment ∷ history) = ap (λ (l : List ℕ). l ++ lefts r (plain history)) (left_plain r moment.event) ∙ lefts_plain r history

closed_plain_by : (rules : RouterRules) (r : ℕ) (d : Event) (history : History) → closed_at_archive rules r (plain history) ≡ closed_at_archive rules r history
    → closed_by rules r (plain_event d) (plain history) (closed_at_archive rules r (plain history)) ≡ closed_by rules r d history (closed_at_archive rules r history)
closed_plain_by rules r (recorded hop page) history e = e
closed_plain_by rules r (rotated router page) history e = e
closed_plain_by rules r (archived router put kept) history e =
    ap (λ (a : Account). cond (router == r) (Some a.closings) (closed_at_archive rules r (plain history))) (account_plain rules r history)
    ∙ ap (λ (o : Option (List ℕ)). cond (router == r) (Some (account rules r history).closings) o) e
closed_plain_by rules r (watched router sig answer) history e = e
closed_plain_by rules r (ticked time left) history e = refl
closed_plain_by rules r (queried query left) history e = refl
closed_plain_by rules r (ended left) history e = refl

closed_plain : (rules : RouterRules) (r : ℕ) (history : History) → closed_at_archive rules r (plain history) ≡ closed_at_archive rules r history
closed_plain rules r [] = refl
closed_plain rules r (moment ∷ history) = closed_plain_by rules r moment.event history (closed_plain rules r history)

-- a ledger without the pages that were left, which no answer goes by
abbrev pub unleft : Ledger → Ledger
unleft l = record {
  account = l.account;
  closings_then = l.closings_then;
  clock_then = l.clock_then;
  put_before = l.put_before;
  covered_before = l.covered_before;
  left_before = [];
  closed_at_archive = l.closed_at_archive;
}

abbrev ledger_from : Account → List ℕ → ℕ → List ℕ → List ℕ → List ℕ → Option (List ℕ) → Ledger
ledger_from a closings now put covered left closed = record {
  account = a;
  closings_then = closings;
  clock_then = now;
  put_before = put;
  covered_before = covered;
  left_before = left;
  closed_at_archive = closed;
}

from_same : (a b : Account) (c d : List ℕ) (m n : ℕ) (p q e f l : List ℕ) (o u : Option (List ℕ)) → a ≡ b → c ≡ d → m ≡ n → p ≡ q → e ≡ f → l ≡ [] → o ≡ u
    → ledger_from a c m p e l o ≡ ledger_from b d n q f [] u
from_same a b c d m n p q e f l o u ha hc hm hp he hl ho = rw (ha, hc, hm, hp, he, hl, ho) refl

pub ledger_plain : (rules : RouterRules) (r : ℕ) (history : History) → ledger rules r (plain history) ≡ unleft (ledger rules r history)
ledger_plain rules r history =
    let up = up_plain history in
    let h = up_to_barrier history in
    from_same (account rules r (plain history)) (account rules r history) (account rules r (up_to_barrier (plain history))).closings (account rules r h).closings
    (clock (up_to_barrier (plain history))) (clock h) (puts r (up_to_barrier (plain history))) (puts r h) (covers r (up_to_barrier (plain history))) (covers r h) (lefts r (up_to_barrier (plain history)))
    (closed_at_archive rules r (plain history)) (closed_at_archive rules r history)
    (account_plain rules r history)
    (ap (λ (x : History). (account rules r x).closings) up ∙ ap (λ (a : Account). a.closings) (account_plain rules r h))
    (ap clock up ∙ clock_plain h)
    (ap (puts r) up ∙ puts_plain r h)
    (ap (covers r) up ∙ covers_plain r h)
    (ap (lefts r) up ∙ lefts_plain r h)
    (closed_plain rules r history)
