-- One line more of a segment.
use Rattle.std.proofs.Common.{ℕ, ◌+◌, ◌≡◌, ◌≢◌, ◌≤◌, ◌<◌, ◌^◌, ◌∷◌, [], ◌++◌, ◌∙◌, ⊎_elim, false, List, length, get_or, set, sym, ap, refl, subst, arith, length-set, append-nil}
use Rattle.std.specs.List.{Contains, flat_map}
use Rattle.spie_base.specs.declared.Entry.{Entry}
use Rattle.std.specs.Prelude.{is_some, Option, None, Some}
use Rattle.std.proofs.lemmas.Bool.{false≢true}
use Rattle.std.proofs.lemmas.Grind.{get_or-set_at}
use Rattle.std.proofs.lemmas.List.{get_or-set_other}
use Rattle.trace_format.specs.declared.Line.{Line}
use Rattle.trace_format.specs.declared.Trace.{Trace}
use Rattle.trace_format.specs.Sound.{is_archived}
use Rattle.router_account.specs.Ledger.{Ledger, PutBits, Unfinished, nothing_unfinished}
use Rattle.router_account.specs.Shelves.{ShelfView}
use Rattle.data_agent.specs.Calls.{IsLate, HasRoom}
use Rattle.trace_history.specs.History.{Event, History, account, clock}
use Rattle.trace_history.specs.Ledgers.{ledger}
use Rattle.trace_history.specs.Outcomes.{IsAllowedEvent}
use Rattle.trace_history.specs.Receipts.{is_barrier, receipt_by, IsInTurn, up_to_barrier}
use Rattle.trace_history.specs.Workers.{entry_by, worked, gathered}
use Rattle.trace_history.specs.Routers.{count, rules_of}
use Rattle.trace_history.specs.Watched.{IsSequentialWatch}
use Rattle.trace_history.proofs.Sequential.{account_router}
use Rattle.trace_replay.specs.declared.state.State.{State}
use Rattle.trace_replay.specs.Agents.{Standing, IsHeld}
use Rattle.trace_replay.specs.Segments.{Splits, with_split, filled, archived_in, archived_by, IsFirst, answer_of, number_at}
use Rattle.trace_replay.specs.Standing.{Way, Stands, Fits, IsKeptOn, Adds, AreSplits, AreGathered}
use Rattle.trace_replay.proofs.Answered.{alone_of, of_alone}
use Rattle.trace_replay.proofs.Gathering.{gathered_more}
use Rattle.trace_replay.proofs.Closed.{grows_by}
use Rattle.trace_replay.proofs.Reported.{clock_kept, reported_more}
use Rattle.trace_replay.proofs.Touched.{covered_more}
use Rattle.trace_replay.proofs.Sums.{same_or}
use Rattle.trace_replay.proofs.Filled.{moment_of, clock_filled, up_filled, forward_filled, late_history, few_history, length_filled}

pub none_of : {X : Type 0} (o : Option X) → is_some o ≡ false → o ≡ None
none_of None e = refl
none_of (Some x) e = absurd (false≢true (sym e))

module _ {A : Type 0} (way : Way A) (stands : Standing A) (t : Trace) (start : ShelfView) (history seg : History) (agents : List A) (s s' : State) (was now : ShelfView)
    (old : Stands way stands t start history seg agents s was) where
  abbrev F : Splits → History
  F f = filled f seg history

  abbrev G : ℕ → Event → Splits → History
  G line event f = filled f (moment_of line event ∷ seg) history

  pub within : (r : ℕ) → r < count t → r < length agents
  within r l = subst (λ (n : ℕ). r < n) (sym old.count_is) l

  pub stands_at : (f : Splits) (r : ℕ) (d : A) → r < count t → stands (get_or agents r d) (rules_of t r) (ledger (rules_of t) r (F f)) (old.us r)
  stands_at f r d l = (old.agents_stand f).each r d (within r l)

  pub clock_at : (f : Splits) → s.clock ≡ clock (F f)
  clock_at f = old.clock_is ∙ sym (clock_filled f seg history old.ordered.inner)

  pub late_at : (f : Splits) (r : ℕ) → IsLate (ledger (rules_of t) r (F f)) s.clock
  late_at f r =
      let P : ℕ → Type 0 = λ c. (time : ℕ) → Contains (account (rules_of t) r (F f)).closings time → time ≤ c in
      let e : clock (up_to_barrier (F f)) ≡ s.clock = ap clock (up_filled f seg history old.ordered.inner old.ordered.barred) ∙ sym old.clock_is in
      record {
        then = omega (arith, e);
        closings = subst P (sym (clock_at f)) (late_history (rules_of t) r (F f) (forward_filled f seg history old.ordered.inner old.ordered.forward));
        fits = old.clock_fits;
      }

  -- a later time is late too
  pub late_by : (f : Splits) (r time : ℕ) → s.clock ≤ time → time < 2 ^ 48 → IsLate (ledger (rules_of t) r (F f)) time
  late_by f r time up fits =
      let late = late_at f r in
      record {
        then = let a = late.then in omega (arith, a, up);
        closings = λ x c. let a = late.closings x c in omega (arith, a, up);
        fits = fits;
      }

  pub room_at : (f : Splits) (r : ℕ) (line : Line) → Fits t history seg s line → HasRoom (ledger (rules_of t) r (F f))
  room_at f r line fits =
      let a = few_history (rules_of t) r (F f) in let b = length_filled f seg history in let c = fits.few in omega (arith, a, b, c)

  module _ (line : ℕ) (event : Event) (r0 : ℕ) (new : A) (us : ℕ → Unfinished) (in_trace : r0 < count t)
      (own : (f : Splits) → stands new (rules_of t r0) (ledger (rules_of t) r0 (G line event f)) (us r0))
      (others : (f : Splits) (r : ℕ) → r ≢ r0 → ledger (rules_of t) r (G line event f) ≡ ledger (rules_of t) r (F f))
      (spared : (r : ℕ) → r ≢ r0 → us r ≡ old.us r)
      (none : (r : ℕ) → is_archived (archived_by event (archived_in seg)) r ≡ false → us r ≡ nothing_unfinished)
      (own_closed : (f : Splits) (x : PutBits) → Contains (us r0).bits_put x → x.page < length (account (rules_of t) r0 (G line event f)).closings)
      (alone : way.workers ≡ 1) (d0 : A) (own_entry : way.entries new ≡ way.entries (get_or agents r0 d0) ++ flat_map (entry_by r0) (receipt_by event))
      (no_entry : (r : ℕ) → r ≢ r0 → flat_map (entry_by r) (receipt_by event) ≡ []) where
    each_stands : (f : Splits) (r : ℕ) (d : A) → r < length (set agents r0 new) → stands (get_or (set agents r0 new) r d) (rules_of t r) (ledger (rules_of t) r (G line event f)) (us r)
    each_stands f r d l =
        let l' : r < length agents = subst (λ (n : ℕ). r < n) (length-set agents r0 new) l in
        let Q : A → Type 0 = λ a. stands a (rules_of t r) (ledger (rules_of t) r (G line event f)) (us r) in
        ⊎_elim
        (λ (e : r ≡ r0).
        let P : ℕ → Type 0 = λ q. stands new (rules_of t q) (ledger (rules_of t) q (G line event f)) (us q) in
        subst Q (sym (get_or-set_at agents r0 r new d e (within r0 in_trace))) (subst P (sym e) (own f)))
        (λ (ne : r ≢ r0).
        let P : Ledger → Type 0 = λ l. stands (get_or agents r d) (rules_of t r) l (old.us r) in
        let R : Unfinished → Type 0 = λ u. stands (get_or agents r d) (rules_of t r) (ledger (rules_of t) r (G line event f)) u in
        subst Q (sym (get_or-set_other agents r0 r new d ne)) (subst R (sym (spared r ne)) (subst P (sym (others f r ne)) ((old.agents_stand f).each r d l'))))
        (same_or r r0)

    -- the agent of the line's router has its entry, and the others have none more
    each_gathered : AreGathered way t history (moment_of line event ∷ seg) (set agents r0 new)
    each_gathered r d l =
        let g : ℕ → List Entry = λ q. gathered way.workers q history in
        let Q : A → Type 0 = λ a. way.entries a ≡ g r ++ worked way.workers r (moment_of line event ∷ seg) in
        ⊎_elim
        (λ (e : r ≡ r0).
        let P : ℕ → Type 0 = λ q. way.entries new ≡ g q ++ worked way.workers q (moment_of line event ∷ seg) in
        subst Q (sym (get_or-set_at agents r0 r new d e (within r0 in_trace)))
        (subst P (sym e) (gathered_more way.workers r0 line event seg (g r0) (way.entries (get_or agents r0 d0)) (way.entries new) alone (old.gathered_are r0 d0 in_trace) own_entry)))
        (λ (ne : r ≢ r0).
        subst Q (sym (get_or-set_other agents r0 r new d ne))
        (gathered_more way.workers r line event seg (g r) (way.entries (get_or agents r d)) (way.entries (get_or agents r d)) alone (old.gathered_are r d l)
        (sym (append-nil (way.entries (get_or agents r d))) ∙ ap (λ (es : List Entry). way.entries (get_or agents r d) ++ es) (sym (no_entry r ne)))))
        (same_or r r0)

    pub stands_more : is_barrier event ≡ false → IsFirst (count t) event (archived_in seg) → number_at t.lines (length seg + length history) ≡ line → Adds t line s s' (answer_of event)
        → ((f : Splits) → IsInTurn (rules_of t) (F f) (with_split f event)) → ((f : Splits) → IsSequentialWatch (rules_of t) (F f) (with_split f event))
        → ((f : Splits) → AreSplits t f (G line event f) → AreSplits t f (F f) × IsAllowedEvent (count t) (rules_of t) (F f) (G line event f) (with_split f event))
        → IsKeptOn t history (moment_of line event ∷ seg) us start now
        → Stands way stands t start history (moment_of line event ∷ seg) (set agents r0 new) s' now
    stands_more inner first place adds turn watch allowed kept =
        let C : ℕ → Type 0 = λ c. c < 2 ^ 48 in
        let clock : s'.clock ≡ s.clock = clock_kept t line s s' (answer_of event) adds in
        record {
          count_is = length-set agents r0 new ∙ old.count_is;
          clock_is = clock ∙ old.clock_is;
          clock_fits = subst C (sym clock) old.clock_fits;
          us = us;
          us_none = none;
          us_closed = λ f r x h. ⊎_elim
              (λ (e : r ≡ r0). let P : ℕ → Type 0 = λ q. Contains (us q).bits_put x → x.page < length (account (rules_of t) q (G line event f)).closings in subst P (sym e) (own_closed f x) h)
              (λ (ne : r ≢ r0).
              let P : Unfinished → Type 0 = λ u. Contains u.bits_put x in
              let a = old.us_closed f r x (subst P (spared r ne) h) in let b = grows_by (rules_of t) r line (F f) (with_split f event) in omega (arith, a, b))
              (same_or r r0);
          agents_stand = λ f. record { each = each_stands f; numbered = λ r. account_router (rules_of t) r (G line event f) };
          gathered_are = each_gathered;
          ordered = record { inner = (old.ordered.inner, inner); once = (old.ordered.once, first); barred = old.ordered.barred; forward = old.ordered.forward };
          right = record {
            lines =
                let had = alone_of way.workers t history seg alone old.right.lines in
                of_alone way.workers t history (moment_of line event ∷ seg) alone (record { sequential = λ f. (had.sequential f, turn f); watched = λ f. (had.watched f, watch f) });
            allowed_before = old.right.allowed_before;
            allowed = λ f hyp. let x = allowed f hyp in (old.right.allowed f x.0, x.1);
            same_digests = old.right.same_digests;
            read = old.right.read;
          };
          reported = reported_more t history seg s old.reported s' line event place adds;
          shelf = kept;
        }

  -- where the shelf stays as it was, and so does what it holds of the router
  pub kept_with : (line : ℕ) (event : Event) (r0 : ℕ)
      → ((f : Splits) (r : ℕ) → r ≢ r0 → ledger (rules_of t) r (G line event f) ≡ ledger (rules_of t) r (F f))
      → ((f : Splits) → AreSplits t f (G line event f) → AreSplits t f (F f))
      → ((f : Splits) → IsHeld (rules_of t r0) was.contents (ledger (rules_of t) r0 (F f)) (old.us r0) → IsHeld (rules_of t r0) was.contents (ledger (rules_of t) r0 (G line event f)) (old.us r0))
      → IsKeptOn t history (moment_of line event ∷ seg) old.us start was
  kept_with line event r0 others splits own = record {
    later = old.shelf.later;
    still = old.shelf.still;
    paid = old.shelf.paid;
    during = old.shelf.during;
    all_true = old.shelf.all_true;
    only_faults = old.shelf.only_faults;
    holds = λ tells f r l. ⊎_elim
        (λ (e : r ≡ r0).
        let P : ℕ → Type 0 = λ q. IsHeld (rules_of t q) was.contents (ledger (rules_of t) q (G line event f)) (old.us q) in
        let Q : ℕ → Type 0 = λ q. IsHeld (rules_of t q) was.contents (ledger (rules_of t) q (F f)) (old.us q) in
        subst P (sym e) (own f (subst Q e (old.shelf.holds tells f r l))))
        (λ (ne : r ≢ r0). let P : Ledger → Type 0 = λ x. IsHeld (rules_of t r) was.contents x (old.us r) in subst P (sym (others f r ne)) (old.shelf.holds tells f r l))
        (same_or r r0);
    untouched = λ tells f hyp name apart. old.shelf.untouched tells f (splits f hyp) name (λ is. apart (covered_more (count t) line (with_split f event) (F f) name is));
  }
