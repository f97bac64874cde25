-- One line of the operator more.
use Rattle.std.proofs.Common.{ℕ, ◌+◌, ◌≡◌, ◌≢◌, ◌≤◌, ◌<◌, ◌∷◌, [], ◌++◌, ◌∙◌, ⊎_elim, inl, inr, Bool, true, false, cond, ◌==◌, List, length, get_or, set, sym, ap, refl, subst, arith, length-set}
use Rattle.std.specs.List.{Contains}
use Rattle.std.specs.Prelude.{is_some, Option, None, Some, slice_get}
use Rattle.std.proofs.lemmas.Bool.{eq-eqb, eqb-true, false_from_ne_true, false≢true}
use Rattle.std.proofs.lemmas.Grind.{get_or-set_at}
use Rattle.std.proofs.lemmas.List.{get_or-set_other}
use Rattle.std.proofs.lemmas.List.Elements.{Contains-append_cases}
use Rattle.spie_base.proofs.Booleans.{none_held}
use Rattle.spie_base.proofs.Membership.{has_none}
use Rattle.spie_base.specs.Causes.{RoseBy}
use Rattle.spie_base.specs.declared.RouterId.{RouterId}
use Rattle.spie_base.specs.declared.Rules.{Rules}
use Rattle.spie_base.specs.declared.Sig.{Sig}
use Rattle.page_catalogue.specs.Pages.{open_page}
use Rattle.page_shelf.specs.Shelves.{Contents}
use Rattle.page_shelf.specs.declared.ShelfPart.TheVariants.{Bits}
use Rattle.trace_format.specs.declared.Line.{Line}
use Rattle.trace_format.specs.declared.Trace.{Trace}
use Rattle.trace_format.specs.declared.What.{What}
use Rattle.trace_format.specs.declared.What.TheVariants as what
use Rattle.trace_format.specs.Sound.{FitsOnce, IsWithin, is_archived}
use Rattle.router_account.specs.declared.Watch.{Watch}
use Rattle.router_account.specs.declared.Watch.TheVariants.{Seen, NotSeen, Unknown}
use Rattle.router_account.specs.Barriers.{IsSplit, archive_view}
use Rattle.router_account.specs.Ledger.{Ledger, PutBits, Unfinished, no_split, nothing_unfinished, turned_at, at_archive}
use Rattle.router_account.specs.Records.{KeepsOthers, name_of}
use Rattle.router_account.specs.Shelves.{ShelfView}
use Rattle.router_account.specs.Watches.{shows}
use Rattle.data_agent.specs.Calls.{IsLate, HasRoom, IsNotedBeside, with_more}
use Rattle.trace_history.specs.History.{Event, recorded, rotated, archived, watched, ticked, queried, ended, History, IsEventOf, account, clock}
use Rattle.trace_history.specs.Ledgers.{ledger, puts, closed_at_archive}
use Rattle.trace_history.specs.Outcomes.{IsAllowedEvent, fault_marks}
use Rattle.trace_history.specs.Receipts.{is_barrier, IsInTurn, up_to_barrier}
use Rattle.trace_history.specs.Routers.{RouterRules, count, rules_of, sum_over}
use Rattle.trace_history.proofs.Sequential.{account_router}
use Rattle.trace_replay.specs.declared.state.Answer.{Answer}
use Rattle.trace_replay.specs.declared.state.Answer.TheVariants.{Opened, Archived, Watched}
use Rattle.trace_replay.specs.Operated.{is_record, IsAnsweredBy, IsWatchedBy, AreWatchedBy}
use Rattle.trace_replay.specs.Operating.{Besides, Reads, KeepsReads, reads_at, HoldsSoFar, IsKeptBeside, Operates, FitsBeside, MayOperate, DoesBeside}
use Rattle.trace_replay.specs.Segments.{Splits, with_split, filled, archived_in, archived_by, IsFirst, answer_of}
use Rattle.trace_replay.specs.Standing.{AreSplits}
use Rattle.trace_replay.proofs.Closed.{grows_by, puts_closed}
use Rattle.trace_replay.proofs.Filled.{moment_of, clock_filled, up_filled, forward_filled, late_history, few_history, length_filled, rotated_own, rotated_other, archived_own, archived_other, puts_filled, archive_is}
use Rattle.trace_replay.proofs.During.{during_later}
use Rattle.trace_replay.proofs.Held.{ArePutClosed, text_turned, bits_turned}
use Rattle.trace_replay.proofs.Passing.{holds_still}
use Rattle.trace_replay.proofs.Touched.{archived_covers, covered_more, untouched_then}
use Rattle.trace_replay.proofs.Sums.{rose_add, rose_less, same_or, sum_update}

none_some : {X : Type 0} (x : X) → None ≡ Some x → ⊥
none_some x e = cc

pub none_of : {X : Type 0} (o : Option X) → is_some o ≡ false → o ≡ None
none_of None e = refl
none_of (Some x) e = absurd (false≢true (sym e))

-- ---- what a shelf holds so far

held_turned : (rules : Rules) (c : Contents) (l : Ledger) (u : Unfinished) (time : ℕ) → ArePutClosed l u → HoldsSoFar rules c l u → HoldsSoFar rules c (turned_at l time) u
held_turned rules c l u time all held = record {
  records = record {
    put = λ page part put live. held.records.put page part put live ∙ text_turned rules l time page part (all.each page put);
    gone = held.records.gone;
  };
  bits = λ x h. held.bits x h ∙ bits_turned rules l time x.page x.bits (all.bits x h);
}

still_held : (rules : Rules) (before after : Contents) (q : ℕ) (l : Ledger) (u : Unfinished) → KeepsOthers q before after → l.account.router ≢ q → HoldsSoFar rules before l u → HoldsSoFar rules after l u
still_held rules before after q l u others ne held = record {
  records = holds_still rules before after q l others ne held.records;
  bits = λ x in_it. others (name_of l.account.router x.page Bits) ne ∙ held.bits x in_it;
}

-- ---- reads

answered_keeps : (R S : (page : ℕ) → Sig → Type 0) (rules : Rules) (l : Ledger) (time : ℕ) (sig : Sig) (w : Watch) → ((page : ℕ) → R page sig → S page sig)
    → IsAnsweredBy R rules l time sig w → IsAnsweredBy S rules l time sig w
answered_keeps R S rules l time sig Seen keeps (page, there, live, shown) =
    (page, there, live, ⊎_elim (λ (a : shows rules l.account sig page ≡ true). inl a) (λ (b : R page sig). inr (keeps page b)) shown)
answered_keeps R S rules l time sig Unknown keeps h = h
answered_keeps R S rules l time sig NotSeen keeps h = h

module _ (R S : (router page : ℕ) → Sig → Type 0) (rules : RouterRules) (f : Splits) (h : History) (keeps : (r page : ℕ) (sig : Sig) → R r page sig → S r page sig) where
  watch_keeps : (before : History) (e : Event) → IsWatchedBy R rules (clock h) before e → IsWatchedBy S rules (clock h) before e
  watch_keeps before (watched r sig w) t = answered_keeps (R r) (S r) (rules r) (ledger rules r before) (clock h) sig w (λ page. keeps r page sig) t
  watch_keeps before (recorded hop page) t = t
  watch_keeps before (rotated q page) t = t
  watch_keeps before (archived q put kept) t = t
  watch_keeps before (ticked time left) t = t
  watch_keeps before (queried query left) t = t
  watch_keeps before (ended left) t = t

  pub watched_keep : (ops : History) → AreWatchedBy R rules f h ops → AreWatchedBy S rules f h ops
  watched_keep [] t = t
  watched_keep (moment ∷ ops) t = (watched_keep ops t.0, watch_keeps (filled f ops h) moment.event t.1)

-- ---- one line more

module _ {A V : Type 0} (besides : Besides A V) (reads : Reads A) (t : Trace) (start : ShelfView) (history : History) (aways : ℕ → V) (ops : History)
    (agents : List A) (time : ℕ) (answers more : List Answer) (was now : ShelfView) (old : Operates besides reads t start history aways ops agents time answers was) where
  abbrev F : Splits → History
  F f = filled f ops history

  abbrev G : ℕ → Event → Splits → History
  G line event f = filled f (moment_of line event ∷ ops) history

  pub in_agents : (r : ℕ) → r < count t → r < length agents
  in_agents r l = subst (λ (n : ℕ). r < n) (sym old.count_is) l

  pub time_at : (f : Splits) → time ≡ clock (F f)
  time_at f = old.time_is ∙ sym (clock_filled f ops history old.ordered.inner)

  pub late_at : (f : Splits) (r : ℕ) → IsLate (ledger (rules_of t) r (F f)) time
  late_at f r =
      let P : ℕ → Type 0 = λ c. (x : ℕ) → Contains (account (rules_of t) r (F f)).closings x → x ≤ c in
      let e : clock (up_to_barrier (F f)) ≡ time = ap clock (up_filled f ops history old.ordered.inner old.ordered.barred) ∙ sym old.time_is in
      record {
        then = omega (arith, e);
        closings = subst P (sym (time_at f)) (late_history (rules_of t) r (F f) (forward_filled f ops history old.ordered.inner old.ordered.forward));
        fits = old.time_fits;
      }

  pub room_at : (f : Splits) (r : ℕ) (line : Line) → FitsBeside t history ops line → HasRoom (ledger (rules_of t) r (F f))
  room_at f r line fits =
      let a = few_history (rules_of t) r (F f) in let b = length_filled f ops history in let c = fits.few in omega (arith, a, b, c)

  -- what was read before is read still
  reads_kept : (r0 : ℕ) (d new : A) → r0 < count t → KeepsReads reads (get_or agents r0 d) new → (r page : ℕ) (sig : Sig) → reads_at reads agents r page sig → reads_at reads (set agents r0 new) r page sig
  reads_kept r0 d new l keeps r page sig had =
      let Q : A → Type 0 = λ a. reads a page sig in
      let n = length-set agents r0 new in
      let m = had.0 in (
        omega (arith, n, m),
        (λ e. ⊎_elim
            (λ (s : r ≡ r0). let P : ℕ → Type 0 = λ q. reads (get_or agents q d) page sig in subst Q (sym (get_or-set_at agents r0 r new e s (in_agents r0 l))) (keeps page sig (subst P s (had.1 d))))
            (λ (ne : r ≢ r0). subst Q (sym (get_or-set_other agents r0 r new e ne)) (had.1 e))
            (same_or r r0)),
      )

  module _ (line : ℕ) (event : Event) (r0 : ℕ) (d new : A) (us : ℕ → Unfinished) (in_trace : r0 < count t)
      (own : (f : Splits) → besides new (aways r0) (rules_of t r0) (ledger (rules_of t) r0 (G line event f)) (us r0))
      (others : (f : Splits) (r : ℕ) → r ≢ r0 → ledger (rules_of t) r (G line event f) ≡ ledger (rules_of t) r (F f))
      (spared : (r : ℕ) → r ≢ r0 → us r ≡ old.us r)
      (none : (r : ℕ) → is_archived (archived_by event (archived_in ops)) r ≡ false → us r ≡ nothing_unfinished)
      (own_closed : (f : Splits) (x : PutBits) → Contains (us r0).bits_put x → x.page < length (account (rules_of t) r0 (G line event f)).closings)
      (keeps : KeepsReads reads (get_or agents r0 d) new) where
    each_stands : (f : Splits) (r : ℕ) (e : A) → r < count t → besides (get_or (set agents r0 new) r e) (aways r) (rules_of t r) (ledger (rules_of t) r (G line event f)) (us r)
    each_stands f r e l =
        let Q : A → Type 0 = λ a. besides a (aways r) (rules_of t r) (ledger (rules_of t) r (G line event f)) (us r) in
        ⊎_elim
        (λ (s : r ≡ r0).
        let P : ℕ → Type 0 = λ q. besides new (aways q) (rules_of t q) (ledger (rules_of t) q (G line event f)) (us q) in
        subst Q (sym (get_or-set_at agents r0 r new e s (in_agents r0 in_trace))) (subst P (sym s) (own f)))
        (λ (ne : r ≢ r0).
        let P : Ledger → Type 0 = λ k. besides (get_or agents r e) (aways r) (rules_of t r) k (old.us r) in
        let R : Unfinished → Type 0 = λ u. besides (get_or agents r e) (aways r) (rules_of t r) (ledger (rules_of t) r (G line event f)) u in
        subst Q (sym (get_or-set_other agents r0 r new e ne)) (subst R (sym (spared r ne)) (subst P (sym (others f r ne)) (old.agents_stand f r e l))))
        (same_or r r0)

    pub operates_more : is_barrier event ≡ false → is_record event ≡ false → IsFirst (count t) event (archived_in ops) → more ≡ answers ++ answer_of event ∷ []
        → ((f : Splits) → IsInTurn (rules_of t) (F f) (with_split f event))
        → ((f : Splits) → IsWatchedBy (reads_at reads (set agents r0 new)) (rules_of t) (clock history) (F f) event)
        → ((f : Splits) → AreSplits t f (G line event f) → AreSplits t f (F f) × IsAllowedEvent (count t) (rules_of t) (F f) (G line event f) (with_split f event))
        → IsKeptBeside t history (moment_of line event ∷ ops) us start now
        → Operates besides reads t start history aways (moment_of line event ∷ ops) (set agents r0 new) time more now
    operates_more inner other first adds turn watch allowed kept = record {
      count_is = length-set agents r0 new ∙ old.count_is;
      time_is = old.time_is;
      time_fits = old.time_fits;
      us = us;
      us_none = none;
      us_closed = λ f r x h. ⊎_elim
          (λ (e : r ≡ r0). let P : ℕ → Type 0 = λ q. Contains (us q).bits_put x → x.page < length (account (rules_of t) q (G line event f)).closings in subst P (sym e) (own_closed f x) h)
          (λ (ne : r ≢ r0).
          let P : Unfinished → Type 0 = λ u. Contains u.bits_put x in
          let a = old.us_closed f r x (subst P (spared r ne) h) in let b = grows_by (rules_of t) r line (F f) (with_split f event) in omega (arith, a, b))
          (same_or r r0);
      agents_stand = each_stands;
      ordered = record { inner = (old.ordered.inner, inner); once = (old.ordered.once, first); barred = old.ordered.barred; forward = old.ordered.forward };
      operations_only = (old.operations_only, other);
      turns = λ f. (old.turns f, turn f);
      watched = λ f. (watched_keep (reads_at reads agents) (reads_at reads (set agents r0 new)) (rules_of t) f history (reads_kept r0 d new in_trace keeps) ops (old.watched f), watch f);
      allowed_before = old.allowed_before;
      allowed = λ f hyp. let x = allowed f hyp in (old.allowed f x.0, x.1);
      answers_are = adds ∙ ap (λ (xs : List Answer). xs ++ answer_of event ∷ []) old.answers_are;
      shelf = kept;
    }

  -- where the shelf stays as it was, and so does what it holds of the router
  pub kept_with : (line : ℕ) (event : Event) (r0 : ℕ)
      → ((f : Splits) (r : ℕ) → r ≢ r0 → ledger (rules_of t) r (G line event f) ≡ ledger (rules_of t) r (F f))
      → ((f : Splits) → AreSplits t f (G line event f) → AreSplits t f (F f))
      → ((f : Splits) → HoldsSoFar (rules_of t r0) was.contents (ledger (rules_of t) r0 (F f)) (old.us r0) → HoldsSoFar (rules_of t r0) was.contents (ledger (rules_of t) r0 (G line event f)) (old.us r0))
      → IsKeptBeside t history (moment_of line event ∷ ops) old.us start was
  kept_with line event r0 others splits own = record {
    later = old.shelf.later;
    still = old.shelf.still;
    paid = old.shelf.paid;
    during = old.shelf.during;
    holds = λ tells f r l. ⊎_elim
        (λ (e : r ≡ r0).
        let P : ℕ → Type 0 = λ q. HoldsSoFar (rules_of t q) was.contents (ledger (rules_of t) q (G line event f)) (old.us q) in
        let Q : ℕ → Type 0 = λ q. HoldsSoFar (rules_of t q) was.contents (ledger (rules_of t) q (F f)) (old.us q) in
        subst P (sym e) (own f (subst Q e (old.shelf.holds tells f r l))))
        (λ (ne : r ≢ r0). let P : Ledger → Type 0 = λ x. HoldsSoFar (rules_of t r) was.contents x (old.us r) in subst P (sym (others f r ne)) (old.shelf.holds tells f r l))
        (same_or r r0);
    untouched = λ tells f hyp name apart. old.shelf.untouched tells f (splits f hyp) name (λ is. apart (covered_more (count t) line (with_split f event) (F f) name is));
  }

-- ---- each kind of line

module _ {A V : Type 0} (besides : Besides A V) (reads : Reads A) (t : Trace) (line : Line) (agents : List A) (d new : A) (time : ℕ) (answers more : List Answer) (was now : ShelfView) where
  pub rotates : (router : RouterId) (page : ℕ) → line.what ≡ what.Rotate router
      → ((rules : Rules) (l : Ledger) (u : Unfinished) (away : V) → besides (get_or agents router.number d) away rules l u → page ≡ open_page l.account.closings + 1)
      → ((rules : Rules) (l : Ledger) (u : Unfinished) (away : V) → besides (get_or agents router.number d) away rules l u → besides new away rules (turned_at l time) u)
      → KeepsReads reads (get_or agents router.number d) new
      → more ≡ answers ++ Opened (record { number = page }) ∷ []
      → DoesBeside besides reads t line agents (set agents router.number new) time answers more was was
  rotates router page is opened call keeps adds start history aways ops old fits =
      let event = rotated router.number page in
      let r0 = router.number in
      let V : What → Type 0 = λ w. IsWithin (count t) (length t.sigs) w in
      let l0 : r0 < count t = subst V is fits.within in
      let W : What → Type 0 = λ w. IsEventOf t.sigs w event in
      let F = λ (f : Splits). filled f ops history in
      let L = λ (f : Splits). ledger (rules_of t) r0 (F f) in
      let had = λ (f : Splits). old.agents_stand f r0 d l0 in
      let is_now : (f : Splits) → ledger (rules_of t) r0 (moment_of line.number event ∷ F f) ≡ turned_at (L f) time = λ f.
      rotated_own (rules_of t) r0 line.number r0 page (F f) refl ∙ ap (λ (c : ℕ). turned_at (L f) c) (sym (time_at besides reads t start history aways ops agents time answers more was was old f)) in
      let others = λ (f : Splits) (r : ℕ) (ne : r ≢ r0). rotated_other (rules_of t) r line.number r0 page (F f) (λ e. ne (sym e)) in (
        event,
        subst W (sym is) refl,
        operates_more besides reads t start history aways ops agents time answers more was was old line.number event r0 d new old.us l0
            (λ f. let P : Ledger → Type 0 = λ k. besides new (aways r0) (rules_of t r0) k (old.us r0) in subst P (sym (is_now f)) (call (rules_of t r0) (L f) (old.us r0) (aways r0) (had f)))
            others (λ r ne. refl) old.us_none (λ f x h. let a = old.us_closed f r0 x h in let b = grows_by (rules_of t) r0 line.number (F f) event in omega (arith, a, b)) keeps refl refl tt adds
            (λ f. opened (rules_of t r0) (L f) (old.us r0) (aways r0) (had f)) (λ f. tt) (λ f hyp. (hyp, tt))
            (kept_with besides reads t start history aways ops agents time answers more was was old line.number event r0 others (λ f hyp. hyp)
            (λ f h. let P : Ledger → Type 0 = λ k. HoldsSoFar (rules_of t r0) was.contents k (old.us r0) in
            subst P (sym (is_now f)) (held_turned (rules_of t r0) was.contents (L f) (old.us r0) time (puts_closed (count t) (rules_of t) r0 f ops history (old.us r0) old.ordered.inner old.ordered.barred old.allowed_before (old.us_closed f r0)) h))),
      )

  pub watches : (router : RouterId) (packet : ℕ) (sig : Sig) (answer : Watch) → line.what ≡ what.Watch router packet → slice_get t.sigs packet ≡ Some sig
      → ((rules : Rules) (l : Ledger) (u : Unfinished) (away : V) → besides (get_or agents router.number d) away rules l u → IsAnsweredBy (reads new) rules l time sig answer)
      → ((rules : Rules) (l : Ledger) (u : Unfinished) (away : V) → besides (get_or agents router.number d) away rules l u → besides new away rules l u)
      → KeepsReads reads (get_or agents router.number d) new
      → more ≡ answers ++ Watched answer ∷ []
      → DoesBeside besides reads t line agents (set agents router.number new) time answers more was was
  watches router packet sig answer is known call same keeps adds start history aways ops old fits =
      let event = watched router.number sig answer in
      let r0 = router.number in
      let V : What → Type 0 = λ w. IsWithin (count t) (length t.sigs) w in
      let l0 : r0 < count t = (subst V is fits.within).0 in
      let W : What → Type 0 = λ w. IsEventOf t.sigs w event in
      let F = λ (f : Splits). filled f ops history in
      let L = λ (f : Splits). ledger (rules_of t) r0 (F f) in
      let had = λ (f : Splits). old.agents_stand f r0 d l0 in
      let in_list = in_agents besides reads t start history aways ops agents time answers more was was old r0 l0 in (
        event,
        subst W (sym is) (refl, known),
        operates_more besides reads t start history aways ops agents time answers more was was old line.number event r0 d new old.us l0
            (λ f. same (rules_of t r0) (L f) (old.us r0) (aways r0) (had f))
            (λ f r ne. refl) (λ r ne. refl) old.us_none (λ f x h. old.us_closed f r0 x h) keeps refl refl tt adds (λ f. tt)
            (λ f.
            let C : ℕ → Type 0 = λ c. IsAnsweredBy (reads_at reads (set agents r0 new) r0) (rules_of t r0) (L f) c sig answer in
            subst C old.time_is (answered_keeps (reads new) (reads_at reads (set agents r0 new) r0) (rules_of t r0) (L f) time sig answer
            (λ page a. ((let n = length-set agents r0 new in omega (arith, n, in_list)), (λ e. let Q : A → Type 0 = λ x. reads x page sig in subst Q (sym (get_or-set_at agents r0 r0 new e refl in_list)) a)))
            (call (rules_of t r0) (L f) (old.us r0) (aways r0) (had f))))
            (λ f hyp. (hyp, tt))
            (kept_with besides reads t start history aways ops agents time answers more was was old line.number event r0 (λ f r ne. refl) (λ f hyp. hyp) (λ f h. h)),
      )

  -- an archival's bits records are put with the bits that are known; whether they are the pages' is seen once passes are back
  pub archives : (router : RouterId) → line.what ≡ what.Archive router
      → was.faults ≤ now.faults → now.tells ≡ was.tells
      → (u_more : Unfinished) → ((away : V) → IsNotedBeside (besides (get_or agents router.number d) away) (besides new away) u_more was.tells was.contents now.contents) → RoseBy u_more.refused was.faults now.faults
      → KeepsReads reads (get_or agents router.number d) new
      → more ≡ answers ++ Archived router ∷ []
      → DoesBeside besides reads t line agents (set agents router.number new) time answers more was now
  archives router is later still u_more calls rose keeps adds start history aways ops old fits =
      let event = archived router.number [] [] in
      let r0 = router.number in
      let call = calls (aways r0) in
      let V : What → Type 0 = λ w. IsWithin (count t) (length t.sigs) w in
      let O : What → Type 0 = λ w. FitsOnce (archived_in ops) w in
      let l0 : r0 < count t = subst V is fits.within in
      let once : is_archived (archived_in ops) r0 ≡ false = subst O is fits.once in
      let W : What → Type 0 = λ w. IsEventOf t.sigs w event in
      let F = λ (f : Splits). filled f ops history in
      let G = λ (f : Splits). filled f (moment_of line.number event ∷ ops) history in
      let R = rules_of t r0 in
      let L = λ (f : Splits). ledger (rules_of t) r0 (F f) in
      let u0 = old.us r0 in
      let u1 = with_more u0 u_more in
      let had = λ (f : Splits). old.agents_stand f r0 d l0 in
      let us : ℕ → Unfinished = λ r. cond (r == r0) u1 (old.us r) in
      let us_own : us r0 ≡ u1 = ap (λ b. cond b u1 u0) (eq-eqb r0 r0 refl) in
      let us_other : (r : ℕ) → r ≢ r0 → us r ≡ old.us r = λ r ne. ap (λ b. cond b u1 (old.us r)) (false_from_ne_true _ (λ b. ne (eqb-true r r0 b))) in
      let none_before : u0 ≡ nothing_unfinished = old.us_none r0 once in
      let no_bits : (x : PutBits) → Contains u0.bits_put x → ⊥ = λ x h. (let P : Unfinished → Type 0 = λ u. Contains u.bits_put x in has_none x (subst P none_before h)) in
      let is_now = λ (f : Splits). archived_own (rules_of t) r0 line.number r0 (f r0).put (f r0).kept (F f) refl in
      let others = λ (f : Splits) (r : ℕ) (ne : r ≢ r0). archived_other (rules_of t) r line.number r0 (f r0).put (f r0).kept (F f) (λ e. ne (sym e)) in
      let first = λ (f : Splits). none_of (closed_at_archive (rules_of t) r0 (F f)) (archive_is (rules_of t) r0 f ops history old.ordered.inner old.ordered.barred ∙ once) in
      let puts_here : (f : Splits) → puts r0 (up_to_barrier (F f)) ≡ puts r0 (F f) = λ f.
      ap (λ (h : History). puts r0 h) (up_filled f ops history old.ordered.inner old.ordered.barred)
      ∙ sym (puts_filled (count t) r0 f ops history old.ordered.inner old.ordered.once ∙ ap (λ (b : Bool). cond b (f r0).put [] ++ puts r0 history) once) in
      let splits_before : (f : Splits) → AreSplits t f (G f) → AreSplits t f (F f) = λ f hyp r closings l came.
      ⊎_elim
      (λ (e : r ≡ r0).
      let P : ℕ → Type 0 = λ q. closed_at_archive (rules_of t) q (F f) ≡ Some closings in
      absurd (none_some closings (sym (first f) ∙ subst P e came)))
      (λ (ne : r ≢ r0).
      let P : Ledger → Type 0 = λ x. IsSplit (rules_of t r) (archive_view x closings) (f r) in
      subst P (others f r ne) (hyp r closings l (ap (λ (x : Ledger). x.closed_at_archive) (others f r ne) ∙ came)))
      (same_or r r0) in
      let split_now : (f : Splits) → AreSplits t f (G f) → IsSplit R (archive_view (L f) (L f).account.closings) (f r0) = λ f hyp.
      (let P : Ledger → Type 0 = λ x. IsSplit R (archive_view x (L f).account.closings) (f r0) in
      subst P (is_now f) (hyp r0 (L f).account.closings l0 (ap (λ (x : Ledger). x.closed_at_archive) (is_now f)))) in
      let kept_here : start.tells ≡ true → (f : Splits) → HoldsSoFar R now.contents (at_archive (L f)) u1 = λ tells f.
      (let was_held = old.shelf.holds tells f r0 l0 in
      let told = old.shelf.still ∙ tells in
      let records = call.holds R (L f) u0 (had f) told was_held.records in
      let more_bits = call.holds_bits R (L f) u0 (had f) told was_held.records in
      record {
        records = record { put = records.put; gone = records.gone };
        bits = λ x h. ⊎_elim (λ (a : Contains u0.bits_put x). absurd (no_bits x a)) (λ (b : Contains u_more.bits_put x). more_bits x b) (Contains-append_cases u0.bits_put u_more.bits_put x h);
      }) in (
        event,
        subst W (sym is) refl,
        operates_more besides reads t start history aways ops agents time answers more was now old line.number event r0 d new us l0
            (λ f.
            let P : Ledger → Type 0 = λ l. besides new (aways r0) R l (us r0) in
            let Q : Unfinished → Type 0 = λ u. besides new (aways r0) R (at_archive (L f)) u in
            subst P (sym (is_now f)) (subst Q (sym us_own) (call.noted R (L f) u0 (had f))))
            others us_other
            (λ r e. let both = none_held (r0 == r) (is_archived (archived_in ops) r) e in
            let ne : r ≢ r0 = λ same. false≢true (sym both.0 ∙ eq-eqb r0 r (sym same)) in us_other r ne ∙ old.us_none r both.1)
            (λ f x h.
            let P : Unfinished → Type 0 = λ u. Contains u.bits_put x in
            ⊎_elim (λ (a : Contains u0.bits_put x). absurd (no_bits x a)) (λ (b : Contains u_more.bits_put x). call.closed R (L f) u0 (had f) x b) (Contains-append_cases u0.bits_put u_more.bits_put x (subst P us_own h)))
            keeps refl refl (once, l0) adds (λ f. tt) (λ f. tt)
            (λ f hyp. (
              splits_before f hyp,
              (let U : List ℕ → Type 0 = λ xs. IsSplit R (record (archive_view (L f) (L f).account.closings) { put_before = xs }) (f r0) in subst U (puts_here f) (split_now f hyp)),
            ))
            (record {
              later = let a = old.shelf.later in omega (arith, a, later);
              still = still ∙ old.shelf.still;
              paid =
                  let n = count t in
                  let had_refused = sum_over n (λ r. (old.us r).refused) in
                  let sum : sum_over n (λ r. (us r).refused) ≡ had_refused + u_more.refused =
                  sum_update n (λ r. (old.us r).refused) (λ r. (us r).refused) r0 u_more.refused l0 (ap (λ (u : Unfinished). u.refused) us_own) (λ r ne. ap (λ (u : Unfinished). u.refused) (us_other r ne)) in
                  rose_less ((fault_marks n history + had_refused) + u_more.refused) (fault_marks n history + sum_over n (λ r. (us r).refused)) start.faults now.faults
                  (rose_add (fault_marks n history + had_refused) u_more.refused start.faults was.faults now.faults old.shelf.paid rose) (omega (arith, sum));
              during = during_later (count t) start was now later history old.shelf.during;
              holds = λ tells f r l. ⊎_elim
                  (λ (e : r ≡ r0).
                  let P : ℕ → Type 0 = λ q. HoldsSoFar (rules_of t q) now.contents (ledger (rules_of t) q (G f)) (us q) in
                  let Q : Ledger → Type 0 = λ x. HoldsSoFar R now.contents x (us r0) in
                  let T : Unfinished → Type 0 = λ u. HoldsSoFar R now.contents (at_archive (L f)) u in
                  subst P (sym e) (subst Q (sym (is_now f)) (subst T (sym us_own) (kept_here tells f))))
                  (λ (ne : r ≢ r0).
                  let Q : Ledger → Type 0 = λ x. HoldsSoFar (rules_of t r) now.contents x (us r) in
                  let T : Unfinished → Type 0 = λ u. HoldsSoFar (rules_of t r) now.contents (ledger (rules_of t) r (F f)) u in
                  subst Q (sym (others f r ne)) (subst T (sym (us_other r ne)) (still_held (rules_of t r) was.contents now.contents (L f).account.router (ledger (rules_of t) r (F f)) (old.us r)
                  (call.others R (L f) u0 (had f) (old.shelf.still ∙ tells))
                  (λ e. ne (sym (account_router (rules_of t) r (F f)) ∙ e ∙ account_router (rules_of t) r0 (F f))) (old.shelf.holds tells f r l))))
                  (same_or r r0);
              untouched = λ tells f hyp. untouched_then (count t) (F f) (G f) start.contents was.contents now.contents
                  (λ name is. covered_more (count t) line.number (archived r0 (f r0).put (f r0).kept) (F f) name is) (old.shelf.untouched tells f (splits_before f hyp))
                  (λ name apart. call.untouched R (L f) u0 (had f) (old.shelf.still ∙ tells) name
                  (λ noted. apart (archived_covers (count t) R (L f) (f r0) r0 line.number (F f) name l0 (account_router (rules_of t) r0 (F f)) (split_now f hyp) noted)));
            }),
      )

-- ---- what the agents' calls need

module _ {A V : Type 0} (besides : Besides A V) (reads : Reads A) (t : Trace) (line : Line) (agents : List A) (d : A) (time : ℕ) (answers : List Answer) (now : ShelfView)
    (ready : MayOperate besides reads t line agents time answers now) where
  abbrev plain : Splits
  plain q = no_split

  abbrev here : ℕ → Ledger
  here r = ledger (rules_of t) r (filled plain ready.3 ready.1)

  stands_there : (r : ℕ) → r < count t → besides (get_or agents r d) (ready.2 r) (rules_of t r) (here r) (ready.4.us r)
  stands_there r l = ready.4.agents_stand plain r d l

  pub may_rotate : (router : RouterId) → line.what ≡ what.Rotate router
      → (rules : Rules) × (l : Ledger) × (u : Unfinished) × (away : V) × besides (get_or agents router.number d) away rules l u × IsLate l time × HasRoom l
  may_rotate router is =
      let r0 = router.number in
      let P : What → Type 0 = λ w. IsWithin (count t) (length t.sigs) w in
      let l0 : r0 < count t = subst P is ready.5.within in (
        rules_of t r0,
        here r0,
        ready.4.us r0,
        ready.2 r0,
        stands_there r0 l0,
        late_at besides reads t ready.0 ready.1 ready.2 ready.3 agents time answers answers now now ready.4 plain r0,
        room_at besides reads t ready.0 ready.1 ready.2 ready.3 agents time answers answers now now ready.4 plain r0 line ready.5,
      )

  pub may_watch : (router : RouterId) (packet : ℕ) → line.what ≡ what.Watch router packet
      → (rules : Rules) × (l : Ledger) × (u : Unfinished) × (away : V) × besides (get_or agents router.number d) away rules l u
  may_watch router packet is =
      let P : What → Type 0 = λ w. IsWithin (count t) (length t.sigs) w in
      (rules_of t router.number, here router.number, ready.4.us router.number, ready.2 router.number, stands_there router.number (subst P is ready.5.within).0)

  pub may_archive : (router : RouterId) → line.what ≡ what.Archive router
      → (rules : Rules) × (l : Ledger) × (u : Unfinished) × (away : V) × besides (get_or agents router.number d) away rules l u × (l.closed_at_archive ≡ None)
  may_archive router is =
      let r0 = router.number in
      let P : What → Type 0 = λ w. IsWithin (count t) (length t.sigs) w in
      let O : What → Type 0 = λ w. FitsOnce (archived_in ready.3) w in (
        rules_of t r0,
        here r0,
        ready.4.us r0,
        ready.2 r0,
        stands_there r0 (subst P is ready.5.within),
        none_of (closed_at_archive (rules_of t) r0 (filled plain ready.3 ready.1)) (archive_is (rules_of t) r0 plain ready.3 ready.1 ready.4.ordered.inner ready.4.ordered.barred ∙ subst O is ready.5.once),
      )
