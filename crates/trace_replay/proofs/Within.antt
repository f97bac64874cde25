-- Each kind of line of a segment.
use Rattle.std.proofs.Common.{ℕ, ◌≡◌, ◌≢◌, ◌≤◌, ◌<◌, ◌+◌, ◌∷◌, [], ◌++◌, ◌∙◌, ⊎_elim, Bool, true, false, cond, ◌==◌, List, length, get_or, set, sym, ap, refl, subst, arith, append-nil}
use Rattle.std.specs.List.{Contains}
use Rattle.std.specs.Prelude.{slice_get, Some, None}
use Rattle.std.proofs.lemmas.Bool.{eq-eqb, eqb-true, false_from_ne_true, false≢true}
use Rattle.std.proofs.lemmas.List.Elements.{Contains-append_cases}
use Rattle.spie_base.proofs.Booleans.{none_held}
use Rattle.spie_base.proofs.Membership.{has_none}
use Rattle.spie_base.specs.Causes.{RoseBy}
use Rattle.spie_base.specs.declared.Entry.{Entry}
use Rattle.spie_base.specs.declared.RouterId.{RouterId}
use Rattle.spie_base.specs.declared.Rules.{Rules}
use Rattle.spie_base.specs.declared.Sig.{Sig}
use Rattle.packet_signature.specs.declared.Kind.{Kind}
use Rattle.packet_signature.specs.Row.{row_of}
use Rattle.page_catalogue.specs.Pages.{open_page}
use Rattle.page_shelf.specs.Shelves.{Contents}
use Rattle.trace_format.specs.declared.Line.{Line}
use Rattle.trace_format.specs.declared.Trace.{Trace}
use Rattle.trace_format.specs.declared.What.{What}
use Rattle.trace_format.specs.declared.What.TheVariants as what
use Rattle.trace_format.specs.Sound.{FitsOnce, IsWithin, is_archived}
use Rattle.router_account.specs.declared.Watch.{Watch}
use Rattle.router_account.specs.Barriers.{IsSplit, archive_view}
use Rattle.router_account.specs.Ledger.{Ledger, PutBits, Unfinished, nothing_unfinished, recorded_in, changed_in, turned_at, at_archive}
use Rattle.router_account.specs.Shelves.{ShelfView}
use Rattle.router_account.specs.Watches.{watch_of}
use Rattle.data_agent.specs.Calls.{IsNoted, with_more}
use Rattle.trace_history.specs.History.{recorded, rotated, archived, watched, Hop, same, changed, IsEventOf, History, with_hop}
use Rattle.trace_history.specs.Receipts.{up_to_barrier}
use Rattle.trace_history.specs.Ledgers.{ledger, puts, closed_at_archive}
use Rattle.trace_history.specs.Outcomes.{fault_marks}
use Rattle.trace_history.specs.Routers.{count, rules_of, sum_over}
use Rattle.trace_history.proofs.Sequential.{account_router}
use Rattle.trace_replay.specs.declared.state.State.{State}
use Rattle.trace_replay.specs.declared.state.Answer.TheVariants.{Entered, Opened, Archived, Watched}
use Rattle.trace_replay.specs.Agents.{Standing, IsHeld}
use Rattle.trace_replay.specs.Segments.{Splits, filled, archived_in, answer_of}
use Rattle.trace_replay.specs.Standing.{Way, Does, Adds, AreSplits}
use Rattle.trace_replay.proofs.Closed.{puts_closed, grows_by}
use Rattle.trace_replay.proofs.Filled.{moment_of, recorded_own, recorded_other, rotated_own, rotated_other, archived_own, archived_other, up_filled, puts_filled, archive_is}
use Rattle.trace_replay.proofs.Gathering.{own_entry, other_entry}
use Rattle.trace_replay.proofs.During.{during_later}
use Rattle.trace_replay.proofs.Held.{ArePutClosed, held_recorded, held_changed, held_turned}
use Rattle.trace_replay.proofs.Inner.{none_of, stands_at, clock_at, stands_more, kept_with}
use Rattle.trace_replay.proofs.Passing.{held_still}
use Rattle.trace_replay.proofs.Touched.{archived_covers, covered_more, untouched_then}
use Rattle.trace_replay.proofs.Sums.{rose_add, rose_less, same_or, sum_update}

none_some : {X : Type 0} (x : X) → None ≡ Some x → ⊥
none_some x e = cc

module _ {A : Type 0} (way : Way A) (stands : Standing A) (t : Trace) (line : Line) (agents : List A) (d : A) (new : A) (s s' : State) (was now : ShelfView) (alone : way.workers ≡ 1) where
  none_more : {xs ys : List Entry} → xs ≡ ys → xs ≡ ys ++ []
  none_more {xs} {ys} e = e ∙ sym (append-nil ys)

  -- a packet leaves as it came, or changed
  record_line : (hop : Hop) (page : ℕ) → ((n m : ℕ) → IsWithin n m line.what → hop.router < n) → IsEventOf t.sigs line.what (recorded hop page)
      → ((rules : Rules) (l : Ledger) (u : Unfinished) → stands (get_or agents hop.router d) rules l u
      → (page ≡ open_page l.account.closings) × stands new rules (record l { account = with_hop l.account hop page }) u)
      → ((c : Contents) (rules : Rules) (l : Ledger) (u : Unfinished) → ArePutClosed l u → page ≡ open_page l.account.closings → IsHeld rules c l u → IsHeld rules c (record l { account = with_hop l.account hop page }) u)
      → way.entries new ≡ way.entries (get_or agents hop.router d) ++ record { page = record { number = page }; sig = hop.sig } ∷ []
      → Adds t line.number s s' (answer_of (recorded hop page))
      → Does way stands t line agents (set agents hop.router new) s s' was was
  record_line hop page named is_event call held entries adds start history seg old fits =
      let event = recorded hop page in
      let r0 = hop.router in
      let l0 : r0 < count t = named (count t) (length t.sigs) fits.within in
      let F = λ (f : Splits). filled f seg history in
      let L = λ (f : Splits). ledger (rules_of t) r0 (F f) in
      let at = λ (f : Splits). call (rules_of t r0) (L f) (old.us r0) (stands_at way stands t start history seg agents s s' was was old f r0 d l0) in
      let is = λ (f : Splits). recorded_own (rules_of t) r0 line.number hop page (F f) refl in
      let others = λ (f : Splits) (r : ℕ) (ne : r ≢ r0). recorded_other (rules_of t) r line.number hop page (F f) (λ e. ne (sym e)) in (
        event,
        is_event,
        stands_more way stands t start history seg agents s s' was was old line.number event r0 new old.us l0
            (λ f. let P : Ledger → Type 0 = λ l. stands new (rules_of t r0) l (old.us r0) in subst P (sym (is f)) (at f).1)
            others (λ r ne. refl) old.us_none (λ f x h. let a = old.us_closed f r0 x h in let b = grows_by (rules_of t) r0 line.number (F f) event in omega (arith, a, b))
            alone d (entries ∙ ap (λ (es : List Entry). way.entries (get_or agents r0 d) ++ es) (sym (own_entry r0 page hop refl))) (λ r ne. other_entry r page hop (λ e. ne (sym e)))
            refl tt fits.place adds (λ f. (at f).0) (λ f. tt) (λ f hyp. (hyp, tt))
            (kept_with way stands t start history seg agents s s' was was old line.number event r0 others (λ f hyp. hyp)
            (λ f h. let P : Ledger → Type 0 = λ l. IsHeld (rules_of t r0) was.contents l (old.us r0) in
            subst P (sym (is f)) (held was.contents (rules_of t r0) (L f) (old.us r0) (puts_closed (count t) (rules_of t) r0 f seg history (old.us r0) old.ordered.inner old.ordered.barred old.right.allowed_before (old.us_closed f r0)) (at f).0 h))),
      )

  pub does_forward : (router : RouterId) (packet : ℕ) (sig : Sig) (page : ℕ) → line.what ≡ what.Fwd router packet → slice_get t.sigs packet ≡ Some sig
      → ((rules : Rules) (l : Ledger) (u : Unfinished) → stands (get_or agents router.number d) rules l u → page ≡ open_page l.account.closings)
      → ((rules : Rules) (l : Ledger) (u : Unfinished) → stands (get_or agents router.number d) rules l u → stands new rules (recorded_in l (open_page l.account.closings) sig) u)
      → way.entries new ≡ way.entries (get_or agents router.number d) ++ record { page = record { number = page }; sig = sig } ∷ []
      → Adds t line.number s s' (Entered (record { number = page }))
      → Does way stands t line agents (set agents router.number new) s s' was was
  does_forward router packet sig page is known opened call entries adds =
      let hop : Hop = record { router = router.number; sig = sig; origin = same } in
      let W : What → Type 0 = λ w. IsEventOf t.sigs w (recorded hop page) in
      record_line hop page
      (λ n m w. let P : What → Type 0 = λ x. IsWithin n m x in (subst P is w).0)
      (subst W (sym is) (refl, known, refl))
      (λ rules l u at. let e = opened rules l u at in let P : ℕ → Type 0 = λ p. stands new rules (recorded_in l p sig) u in (e, subst P (sym e) (call rules l u at)))
      (λ c rules l u closed e h. let P : ℕ → Type 0 = λ p. IsHeld rules c (recorded_in l p sig) u in subst P (sym e) (held_recorded rules c l u sig closed h))
      entries adds

  pub does_change : (router : RouterId) (kind : Kind) (before after : ℕ) (was_sig sig : Sig) (page : ℕ) → line.what ≡ what.Xf router kind before after → slice_get t.sigs before ≡ Some was_sig → slice_get t.sigs after ≡ Some sig
      → ((rules : Rules) (l : Ledger) (u : Unfinished) → stands (get_or agents router.number d) rules l u → page ≡ open_page l.account.closings)
      → ((rules : Rules) (l : Ledger) (u : Unfinished) → stands (get_or agents router.number d) rules l u
      → stands new rules (changed_in (recorded_in l (open_page l.account.closings) sig) page (row_of kind was_sig sig)) u)
      → way.entries new ≡ way.entries (get_or agents router.number d) ++ record { page = record { number = page }; sig = sig } ∷ []
      → Adds t line.number s s' (Entered (record { number = page }))
      → Does way stands t line agents (set agents router.number new) s s' was was
  does_change router kind before after was_sig sig page is known_was known opened call entries adds =
      let hop : Hop = record { router = router.number; sig = sig; origin = changed kind was_sig } in
      let row = row_of kind was_sig sig in
      let W : What → Type 0 = λ w. IsEventOf t.sigs w (recorded hop page) in
      record_line hop page
      (λ n m w. let P : What → Type 0 = λ x. IsWithin n m x in (subst P is w).0)
      (subst W (sym is) (refl, known, (refl, known_was)))
      (λ rules l u at. let e = opened rules l u at in let P : ℕ → Type 0 = λ p. stands new rules (changed_in (recorded_in l p sig) page row) u in (e, subst P (sym e) (call rules l u at)))
      (λ c rules l u closed e h.
      let P : ℕ → Type 0 = λ p. IsHeld rules c (changed_in (recorded_in l p sig) p row) u in
      subst P (sym e) (held_changed rules c (recorded_in l (open_page l.account.closings) sig) u row (record { each = closed.each; bits = closed.bits }) (held_recorded rules c l u sig closed h)))
      entries adds

  pub does_rotate : (router : RouterId) (page : ℕ) → line.what ≡ what.Rotate router
      → ((rules : Rules) (l : Ledger) (u : Unfinished) → stands (get_or agents router.number d) rules l u → page ≡ open_page l.account.closings + 1)
      → ((rules : Rules) (l : Ledger) (u : Unfinished) → stands (get_or agents router.number d) rules l u → stands new rules (turned_at l s.clock) u)
      → way.entries new ≡ way.entries (get_or agents router.number d)
      → Adds t line.number s s' (Opened (record { number = page }))
      → Does way stands t line agents (set agents router.number new) s s' was was
  does_rotate router page is opened call entries adds start history seg old fits =
      let event = rotated router.number page in
      let r0 = router.number in
      let V : What → Type 0 = λ w. IsWithin (count t) (length t.sigs) w in
      let l0 : r0 < count t = subst V is fits.within in
      let W : What → Type 0 = λ w. IsEventOf t.sigs w event in
      let F = λ (f : Splits). filled f seg history in
      let L = λ (f : Splits). ledger (rules_of t) r0 (F f) in
      let had = λ (f : Splits). stands_at way stands t start history seg agents s s' was was old f r0 d l0 in
      let is_now : (f : Splits) → ledger (rules_of t) r0 (moment_of line.number event ∷ F f) ≡ turned_at (L f) s.clock = λ f.
      rotated_own (rules_of t) r0 line.number r0 page (F f) refl ∙ ap (λ (c : ℕ). turned_at (L f) c) (sym (clock_at way stands t start history seg agents s s' was was old f)) in
      let others = λ (f : Splits) (r : ℕ) (ne : r ≢ r0). rotated_other (rules_of t) r line.number r0 page (F f) (λ e. ne (sym e)) in (
        event,
        subst W (sym is) refl,
        stands_more way stands t start history seg agents s s' was was old line.number event r0 new old.us l0
            (λ f. let P : Ledger → Type 0 = λ l. stands new (rules_of t r0) l (old.us r0) in subst P (sym (is_now f)) (call (rules_of t r0) (L f) (old.us r0) (had f)))
            others (λ r ne. refl) old.us_none (λ f x h. let a = old.us_closed f r0 x h in let b = grows_by (rules_of t) r0 line.number (F f) event in omega (arith, a, b))
            alone d (none_more entries) (λ r ne. refl) refl tt fits.place adds
            (λ f. opened (rules_of t r0) (L f) (old.us r0) (had f)) (λ f. tt) (λ f hyp. (hyp, tt))
            (kept_with way stands t start history seg agents s s' was was old line.number event r0 others (λ f hyp. hyp)
            (λ f h. let P : Ledger → Type 0 = λ l. IsHeld (rules_of t r0) was.contents l (old.us r0) in
            subst P (sym (is_now f)) (held_turned (rules_of t r0) was.contents (L f) (old.us r0) s.clock (puts_closed (count t) (rules_of t) r0 f seg history (old.us r0) old.ordered.inner old.ordered.barred old.right.allowed_before (old.us_closed f r0)) h))),
      )

  pub does_archive : (router : RouterId) → line.what ≡ what.Archive router
      → was.faults ≤ now.faults → now.tells ≡ was.tells
      → (more : Unfinished) → IsNoted (stands (get_or agents router.number d)) (stands new) more was.tells was.contents now.contents → RoseBy more.refused was.faults now.faults
      → way.entries new ≡ way.entries (get_or agents router.number d)
      → Adds t line.number s s' (Archived router)
      → Does way stands t line agents (set agents router.number new) s s' was now
  does_archive router is later still more call rose entries adds start history seg old fits =
      let event = archived router.number [] [] in
      let r0 = router.number in
      let V : What → Type 0 = λ w. IsWithin (count t) (length t.sigs) w in
      let O : What → Type 0 = λ w. FitsOnce (archived_in seg) w in
      let l0 : r0 < count t = subst V is fits.within in
      let once : is_archived (archived_in seg) r0 ≡ false = subst O is fits.once in
      let W : What → Type 0 = λ w. IsEventOf t.sigs w event in
      let F = λ (f : Splits). filled f seg history in
      let G = λ (f : Splits). filled f (moment_of line.number event ∷ seg) history in
      let R = rules_of t r0 in
      let L = λ (f : Splits). ledger (rules_of t) r0 (F f) in
      let u0 = old.us r0 in
      let u1 = with_more u0 more in
      let had = λ (f : Splits). stands_at way stands t start history seg agents s s' was now old f r0 d l0 in
      let us : ℕ → Unfinished = λ r. cond (r == r0) u1 (old.us r) in
      let us_own : us r0 ≡ u1 = ap (λ b. cond b u1 u0) (eq-eqb r0 r0 refl) in
      let us_other : (r : ℕ) → r ≢ r0 → us r ≡ old.us r = λ r ne. ap (λ b. cond b u1 (old.us r)) (false_from_ne_true _ (λ b. ne (eqb-true r r0 b))) in
      let none_before : u0 ≡ nothing_unfinished = old.us_none r0 once in
      let no_bits : (x : PutBits) → Contains u0.bits_put x → ⊥ = λ x h. (let P : Unfinished → Type 0 = λ u. Contains u.bits_put x in has_none x (subst P none_before h)) in
      let is_now = λ (f : Splits). archived_own (rules_of t) r0 line.number r0 (f r0).put (f r0).kept (F f) refl in
      let others = λ (f : Splits) (r : ℕ) (ne : r ≢ r0). archived_other (rules_of t) r line.number r0 (f r0).put (f r0).kept (F f) (λ e. ne (sym e)) in
      let first = λ (f : Splits). none_of (closed_at_archive (rules_of t) r0 (F f)) (archive_is (rules_of t) r0 f seg history old.ordered.inner old.ordered.barred ∙ once) in
      let puts_here : (f : Splits) → puts r0 (up_to_barrier (F f)) ≡ puts r0 (F f) = λ f.
      ap (λ (h : History). puts r0 h) (up_filled f seg history old.ordered.inner old.ordered.barred)
      ∙ sym (puts_filled (count t) r0 f seg history old.ordered.inner old.ordered.once ∙ ap (λ (b : Bool). cond b (f r0).put [] ++ puts r0 history) once) in
      let splits_before : (f : Splits) → AreSplits t f (G f) → AreSplits t f (F f) = λ f hyp r closings l came.
      ⊎_elim
      (λ (e : r ≡ r0).
      let P : ℕ → Type 0 = λ q. closed_at_archive (rules_of t) q (F f) ≡ Some closings in
      absurd (none_some closings (sym (first f) ∙ subst P e came)))
      (λ (ne : r ≢ r0).
      let P : Ledger → Type 0 = λ x. IsSplit (rules_of t r) (archive_view x closings) (f r) in
      subst P (others f r ne) (hyp r closings l (ap (λ (x : Ledger). x.closed_at_archive) (others f r ne) ∙ came)))
      (same_or r r0) in
      let split_now : (f : Splits) → AreSplits t f (G f) → IsSplit R (archive_view (L f) (L f).account.closings) (f r0) = λ f hyp.
      (let P : Ledger → Type 0 = λ x. IsSplit R (archive_view x (L f).account.closings) (f r0) in
      subst P (is_now f) (hyp r0 (L f).account.closings l0 (ap (λ (x : Ledger). x.closed_at_archive) (is_now f)))) in
      let kept_here : start.tells ≡ true → (f : Splits) → IsHeld R now.contents (at_archive (L f)) u1 = λ tells f.
      (let was_held = old.shelf.holds tells f r0 l0 in
      let told = old.shelf.still ∙ tells in
      let records = call.holds R (L f) u0 (had f) told was_held.records in
      let more_bits = call.holds_bits R (L f) u0 (had f) told was_held.records in
      let true_bits = call.bits R (L f) u0 (had f) in
      record {
        records = record { put = records.put; gone = records.gone };
        bits = λ x h. ⊎_elim (λ (a : Contains u0.bits_put x). absurd (no_bits x a)) (λ (b : Contains more.bits_put x). more_bits x b) (Contains-append_cases u0.bits_put more.bits_put x h);
        true_bits = λ x h. ⊎_elim (λ (a : Contains u0.bits_put x). absurd (no_bits x a)) (λ (b : Contains more.bits_put x). true_bits x b) (Contains-append_cases u0.bits_put more.bits_put x h);
      }) in (
        event,
        subst W (sym is) refl,
        stands_more way stands t start history seg agents s s' was now old line.number event r0 new us l0
            (λ f.
            let P : Ledger → Type 0 = λ l. stands new R l (us r0) in
            let Q : Unfinished → Type 0 = λ u. stands new R (at_archive (L f)) u in
            subst P (sym (is_now f)) (subst Q (sym us_own) (call.noted R (L f) u0 (had f))))
            others us_other
            (λ r e. let both = none_held (r0 == r) (is_archived (archived_in seg) r) e in
            let ne : r ≢ r0 = λ same. false≢true (sym both.0 ∙ eq-eqb r0 r (sym same)) in us_other r ne ∙ old.us_none r both.1)
            (λ f x h.
            let P : Unfinished → Type 0 = λ u. Contains u.bits_put x in
            ⊎_elim (λ (a : Contains u0.bits_put x). absurd (no_bits x a)) (λ (b : Contains more.bits_put x). call.closed R (L f) u0 (had f) x b) (Contains-append_cases u0.bits_put more.bits_put x (subst P us_own h)))
            alone d (none_more entries) (λ r ne. refl) refl (once, l0) fits.place adds (λ f. tt) (λ f. tt)
            (λ f hyp. (
              splits_before f hyp,
              (let U : List ℕ → Type 0 = λ xs. IsSplit R (record (archive_view (L f) (L f).account.closings) { put_before = xs }) (f r0) in subst U (puts_here f) (split_now f hyp)),
            ))
            (record {
              later = let a = old.shelf.later in omega (arith, a, later);
              still = still ∙ old.shelf.still;
              paid =
                  let n = count t in
                  let had_refused = sum_over n (λ r. (old.us r).refused) in
                  let sum : sum_over n (λ r. (us r).refused) ≡ had_refused + more.refused =
                  sum_update n (λ r. (old.us r).refused) (λ r. (us r).refused) r0 more.refused l0 (ap (λ (u : Unfinished). u.refused) us_own) (λ r ne. ap (λ (u : Unfinished). u.refused) (us_other r ne)) in
                  rose_less ((fault_marks n history + had_refused) + more.refused) (fault_marks n history + sum_over n (λ r. (us r).refused)) start.faults now.faults
                  (rose_add (fault_marks n history + had_refused) more.refused start.faults was.faults now.faults old.shelf.paid rose) (omega (arith, sum));
              during = during_later (count t) start was now later history old.shelf.during;
              all_true = old.shelf.all_true;
              only_faults = old.shelf.only_faults;
              holds = λ tells f r l. ⊎_elim
                  (λ (e : r ≡ r0).
                  let P : ℕ → Type 0 = λ q. IsHeld (rules_of t q) now.contents (ledger (rules_of t) q (G f)) (us q) in
                  let Q : Ledger → Type 0 = λ x. IsHeld R now.contents x (us r0) in
                  let T : Unfinished → Type 0 = λ u. IsHeld R now.contents (at_archive (L f)) u in
                  subst P (sym e) (subst Q (sym (is_now f)) (subst T (sym us_own) (kept_here tells f))))
                  (λ (ne : r ≢ r0).
                  let Q : Ledger → Type 0 = λ x. IsHeld (rules_of t r) now.contents x (us r) in
                  let T : Unfinished → Type 0 = λ u. IsHeld (rules_of t r) now.contents (ledger (rules_of t) r (F f)) u in
                  subst Q (sym (others f r ne)) (subst T (sym (us_other r ne)) (held_still (rules_of t r) was.contents now.contents (L f).account.router (ledger (rules_of t) r (F f)) (old.us r)
                  (call.others R (L f) u0 (had f) (old.shelf.still ∙ tells))
                  (λ e. ne (sym (account_router (rules_of t) r (F f)) ∙ e ∙ account_router (rules_of t) r0 (F f))) (old.shelf.holds tells f r l))))
                  (same_or r r0);
              untouched = λ tells f hyp. untouched_then (count t) (F f) (G f) start.contents was.contents now.contents
                  (λ name is. covered_more (count t) line.number (archived r0 (f r0).put (f r0).kept) (F f) name is) (old.shelf.untouched tells f (splits_before f hyp))
                  (λ name apart. call.untouched R (L f) u0 (had f) (old.shelf.still ∙ tells) name
                  (λ noted. apart (archived_covers (count t) R (L f) (f r0) r0 line.number (F f) name l0 (account_router (rules_of t) r0 (F f)) (split_now f hyp) noted)));
            }),
      )

  -- a watch leaves what its agent stands for as it is
  pub does_watch : (router : RouterId) (packet : ℕ) (sig : Sig) (answer : Watch) → line.what ≡ what.Watch router packet → slice_get t.sigs packet ≡ Some sig
      → ((rules : Rules) (l : Ledger) (u : Unfinished) → stands (get_or agents router.number d) rules l u → answer ≡ watch_of rules l s.clock sig)
      → ((rules : Rules) (l : Ledger) (u : Unfinished) → stands (get_or agents router.number d) rules l u → stands new rules l u)
      → way.entries new ≡ way.entries (get_or agents router.number d)
      → Adds t line.number s s' (Watched answer)
      → Does way stands t line agents (set agents router.number new) s s' was was
  does_watch router packet sig answer is known call keeps entries adds start history seg old fits =
      let event = watched router.number sig answer in
      let r0 = router.number in
      let V : What → Type 0 = λ w. IsWithin (count t) (length t.sigs) w in
      let l0 : r0 < count t = (subst V is fits.within).0 in
      let W : What → Type 0 = λ w. IsEventOf t.sigs w event in
      let F = λ (f : Splits). filled f seg history in
      let L = λ (f : Splits). ledger (rules_of t) r0 (F f) in
      let had = λ (f : Splits). stands_at way stands t start history seg agents s s' was was old f r0 d l0 in (
        event,
        subst W (sym is) (refl, known),
        stands_more way stands t start history seg agents s s' was was old line.number event r0 new old.us l0
            (λ f. keeps (rules_of t r0) (L f) (old.us r0) (had f))
            (λ f r ne. refl) (λ r ne. refl) old.us_none (λ f x h. old.us_closed f r0 x h)
            alone d (none_more entries) (λ r ne. refl) refl tt fits.place adds (λ f. tt)
            (λ f. let Q : ℕ → Type 0 = λ c. answer ≡ watch_of (rules_of t r0) (L f) c sig in
            subst Q (clock_at way stands t start history seg agents s s' was was old f) (call (rules_of t r0) (L f) (old.us r0) (had f)))
            (λ f hyp. (hyp, tt))
            (kept_with way stands t start history seg agents s s' was was old line.number event r0 (λ f r ne. refl) (λ f hyp. hyp) (λ f h. h)),
      )
