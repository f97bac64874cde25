-- A segment is closed by its barrier.
use Rattle.std.proofs.Common.{ℕ, ◌≡◌, ◌≢◌, ◌≤◌, ◌+◌, ◌∷◌, [], ◌++◌, ◌∙◌, Bool, true, false, cond, ◌||◌, ◌==◌, List, length, sym, ap, refl, subst, arith, append_assoc, append-nil}
use Rattle.std.specs.Prelude.{Some, None, is_some}
use Rattle.std.specs.declared.option.Option.{Option}
use Rattle.std.proofs.lemmas.Bool.{false≢true, eq-eqb, eqb-true, false_from_ne_true}
use Rattle.std.proofs.lemmas.List.{map-append}
use Rattle.report_text.specs.declared.Item.{Item}
use Rattle.trace_format.specs.declared.Trace.{Trace}
use Rattle.router_account.specs.Ledger.{Ledger, Split, behind_barrier}
use Rattle.data_agent.specs.declared.Archived.{Archived}
use Rattle.data_agent.specs.Calls.{split_by}
use Rattle.trace_replay.proofs.Sums.{sum_none, sum_less, sum_update}
use Rattle.trace_history.specs.History.{Event, recorded, rotated, archived, watched, ticked, queried, ended, History, QueryRun, clock}
use Rattle.trace_history.specs.Ledgers.{ledger, puts, covers, closed_at_archive, lefts}
use Rattle.trace_history.specs.Outcomes.{EachQuery, IfQuery, fault_marks, fault_marks_by}
use Rattle.trace_history.specs.Receipts.{is_barrier, up_to_barrier}
use Rattle.trace_history.specs.Report.{AreItems, AreItemsOf}
use Rattle.trace_history.specs.Routers.{RouterRules, sum_over}
use Rattle.trace_format.specs.Sound.{is_archived}
use Rattle.trace_replay.specs.Segments.{Splits, with_split, filled, AreInner, IsBarred, AreOnce, IsFirst, archived_in, archived_by, pending_of, pending_items, answer_of, item_by}
use Rattle.trace_replay.proofs.Filled.{moment_of, up_filled, archive_is, puts_filled, covers_filled, lefts_filled}

no_barrier : {X : Type 0} → true ≡ false → X
no_barrier e = absurd (false≢true (sym e))

-- ---- the ledger behind a barrier

of_one : Bool → List ℕ → List ℕ
of_one b xs = cond b xs []

one_put : (o : Option Archived) (b : Bool) → is_some o ≡ b → cond b (split_by o).put [] ≡ (split_by o).put
one_put None true e = refl
one_put None false e = refl
one_put (Some a) true e = refl
one_put (Some a) false e = absurd (false≢true (sym e))

one_covered : (o : Option Archived) (b : Bool) → is_some o ≡ b → cond b ((split_by o).put ++ (split_by o).kept) [] ≡ (split_by o).put ++ (split_by o).kept
one_covered None true e = refl
one_covered None false e = refl
one_covered (Some a) true e = refl
one_covered (Some a) false e = absurd (false≢true (sym e))

abbrev ledger_of : Ledger → (clock : ℕ) → (put covered left : List ℕ) → Ledger
ledger_of l c p q x = record l { clock_then = c; put_before = p; covered_before = q; left_before = x }

module _ (n : ℕ) (rules : RouterRules) (r : ℕ) (f : Splits) (seg h : History) (inner : AreInner seg) (once : AreOnce n seg) (barred : IsBarred h) (o : Option Archived) (is : f r ≡ split_by o)
    (noted : is_some o ≡ is_some (closed_at_archive rules r (filled f seg h))) where
  abbrev F : History
  F = filled f seg h

  is_one : is_some o ≡ is_archived (archived_in seg) r
  is_one = noted ∙ archive_is rules r f seg h inner barred

  puts_is : puts r F ≡ (f r).put ++ puts r (up_to_barrier F)
  puts_is =
      puts_filled n r f seg h inner once
      ∙ ap (λ (s : Split). cond (is_archived (archived_in seg) r) s.put [] ++ puts r h) is
      ∙ ap (λ l. l ++ puts r h) (one_put o (is_archived (archived_in seg) r) is_one ∙ ap (λ (s : Split). s.put) (sym is))
      ∙ ap (λ (x : History). (f r).put ++ puts r x) (sym (up_filled f seg h inner barred))

  covers_is : covers r F ≡ ((f r).put ++ (f r).kept) ++ covers r (up_to_barrier F)
  covers_is =
      covers_filled n r f seg h inner once
      ∙ ap (λ (s : Split). cond (is_archived (archived_in seg) r) (s.put ++ s.kept) [] ++ covers r h) is
      ∙ ap (λ l. l ++ covers r h) (one_covered o (is_archived (archived_in seg) r) is_one ∙ ap (λ (s : Split). s.put ++ s.kept) (sym is))
      ∙ ap (λ (x : History). ((f r).put ++ (f r).kept) ++ covers r x) (sym (up_filled f seg h inner barred))

  lefts_is : (left : ℕ → List ℕ) → left r ++ lefts r F ≡ left r ++ lefts r (up_to_barrier F)
  lefts_is left = ap (λ l. left r ++ l) (lefts_filled r f seg h inner ∙ ap (λ (x : History). lefts r x) (sym (up_filled f seg h inner barred)))

  pub ledger_ticked : (line time : ℕ) (left : ℕ → List ℕ) → ledger rules r (moment_of line (ticked time left) ∷ F) ≡ behind_barrier (rules r) (ledger rules r F) time true (f r) (left r)
  ledger_ticked line time left =
      let l = ledger rules r (moment_of line (ticked time left) ∷ F) in
      ap (λ p. ledger_of l time p (covers r F) (left r ++ lefts r F)) puts_is
      ∙ ap (λ q. ledger_of l time ((f r).put ++ puts r (up_to_barrier F)) q (left r ++ lefts r F)) covers_is
      ∙ ap (λ x. ledger_of l time ((f r).put ++ puts r (up_to_barrier F)) (((f r).put ++ (f r).kept) ++ covers r (up_to_barrier F)) x) (lefts_is left)

  -- a query and the end leave the clock
  still : (l : Ledger) (now : ℕ) (left : ℕ → List ℕ) → clock F ≡ now
      → ledger_of l (clock F) (puts r F) (covers r F) (left r ++ lefts r F)
      ≡ ledger_of l now ((f r).put ++ puts r (up_to_barrier F)) (((f r).put ++ (f r).kept) ++ covers r (up_to_barrier F)) (left r ++ lefts r (up_to_barrier F))
  still l now left e =
      ap (λ c. ledger_of l c (puts r F) (covers r F) (left r ++ lefts r F)) e
      ∙ ap (λ p. ledger_of l now p (covers r F) (left r ++ lefts r F)) puts_is
      ∙ ap (λ q. ledger_of l now ((f r).put ++ puts r (up_to_barrier F)) q (left r ++ lefts r F)) covers_is
      ∙ ap (λ x. ledger_of l now ((f r).put ++ puts r (up_to_barrier F)) (((f r).put ++ (f r).kept) ++ covers r (up_to_barrier F)) x) (lefts_is left)

  pub ledger_queried : (line now : ℕ) (query : QueryRun) (left : ℕ → List ℕ) → clock F ≡ now
      → ledger rules r (moment_of line (queried query left) ∷ F) ≡ behind_barrier (rules r) (ledger rules r F) now false (f r) (left r)
  ledger_queried line now query left e = still (ledger rules r (moment_of line (queried query left) ∷ F)) now left e

  pub ledger_ended : (line now : ℕ) (left : ℕ → List ℕ) → clock F ≡ now → ledger rules r (moment_of line (ended left) ∷ F) ≡ behind_barrier (rules r) (ledger rules r F) now false (f r) (left r)
  ledger_ended line now left e = still (ledger rules r (moment_of line (ended left) ∷ F)) now left e

-- ---- what the filled segment says

items_step : (t : Trace) (f : Splits) (before after : History) (line : ℕ) (e : Event) → is_barrier e ≡ false → AreItems t before after line (with_split f e) (item_by f line (answer_of e) ∷ [])
items_step t f before after line (recorded hop page) b = refl
items_step t f before after line (rotated r page) b = refl
items_step t f before after line (archived r put kept) b = refl
items_step t f before after line (watched r sig a) b = refl
items_step t f before after line (ticked time left) b = no_barrier b
items_step t f before after line (queried query left) b = no_barrier b
items_step t f before after line (ended left) b = no_barrier b

pub items_filled : (t : Trace) (f : Splits) (seg h : History) (items : List Item) → AreInner seg → AreItemsOf t h items → AreItemsOf t (filled f seg h) (items ++ pending_items f (pending_of seg))
items_filled t f [] h items i a = let P : List Item → Type 0 = λ xs. AreItemsOf t h xs in subst P (sym (append-nil items)) a
items_filled t f (moment ∷ seg) h items i a =
    let pending = pending_items f (pending_of seg) in (
      items ++ pending,
      item_by f moment.line (answer_of moment.event) ∷ [],
      items_filled t f seg h items i.0 a,
      items_step t f (filled f seg h) (filled f (moment ∷ seg) h) moment.line moment.event i.1,
      ap (λ xs. items ++ xs) (map-append _ (pending_of seg) _) ∙ sym (append_assoc items pending (item_by f moment.line (answer_of moment.event) ∷ [])),
    )

each_step : (P : History → QueryRun → Type 0) (f : Splits) (after : History) (e : Event) → is_barrier e ≡ false → IfQuery P after (with_split f e)
each_step P f after (recorded hop page) b = tt
each_step P f after (rotated r page) b = tt
each_step P f after (archived r put kept) b = tt
each_step P f after (watched r sig a) b = tt
each_step P f after (ticked time left) b = no_barrier b
each_step P f after (queried query left) b = no_barrier b
each_step P f after (ended left) b = no_barrier b

pub each_filled : (P : History → QueryRun → Type 0) (f : Splits) (seg h : History) → AreInner seg → EachQuery P h → EachQuery P (filled f seg h)
each_filled P f [] h i a = a
each_filled P f (moment ∷ seg) h i a = (each_filled P f seg h i.0 a, each_step P f (filled f (moment ∷ seg) h) moment.event i.1)

-- ---- marks

-- what a segment's archivals kept: a router has one at most
abbrev kept_by : Splits → List ℕ → ℕ → ℕ
kept_by f earlier r = cond (is_archived earlier r) (length (f r).kept) 0

not_own : (r q : ℕ) → r ≢ q → (q == r) ≡ false
not_own r q ne = false_from_ne_true _ (λ b. ne (sym (eqb-true q r b)))

marks_step : (n : ℕ) (f : Splits) (e : Event) (earlier : List ℕ) (m : ℕ) → is_barrier e ≡ false → IsFirst n e earlier
    → (m + sum_over n (kept_by f earlier)) + fault_marks_by n (with_split f e) ≡ m + sum_over n (kept_by f (archived_by e earlier))
marks_step n f (recorded hop page) earlier m b first = omega arith
marks_step n f (rotated r page) earlier m b first = omega arith
marks_step n f (archived q put kept) earlier m b first =
    let own : kept_by f (q ∷ earlier) q ≡ kept_by f earlier q + length (f q).kept =
    ap (λ b. cond (b || is_archived earlier q) (length (f q).kept) 0) (eq-eqb q q refl) ∙ (let z : kept_by f earlier q ≡ 0 = ap (λ d. cond d (length (f q).kept) 0) first.0 in omega (arith, z)) in
    let sum = sum_update n (kept_by f earlier) (kept_by f (q ∷ earlier)) q (length (f q).kept) first.1 own
    (λ r ne. ap (λ b. cond (b || is_archived earlier r) (length (f r).kept) 0) (not_own r q ne)) in
    omega (arith, sum)
marks_step n f (watched r sig a) earlier m b first = omega arith
marks_step n f (ticked time left) earlier m b first = no_barrier b
marks_step n f (queried query left) earlier m b first = no_barrier b
marks_step n f (ended left) earlier m b first = no_barrier b

marks_are : (n : ℕ) (f : Splits) (seg h : History) → AreInner seg → AreOnce n seg → fault_marks n (filled f seg h) ≡ fault_marks n h + sum_over n (kept_by f (archived_in seg))
marks_are n f [] h i o = let z = sum_none n in omega (arith, z)
marks_are n f (moment ∷ seg) h i o =
    ap (λ x. x + fault_marks_by n (with_split f moment.event)) (marks_are n f seg h i.0 o.0) ∙ marks_step n f moment.event (archived_in seg) (fault_marks n h) i.1 o.1

cond_less : (b : Bool) (x : ℕ) → cond b x 0 ≤ x
cond_less true x = omega arith
cond_less false x = omega arith

pub marks_filled : (n : ℕ) (f : Splits) (seg h : History) → AreInner seg → AreOnce n seg → fault_marks n (filled f seg h) ≤ fault_marks n h + sum_over n (λ r. length (f r).kept)
marks_filled n f seg h i o =
    let e = marks_are n f seg h i o in
    let l = sum_less n (kept_by f (archived_in seg)) (λ r. length (f r).kept) (λ r m. cond_less (is_archived (archived_in seg) r) (length (f r).kept)) in
    omega (arith, e, l)
