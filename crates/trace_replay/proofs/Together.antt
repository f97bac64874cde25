-- A segment is done: the operator's moments and the workers' records together.
use Rattle.std.proofs.Common.{ℕ, zero, suc, ◌≡◌, ◌≢◌, ◌≤◌, ◌<◌, ◌^◌, ◌∷◌, [], ◌++◌, ◌∙◌, Bool, true, false, cond, ◌==◌, List, length, get_or, map, drop, sym, ap, refl, subst, arith, append-nil}
use Rattle.std.specs.Prelude.{slice_get, Some}
use Rattle.std.specs.List.{Contains, flat_map}
use Rattle.std.proofs.lemmas.Bool.{eqb-true, ne_eqb}
use Rattle.std.proofs.lemmas.List.Elements.{Contains-append_left}
use Rattle.spie_base.proofs.Membership.{has_none, has_one, has_first, has_later, from_flat_map}
use Rattle.spie_base.specs.declared.Entry.{Entry}
use Rattle.spie_base.specs.declared.Sig.{Sig}
use Rattle.trace_format.specs.declared.Line.{Line}
use Rattle.trace_format.specs.declared.Trace.{Trace}
use Rattle.trace_format.specs.Sound.{is_archived, records}
use Rattle.router_account.specs.Account.{Account, RowIn, below}
use Rattle.router_account.specs.Ledger.{Ledger, no_split}
use Rattle.router_account.specs.Records.{ArePageBits}
use Rattle.router_account.specs.Shelves.{ShelfView}
use Rattle.router_account.specs.Watches.{shows}
use Rattle.trace_history.specs.declared.Totals.{Totals}
use Rattle.trace_history.specs.History.{Event, History, IsHistoryOf, Origin, changed, rows_after}
use Rattle.trace_history.specs.History.{same as unchanged}
use Rattle.trace_history.specs.Ledgers.{covers, ledger, puts}
use Rattle.trace_history.specs.Outcomes.{IsAllowed}
use Rattle.trace_history.specs.Receipts.{Receipt, open_at, receipts, IsLegalFor}
use Rattle.trace_history.specs.Routers.{count, rules_of}
use Rattle.trace_history.specs.Watched.{AreSegmentWatches}
use Rattle.trace_history.specs.Workers.{entry_by, share_of, gathered}
use Rattle.trace_history.proofs.Sequential.{account_router}
use Rattle.trace_workers.specs.Laws.{AreRisingTurns}
use Rattle.trace_workers.specs.Records.{entries_by, lines_between}
use Rattle.trace_replay.specs.declared.state.State.{State}
use Rattle.trace_replay.specs.declared.state.Answer.{Answer}
use Rattle.trace_replay.specs.Agents.{Standing, IsHeld}
use Rattle.trace_replay.specs.Merging.{operations, interleaved, AreEvents, history_by}
use Rattle.trace_replay.specs.Operated.{operated, row_by, rows_at, with_records, AreTurns, AreWatchedBy}
use Rattle.trace_replay.specs.Operating.{Besides, Reads, reads_at, Operates}
use Rattle.trace_replay.specs.Segmenting.{FitSegment}
use Rattle.trace_replay.specs.Segments.{Splits, filled, AreInner, AreOnce, archived_in, answer_of, Pending, numbered, pending_of}
use Rattle.trace_replay.specs.Standing.{Way, Stands, IsRight, IsRightTogether, AreLinesRight, IsKeptOn, IsPrinted, AreSplits}
use Rattle.trace_replay.proofs.AllowedApart.{allowed_apart, splits_apart}
use Rattle.trace_replay.proofs.Apart.{ledger_apart, inner_merged, once_merged, archived_operated}
use Rattle.trace_replay.proofs.BetweenApart.{segment_between, lists_kept}
use Rattle.trace_replay.proofs.Closed.{closed_history}
use Rattle.trace_replay.proofs.Filled.{covers_filled, up_filled}
use Rattle.trace_replay.proofs.Gathering.{worked_none}
use Rattle.trace_replay.proofs.HeldApart.{holds_apart}
use Rattle.trace_replay.proofs.LegalApart.{legal_apart}
use Rattle.trace_replay.proofs.Merged.{IsMerged, IsBy, merged, history_of, receipts_of, by_events, pending_by, map_merged}
use Rattle.trace_replay.proofs.Reported.{none_early, none_waiting}
use Rattle.trace_replay.proofs.RecordEvents.{events_of, receipts_back}

-- the state with the answers to a segment's lines
pub record HasAnswers (old new : State) (answers : List Answer) : Type 0 where
  pub clock : new.clock ≡ old.clock
  pub first : new.first ≡ old.first
  pub answers_are : new.answers.items ≡ old.answers.items ++ answers
  pub report : new.report.items ≡ old.report.items
  pub totals : new.totals ≡ old.totals

-- an account with more entries
abbrev pub with_entries : Ledger → List Entry → Account
with_entries l es = record l.account { entries = l.account.entries ++ es }

one_of : (b : Bool) (x e : Entry) → Contains (cond b (x ∷ []) []) e → b ≡ true
one_of true x e h = refl
one_of false x e h = absurd (has_none e h)

one_is : (b : Bool) (x e : Entry) → Contains (cond b (x ∷ []) []) e → x ≡ e
one_is true x e h = has_one x e h
one_is false x e h = absurd (has_none e h)

row_page : (page : ℕ) (sig : Sig) (o : Origin) (y : RowIn) → Contains (rows_after [] page sig o) y → page ≡ y.page
row_page page sig unchanged y h = absurd (has_none y h)
row_page page sig (changed kind before) y h = ap (λ (z : RowIn). z.page) (has_one _ y h)

row_is : (b : Bool) (x : Receipt) (y : RowIn) → Contains (cond b (rows_after [] x.page x.hop.sig x.hop.origin) []) y → (b ≡ true) × (x.page ≡ y.page)
row_is true x y h = (refl, row_page x.page x.hop.sig x.hop.origin y h)
row_is false x y h = absurd (has_none y h)

got_has : (xs : List Receipt) (i : ℕ) (v : Receipt) → slice_get xs i ≡ Some v → Contains xs v
got_has [] i v e = cc
got_has (x ∷ xs) zero v e = let same : x ≡ v = cc in let P : Receipt → Type 0 = λ y. Contains (x ∷ xs) y in subst P same (has_first x xs)
got_has (x ∷ xs) (suc i) v e = has_later x xs v (got_has xs i v e)

not_one : (W : ℕ) → 2 ≤ W → (W == 1) ≡ false
not_one W l = ne_eqb W 1 (let ne : W ≢ 1 = omega (arith, l) in ne)

module _ {A V : Type 0} (way : Way A) (stands : Standing A) (besides : Besides A V) (reads : Reads A) (t : Trace) (start : ShelfView) (history : History) (aways : ℕ → V) (from to : ℕ)
    (before mid after : List A) (s s' : State) (was now : ShelfView) (ops : History) (given : List Answer) (xs : List Receipt)
    (many : 2 ≤ way.workers) (old : Stands way stands t start history [] before s was) (fit : FitSegment t history from to)
    (ops_lines : IsHistoryOf t.sigs (operations (lines_between t.lines from to)) ops) (stood : Operates besides reads t start history aways ops mid s.clock given now)
    (happened : AreEvents t.sigs (records (lines_between t.lines from to)) (events_of xs)) (routers : (x : Receipt) → Contains xs x → x.hop.router < count t)
    (turns : (r : ℕ) → r < count t → AreRisingTurns way.workers r (open_at (rules_of t) r history) xs)
    (exist : (r : ℕ) → r < count t → (f : Splits) → (e : Entry) → Contains (entries_by r xs) e → e.page.number ≤ open_at (rules_of t) r (filled f ops history))
    (final : (f : Splits) (r : ℕ) (d : A) → r < count t → stands (get_or after r d) (rules_of t r) (with_records (ledger (rules_of t) r (filled f ops history)) (entries_by r xs) (rows_at r xs)) (stood.us r))
    (bits : (f : Splits) (r : ℕ) → r < count t → ArePageBits (rules_of t r) (with_entries (ledger (rules_of t) r (filled f ops history)) (entries_by r xs)) (stood.us r))
    (shown : (f : Splits) (r page : ℕ) (sig : Sig) → reads_at reads mid r page sig → shows (rules_of t r) (with_entries (ledger (rules_of t) r (filled f ops history)) (entries_by r xs)) sig page ≡ true)
    (entries : (r : ℕ) (d : A) → r < count t → way.entries (get_or after r d) ≡ way.entries (get_or before r d) ++ flat_map (λ w. share_of way.workers w r 0 xs) (below way.workers))
    (same : length after ≡ length before)
    (answered : HasAnswers s s' (interleaved (lines_between t.lines from to) (map answer_of (events_of xs)) given))
    (slice : drop from t.lines ≡ lines_between t.lines from to ++ drop to t.lines) where
  abbrev W : ℕ
  W = way.workers

  abbrev lines : List Line
  lines = lines_between t.lines from to

  by : IsBy t.sigs (operations lines) ops
  by = by_events t.sigs (operations lines) ops ops_lines

  abbrev events : List Event
  events = interleaved lines (events_of xs) by.events

  all : IsMerged t.sigs lines (events_of xs) by.events []
  all = merged t.sigs lines (events_of xs) by.events [] happened by.happened

  pub seg : History
  seg = history_by [] lines events

  pub seg_lines : IsHistoryOf t.sigs lines seg
  unfolding seg
  seg_lines = history_of t.sigs lines [] events [] all.events refl

  seg_ops : operated seg ≡ ops
  unfolding seg
  seg_ops = all.others_of ∙ sym by.is

  seg_receipts : receipts seg ≡ xs
  unfolding seg
  seg_receipts = receipts_of t.sigs lines events [] all.events ∙ all.records_of ∙ receipts_back xs

  inner : AreInner seg
  inner = let P : History → Type 0 = λ h. AreInner h in inner_merged seg (subst P (sym seg_ops) stood.ordered.inner)

  abbrev F : Splits → History
  F f = filled f seg history

  abbrev O : Splits → ℕ → Ledger
  O f r = ledger (rules_of t) r (filled f ops history)

  -- the ledger of all
  is_ledger : (f : Splits) (r : ℕ) → ledger (rules_of t) r (F f) ≡ with_records (O f r) (entries_by r xs) (rows_at r xs)
  is_ledger f r =
      ledger_apart (rules_of t) r f history seg inner
      ∙ ap (λ (h : History). with_records (ledger (rules_of t) r (filled f h history)) (entries_by r (receipts seg)) (rows_at r (receipts seg))) seg_ops
      ∙ ap (λ (ys : List Receipt). with_records (O f r) (entries_by r ys) (rows_at r ys)) seg_receipts

  -- ---- what is legal

  -- no receipt is at a router that is not there
  in_there : (r : ℕ) (e : Entry) → Contains (entries_by r xs) e → r < count t
  in_there r e h =
      let piece = from_flat_map (entry_by r) xs e h in
      let x = piece.of in
      let is : x.hop.router ≡ r = eqb-true x.hop.router r (one_of (x.hop.router == r) (record { page = record { number = x.page }; sig = x.hop.sig }) e piece.in_piece) in
      let P : ℕ → Type 0 = λ q. q < count t in subst P is (routers x piece.has)

  legal : (r : ℕ) → IsLegalFor W r (open_at (rules_of t) r history) seg
  legal r =
      let f : Splits = λ q. no_split in
      let T : History → Type 0 = λ h. AreTurns (rules_of t) f history h in
      let C : (x : Receipt) → List Receipt → Type 0 = λ x ys. Contains ys x in
      let in_trace : (x : Receipt) → Contains xs x → x.hop.router ≡ r → r < count t = λ x h is. (let P : ℕ → Type 0 = λ q. q < count t in subst P is (routers x h)) in
      legal_apart (rules_of t) r f history W seg inner (subst T (sym seg_ops) (stood.turns f))
      (λ x h is. let here = subst (C x) seg_receipts h in (turns r (in_trace x here is)).from_floor x here is)
      (λ e h.
      let E : List Receipt → Type 0 = λ ys. Contains (entries_by r ys) e in
      let M : History → Type 0 = λ k. e.page.number ≤ open_at (rules_of t) r (filled f k history) in
      let here = subst E seg_receipts h in
      subst M (sym seg_ops) (exist r (in_there r e here) f e here))
      (λ i j x y l m ei ej rx ry.
      let G : ℕ → Receipt → List Receipt → Type 0 = λ k z ys. slice_get ys k ≡ Some z in
      let fi = subst (G i x) seg_receipts ei in
      let fj = subst (G j y) seg_receipts ej in
      (turns r (in_trace x (got_has xs i x fi) rx)).rising i j x y l m fi fj rx ry)

  -- ---- watches

  between : (f : Splits) → AreSegmentWatches (rules_of t) (F f) (F f)
  between f =
      let T : History → Type 0 = λ h. AreWatchedBy (reads_at reads mid) (rules_of t) f history h in
      segment_between (reads_at reads mid) (rules_of t) f history (F f) old.ordered.barred
      (λ r e h.
      let lists = lists_kept (rules_of t) r f history ops stood.ordered.inner stood.operations_only in
      let P : List Entry → Type 0 = λ es. Contains es e in
      let L : Ledger → Type 0 = λ l. Contains l.account.entries e in
      subst L (sym (is_ledger f r)) (Contains-append_left (O f r).account.entries (entries_by r xs) e (subst P (sym lists.entries) h)))
      (λ r page sig had. let L : Ledger → Type 0 = λ l. shows (rules_of t r) l.account sig page ≡ true in subst L (sym (is_ledger f r)) (shown f r page sig had))
      seg inner (subst T (sym seg_ops) (stood.watched f))

  right : IsRight W t history seg
  right =
      let P : Bool → Type 0 = λ b. AreLinesRight b W t history [] in
      let Q : Bool → Type 0 = λ b. AreLinesRight b W t history seg in
      let were : IsRightTogether W t history [] = subst P (not_one W many) old.right.lines in
      let now_right : IsRightTogether W t history seg = record { legal = were.legal; between = were.between; seg_legal = legal; seg_between = between } in
      record {
        lines = subst Q (sym (not_one W many)) now_right;
        allowed_before = old.right.allowed_before;
        allowed = λ f hyp.
            let A : History → Type 0 = λ h. IsAllowed (count t) (rules_of t) (filled f h history) in
            let S : History → Type 0 = λ h. AreSplits t f (filled f h history) in
            allowed_apart (count t) (rules_of t) f history seg inner (subst A (sym seg_ops) (stood.allowed f (subst S seg_ops (splits_apart t f seg history inner hyp))));
        same_digests = old.right.same_digests;
        read = old.right.read;
      }

  -- ---- the shelf

  entered_from : (r : ℕ) → r < count t → (e : Entry) → Contains (entries_by r xs) e → open_at (rules_of t) r history ≤ e.page.number
  entered_from r l e h =
      let piece = from_flat_map (entry_by r) xs e h in
      let x = piece.of in
      let entry : Entry = record { page = record { number = x.page }; sig = x.hop.sig } in
      let test = one_of (x.hop.router == r) entry e piece.in_piece in
      let least = (turns r l).from_floor x piece.has (eqb-true x.hop.router r test) in
      let same_page : x.page ≡ e.page.number = ap (λ (y : Entry). y.page.number) (one_is (x.hop.router == r) entry e piece.in_piece) in
      omega (arith, least, same_page)

  rows_from : (r : ℕ) → r < count t → (y : RowIn) → Contains (rows_at r xs) y → open_at (rules_of t) r history ≤ y.page
  rows_from r l y h =
      let piece = from_flat_map (row_by r) xs y h in
      let x = piece.of in
      let both = row_is (x.hop.router == r) x y piece.in_piece in
      let least = (turns r l).from_floor x piece.has (eqb-true x.hop.router r both.0) in
      let same_page = both.1 in
      omega (arith, least, same_page)

  held : start.tells ≡ true → (f : Splits) (r : ℕ) → r < count t → IsHeld (rules_of t r) now.contents (ledger (rules_of t) r (F f)) (stood.us r)
  held tells f r l =
      let so_far = stood.shelf.holds tells f r l in
      let P : Ledger → Type 0 = λ k. IsHeld (rules_of t r) now.contents k (stood.us r) in
      let from_page = open_at (rules_of t) r history in
      let U : History → Type 0 = λ k. (page : ℕ) → Contains (puts r k) page → page < from_page in
      let closed : (page : ℕ) → Contains (O f r).put_before page → page < from_page =
      subst U (sym (up_filled f ops history stood.ordered.inner stood.ordered.barred)) (closed_history (count t) (rules_of t) r history old.right.allowed_before) in
      subst P (sym (is_ledger f r)) (record {
        records = holds_apart (rules_of t r) (O f r) (entries_by r xs) (rows_at r xs) from_page (entered_from r l) (rows_from r l) now.contents closed so_far.records;
        bits = so_far.bits;
        true_bits = bits f r l;
      })

  once_all : AreOnce (count t) seg
  once_all = let O1 : History → Type 0 = λ h. AreOnce (count t) h in once_merged (count t) seg (subst O1 (sym seg_ops) stood.ordered.once)

  -- the operator's moments have all archivals of the segment
  covers_same : (f : Splits) (r : ℕ) → covers r (filled f ops history) ≡ covers r (F f)
  covers_same f r =
      covers_filled (count t) r f ops history stood.ordered.inner stood.ordered.once
      ∙ ap (λ (rs : List ℕ). cond (is_archived rs r) ((f r).put ++ (f r).kept) [] ++ covers r history) (ap (λ (h : History). archived_in h) (sym seg_ops) ∙ archived_operated seg)
      ∙ sym (covers_filled (count t) r f seg history inner once_all)

  kept : IsKeptOn t history seg stood.us start now
  kept = record {
    later = stood.shelf.later;
    still = stood.shelf.still;
    paid = stood.shelf.paid;
    during = stood.shelf.during;
    all_true = old.shelf.all_true;
    only_faults = old.shelf.only_faults;
    holds = held;
    untouched = λ tells f hyp name apart.
        let S : History → Type 0 = λ h. AreSplits t f (filled f h history) in
        let r : ℕ = name.router.number in
        let P : List ℕ → Type 0 = λ pages. Contains pages name.page.number in
        stood.shelf.untouched tells f (subst S seg_ops (splits_apart t f seg history inner hyp)) name (λ is. apart (record { router = is.router; page = subst P (covers_same f r) is.page }));
  }

  -- ---- the answers

  none_before : s.answers.items ≡ []
  none_before = none_waiting t history [] s old.reported refl

  early_before : old.reported.early ≡ []
  early_before = none_early t history [] s old.reported refl

  first_before : s.first ≡ from
  first_before =
      let a = old.reported.first_is in let b = ap (λ (xs : List Pending). length xs) early_before in let c = fit.begins in omega (arith, a, b, c)

  pending : numbered t.lines s'.first s'.answers.items ≡ pending_of seg
  unfolding seg
  pending =
      let N : ℕ → List Answer → List Pending = numbered t.lines in
      let X = interleaved lines (map answer_of (events_of xs)) in
      let is_given : given ≡ map answer_of by.events = stood.answers_are ∙ by.answers in
      ap (λ k. N k s'.answers.items) (answered.first ∙ first_before)
      ∙ ap (N from) (answered.answers_are ∙ ap (λ (ys : List Answer). ys ++ X given) none_before ∙ ap X is_given ∙ sym (map_merged answer_of lines (events_of xs) by.events))
      ∙ sym (pending_by t.lines lines (drop to t.lines) from events t.sigs [] all.events slice)

  -- ---- all of it

  pub stands_together : Stands way stands t start history seg after s' now
  stands_together =
      let E = old.reported.early in
      let P : List ℕ → Type 0 = λ report. IsPrinted t history E report s.totals in
      let Q : Totals → Type 0 = λ totals. IsPrinted t history E s'.report.items totals in
      let C : ℕ → Type 0 = λ c. c < 2 ^ 48 in
      record {
        count_is = same ∙ old.count_is;
        clock_is = answered.clock ∙ old.clock_is;
        clock_fits = subst C (sym answered.clock) old.clock_fits;
        us = stood.us;
        us_none = λ r e. stood.us_none r (ap (λ (h : History). is_archived (archived_in h) r) (sym seg_ops) ∙ ap (λ (rs : List ℕ). is_archived rs r) (archived_operated seg) ∙ e);
        us_closed = λ f r x h. let L : Ledger → Type 0 = λ l. x.page < length l.account.closings in subst L (sym (is_ledger f r)) (stood.us_closed f r x h);
        agents_stand = λ f. record {
          each = λ r d l.
              let l0 : r < count t = (let a = same in let b = old.count_is in omega (arith, l, a, b)) in
              let L : Ledger → Type 0 = λ k. stands (get_or after r d) (rules_of t r) k (stood.us r) in
              subst L (sym (is_ledger f r)) (final f r d l0);
          numbered = λ r. account_router (rules_of t) r (F f);
        };
        gathered_are = λ r d l.
            entries r d l ∙ ap (λ (es : List Entry). es ++ flat_map (λ w. share_of W w r 0 xs) (below W)) (old.gathered_are r d l ∙ ap (λ (es : List Entry). gathered W r history ++ es) (worked_none W r) ∙ append-nil (gathered W r history))
            ∙ ap (λ (ys : List Receipt). gathered W r history ++ flat_map (λ w. share_of W w r 0 ys) (below W)) (sym seg_receipts);
        ordered = record {
          inner = inner;
          once = once_all;
          barred = old.ordered.barred;
          forward = old.ordered.forward;
        };
        right = right;
        reported = record {
          early = E;
          first_is = answered.first ∙ old.reported.first_is;
          pending_is = ap (λ (xs : List Pending). xs ++ numbered t.lines s'.first s'.answers.items) early_before ∙ pending;
          printed = subst Q (sym answered.totals) (subst P (sym answered.report) old.reported.printed);
        };
        shelf = kept;
      }
