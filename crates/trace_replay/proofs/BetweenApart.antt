-- Watches beside workers: each is answered between its segment's start and its end.
use Rattle.std.proofs.Common.{ℕ, ◌≡◌, ◌∷◌, [], ◌∙◌, ⊎_elim, ◌⊎◌, Bool, true, false, cond, not, ◌&&◌, ◌==◌, List, sym, refl, subst}
use Rattle.std.specs.List.{Contains}
use Rattle.std.proofs.lemmas.Bool.{false≢true}
use Rattle.spie_base.proofs.Booleans.{both_hold}
use Rattle.spie_base.specs.declared.Entry.{Entry}
use Rattle.spie_base.specs.declared.Rules.{Rules}
use Rattle.spie_base.specs.declared.Sig.{Sig}
use Rattle.router_account.specs.declared.Watch.{Watch}
use Rattle.router_account.specs.declared.Watch.TheVariants.{Seen, NotSeen, Unknown}
use Rattle.router_account.specs.Account.{Account, RowIn, window, with_closing}
use Rattle.router_account.specs.Ledger.{Ledger}
use Rattle.router_account.specs.Watches.{is_missing_now, shows, is_shown, IsBetween}
use Rattle.trace_history.specs.History.{Event, recorded, rotated, archived, watched, ticked, queried, ended, History, account, clock}
use Rattle.trace_history.specs.Ledgers.{ledger}
use Rattle.trace_history.specs.Receipts.{is_barrier, receipts, up_to_barrier}
use Rattle.trace_history.specs.Routers.{RouterRules}
use Rattle.trace_history.specs.Watched.{IsBetweenWatch, AreSegmentWatches}
use Rattle.trace_history.proofs.Recorded.{any_true}
use Rattle.trace_history.proofs.Sequential.{account_router}
use Rattle.trace_replay.specs.Segments.{Splits, filled, AreInner, IsBarred}
use Rattle.trace_replay.specs.Operated.{is_record, operated, with_records, AreOperations, IsAnsweredBy, AreWatchedBy, rows_at}
use Rattle.trace_replay.proofs.Filled.{moment_of, clock_filled, up_filled}
use Rattle.trace_replay.proofs.Apart.{ledger_apart, inner_operated}
use Rattle.trace_replay.proofs.ShownMore.{shows_more, shown_same}
use Rattle.trace_workers.specs.Records.{entries_by}

no_barrier : {X : Type 0} → true ≡ false → X
no_barrier e = absurd (false≢true (sym e))

-- ---- the operator's moments record nothing

operations_by : (e : Event) (line : ℕ) (seg : History) → AreOperations (operated seg) → AreOperations (operated (moment_of line e ∷ seg))
operations_by (recorded hop page) line seg a = a
operations_by (rotated r page) line seg a = (a, refl)
operations_by (archived r put kept) line seg a = (a, refl)
operations_by (watched r sig w) line seg a = (a, refl)
operations_by (ticked time left) line seg a = (a, refl)
operations_by (queried query left) line seg a = (a, refl)
operations_by (ended left) line seg a = (a, refl)

pub operations_operated : (seg : History) → AreOperations (operated seg)
operations_operated [] = tt
operations_operated (moment ∷ seg) = operations_by moment.event moment.line seg (operations_operated seg)

-- entries and rows as they were
pub record HasLists (a b : Account) : Type 0 where
  pub entries : a.entries ≡ b.entries
  pub rows : a.rows ≡ b.rows

closing_lists : (b : Bool) (a c : Account) (time : ℕ) → HasLists a c → HasLists (cond b (with_closing a time) a) c
closing_lists true a c time h = record { entries = h.entries; rows = h.rows }
closing_lists false a c time h = h

module _ (rules : RouterRules) (r : ℕ) (f : Splits) (h : History) where
  lists_by : (e : Event) (line : ℕ) (ops : History) → is_barrier e ≡ false → is_record e ≡ false → HasLists (account rules r (filled f ops h)) (account rules r h)
      → HasLists (account rules r (filled f (moment_of line e ∷ ops) h)) (account rules r h)
  lists_by (recorded hop page) line ops b o ih = no_barrier o
  lists_by (rotated q page) line ops b o ih =
      closing_lists (q == (account rules r (filled f ops h)).router) (account rules r (filled f ops h)) (account rules r h) (clock (filled f ops h)) ih
  lists_by (archived q put kept) line ops b o ih = ih
  lists_by (watched q sig w) line ops b o ih = ih
  lists_by (ticked time left) line ops b o ih = no_barrier b
  lists_by (queried query left) line ops b o ih = no_barrier b
  lists_by (ended left) line ops b o ih = no_barrier b

  pub lists_kept : (ops : History) → AreInner ops → AreOperations ops → HasLists (account rules r (filled f ops h)) (account rules r h)
  lists_kept [] i o = record { entries = refl; rows = refl }
  lists_kept (moment ∷ ops) i o = lists_by moment.event moment.line ops i.1 o.1 (lists_kept ops i.0 o.0)

-- ---- one watch

-- what a watch looks at beside entries stays where records come
between_more : (rules : Rules) (l : Ledger) (es : List Entry) (rs : List RowIn) (start end : Account) (clock : ℕ) (sig : Sig) (w : Watch)
    → IsBetween rules l start end clock sig w → IsBetween rules (with_records l es rs) start end clock sig w
between_more rules l es rs start end clock sig Seen h = h
between_more rules l es rs start end clock sig Unknown h = h
between_more rules l es rs start end clock sig NotSeen h = h

not_of : (b : Bool) → b ≡ false → not b ≡ true
not_of true e = no_barrier e
not_of false e = refl

-- what was shown, or read as shown, is shown at the end
module _ (reads : (page : ℕ) → Sig → Type 0) (rules : Rules) (l : Ledger) (start end : Account) (clock : ℕ) (sig : Sig)
    (start_router : start.router ≡ l.account.router) (start_entries : start.entries ≡ l.account.entries)
    (end_router : l.account.router ≡ end.router) (grown : (e : Entry) → Contains l.account.entries e → Contains end.entries e)
    (reads_shown : (page : ℕ) → reads page sig → shows rules end sig page ≡ true) where
  at_end : (page : ℕ) → (shows rules l.account sig page ≡ true) ⊎ reads page sig → shows rules end sig page ≡ true
  at_end page s = ⊎_elim (λ (a : shows rules l.account sig page ≡ true). shows_more rules l.account end sig page end_router grown a) (λ (b : reads page sig). reads_shown page b) s

  at_start : is_shown rules l l.account clock sig ≡ false → is_shown rules l start clock sig ≡ false
  at_start h = shown_same rules l start l.account clock sig start_router start_entries ∙ h

  pub between_by : (w : Watch) → IsAnsweredBy reads rules l clock sig w → IsBetween rules l start end clock sig w
  between_by Seen (page, there, live, shown) =
      any_true (λ (p : ℕ). not (is_missing_now rules l p) && shows rules end sig p) (window rules l.account clock) page there
      (both_hold (not (is_missing_now rules l page)) (shows rules end sig page) (not_of (is_missing_now rules l page) live) (at_end page shown))
  between_by Unknown (missing, none) = (missing, at_start none)
  between_by NotSeen (missing, none) = (missing, at_start none)

-- ---- all of a segment

module _ (reads : (router page : ℕ) → Sig → Type 0) (rules : RouterRules) (f : Splits) (h end : History) (barred : IsBarred h)
    (grown : (r : ℕ) (e : Entry) → Contains (account rules r h).entries e → Contains (account rules r end).entries e)
    (reads_shown : (r page : ℕ) (sig : Sig) → reads r page sig → shows (rules r) (account rules r end) sig page ≡ true) where
  abbrev F : History → History
  F seg = filled f seg h

  abbrev O : History → History
  O seg = filled f (operated seg) h

  watch_by : (r : ℕ) (sig : Sig) (w : Watch) (seg : History) → AreInner seg → AreInner (operated seg)
      → IsAnsweredBy (reads r) (rules r) (ledger rules r (O seg)) (clock h) sig w → IsBetweenWatch rules end (F seg) (watched r sig w)
  watch_by r sig w seg i j told =
      let o = ledger rules r (O seg) in
      let lists = lists_kept rules r f h (operated seg) j (operations_operated seg) in
      let es = entries_by r (receipts seg) in
      let rs = rows_at r (receipts seg) in
      let start = account rules r h in
      let last = account rules r end in
      let G : List Entry → Type 0 = λ xs. (e : Entry) → Contains xs e → Contains last.entries e in
      let P : Ledger → Type 0 = λ l. IsBetween (rules r) l start last (clock h) sig w in
      let S : History → Type 0 = λ k. IsBetween (rules r) (ledger rules r (F seg)) (account rules r k) last (clock h) sig w in
      let C : ℕ → Type 0 = λ c. IsBetween (rules r) (ledger rules r (F seg)) (account rules r (up_to_barrier (F seg))) last c sig w in
      let at = between_by (reads r) (rules r) o start last (clock h) sig
      (account_router rules r h ∙ sym (account_router rules r (O seg))) (sym lists.entries)
      (account_router rules r (O seg) ∙ sym (account_router rules r end)) (subst G (sym lists.entries) (grown r))
      (λ page. reads_shown r page sig) w told in
      subst C (sym (clock_filled f seg h i)) (subst S (sym (up_filled f seg h i barred)) (subst P (sym (ledger_apart rules r f h seg i)) (between_more (rules r) o es rs start last (clock h) sig w at)))

  none_barred : (k : History) → IsBarred k → AreSegmentWatches rules end k
  none_barred [] b = tt
  none_barred (moment ∷ k) b = λ inner. no_barrier (sym b ∙ inner)

  segment_by : (e : Event) (line : ℕ) (seg : History) → AreInner (moment_of line e ∷ seg) → AreInner (operated seg) → (AreWatchedBy reads rules f h (operated seg) → AreSegmentWatches rules end (F seg))
      → AreWatchedBy reads rules f h (operated (moment_of line e ∷ seg)) → AreSegmentWatches rules end (F (moment_of line e ∷ seg))
  segment_by (recorded hop page) line seg i j ih told = λ inner. (tt, ih told)
  segment_by (rotated q page) line seg i j ih told = λ inner. (tt, ih told.0)
  segment_by (archived q put kept) line seg i j ih told = λ inner. (tt, ih told.0)
  segment_by (watched q sig w) line seg i j ih told = λ inner. (watch_by q sig w seg i.0 j told.1, ih told.0)
  segment_by (ticked time left) line seg i j ih told = no_barrier i.1
  segment_by (queried query left) line seg i j ih told = no_barrier i.1
  segment_by (ended left) line seg i j ih told = no_barrier i.1

  pub segment_between : (seg : History) → AreInner seg → AreWatchedBy reads rules f h (operated seg) → AreSegmentWatches rules end (F seg)
  segment_between [] i told = none_barred h barred
  segment_between (moment ∷ seg) i told = segment_by moment.event moment.line seg i (inner_operated seg i.0) (segment_between seg i.0) told
