-- What is stood for behind a barrier.
use Rattle.std.proofs.Common.{ℕ, ◌≡◌, ◌≤◌, ◌<◌, ◌+◌, ◌-◌, ◌^◌, ◌∷◌, [], ◌++◌, ◌∙◌, ⊎_elim, Bool, true, false, ◌==◌, List, length, map, get_or, sym, ap, refl, subst, arith, append-nil, length-append}
use Rattle.std.specs.Prelude.{Option, option_map}
use Rattle.std.specs.List.{Contains, All, flat_map}
use Rattle.std.proofs.lemmas.List.{map-append}
use Rattle.std.proofs.lemmas.List.Elements.{Contains-append_right, Contains-push_cases}
use Rattle.std.proofs.lemmas.Grind.{flat_map-append}
use Rattle.spie_base.specs.Causes.{RoseBy}
use Rattle.spie_base.proofs.Membership.{has_none, from_map}
use Rattle.page_shelf.specs.Shelves.{IsSame}
use Rattle.report_text.specs.declared.Item.{Item}
use Rattle.report_text.specs.declared.Item.TheVariants as item
use Rattle.trace_format.specs.declared.Line.{Line}
use Rattle.trace_format.specs.declared.Trace.{Trace}
use Rattle.trace_format.specs.declared.What.{What}
use Rattle.trace_format.specs.declared.What.TheVariants as what
use Rattle.trace_format.specs.Sound.{FitsClock, HasTime}
use Rattle.router_account.specs.Barriers.{AreLeft, IsSplitWhere, closing_at}
use Rattle.router_account.specs.Ledger.{Ledger, Unfinished, no_split, nothing_unfinished}
use Rattle.router_account.specs.Records.{Holds}
use Rattle.router_account.specs.Shelves.{ShelfView}
use Rattle.data_agent.specs.declared.Barrier.{Barrier}
use Rattle.data_agent.specs.Calls.{closing_of, marks_of}
use Rattle.trace_history.specs.declared.Totals.{Totals}
use Rattle.trace_history.specs.History.{Event, recorded, rotated, archived, watched, ticked, queried, ended, Moment, History, IsEventOf, clock}
use Rattle.trace_history.specs.Ledgers.{covers, ledger}
use Rattle.trace_history.specs.Outcomes.{IsAllowedEvent, AreAllLeft, IfQuery, HasSameDigests, IsReadQuery, IsReadDuring, IsTrueQuery, HasOnlyFaults, fault_marks, fault_marks_by}
use Rattle.trace_history.specs.Receipts.{is_barrier, IsInTurn}
use Rattle.trace_history.specs.Report.{AreItems, text_of, closing_items, closed_items, left_items}
use Rattle.trace_history.specs.Routers.{count, rules_of, routers, sum_over}
use Rattle.trace_history.specs.Watched.{IsSequentialWatch}
use Rattle.trace_history.proofs.Sequential.{account_router}
use Rattle.trace_replay.specs.declared.state.State.{State}
use Rattle.trace_replay.specs.declared.state.Answer.{Answer}
use Rattle.trace_replay.specs.Agents.{Standing, PassesAll, IsPassedAt, IsReady, barrier_at, passed_by}
use Rattle.trace_replay.specs.Barriers.{PrintsPending, Prints, closed_of, tick_items, end_items}
use Rattle.trace_replay.specs.Printing.{splits_of, lefts_of, IsAnswerNamed}
use Rattle.trace_replay.specs.Segments.{Splits, filled, AreOnce, IsFirst, IsForward, archived_in, answer_of, Pending, numbered, pending_of, pending_items}
use Rattle.trace_replay.specs.Yards.{AllKeepEntries}
use Rattle.trace_replay.specs.Standing.{Way, Stands, IsNext, AreFew, IsPrinted, IsRight, IsKeptOn, AreSplits, pending_at}
use Rattle.trace_replay.proofs.Answered.{right_closed}
use Rattle.trace_replay.proofs.Gathering.{gathered_closed}
use Rattle.trace_replay.proofs.Filled.{moment_of, clock_filled, forward_filled, length_filled, up_filled}
use Rattle.trace_replay.proofs.Inner.{late_by, room_at, stands_at}
use Rattle.trace_replay.proofs.Numbered.{answers_back}
use Rattle.trace_replay.proofs.Named.{all_of}
use Rattle.trace_replay.proofs.During.{during_later}
use Rattle.trace_replay.proofs.Passed.{ledger_ticked, ledger_ended, items_filled, each_filled, marks_filled}
use Rattle.trace_replay.proofs.Passing.{holds_same}
use Rattle.trace_replay.proofs.Reported.{answered_length, few_longer, text_whole}
use Rattle.trace_replay.proofs.Quiet.{AreQuiet, quiet_append, quiet_cons, quiet_flat_map, quiet_pending, quiet_left, quiet_closing, totals_quiet}
use Rattle.trace_history.proofs.RouterLists.{flat_map_same}
use Rattle.trace_replay.proofs.Touched.{covered_more}
use Rattle.trace_replay.proofs.Sums.{rose_add, rose_less, sum_none, sum_less, sum_add, some_of}

-- ---- before the barrier

named_by : (n line : ℕ) (e : Event) (earlier : List ℕ) → IsFirst n e earlier → IsAnswerNamed n (answer_of e)
named_by n line (recorded hop page) earlier f = tt
named_by n line (rotated r page) earlier f = tt
named_by n line (archived r put kept) earlier f = f.1
named_by n line (watched r sig a) earlier f = tt
named_by n line (ticked time left) earlier f = tt
named_by n line (queried query left) earlier f = tt
named_by n line (ended left) earlier f = tt

named_each : (n : ℕ) (seg : History) → AreOnce n seg → (x : Pending) → Contains (pending_of seg) x → IsAnswerNamed n x.answer
named_each n [] o x h = absurd (has_none x h)
named_each n (moment ∷ seg) o x h =
    ⊎_elim (λ (a : Contains (pending_of seg) x). named_each n seg o.0 x a)
    (λ e. let P : Pending → Type 0 = λ y. IsAnswerNamed n y.answer in subst P e (named_by n moment.line moment.event (archived_in seg) o.1))
    (Contains-push_cases (pending_of seg) (record { line = moment.line; answer = answer_of moment.event }) x h)

module _ {A : Type 0} (way : Way A) (stands : Standing A) (t : Trace) (line : Line) (agents : List A) (s : State) (now : ShelfView) (ready : IsNext way stands t line agents s now) where
  pub answers_there : s.first + length s.answers.items < length t.lines
  answers_there =
      let a = ready.3.reported.first_is in
      let b = answered_length t ready.1 ready.2 s ready.3.reported in
      let c = ready.4.there in omega (arith, a, b, c)

  pub first_fits : s.first < 2 ^ 63
  first_fits =
      let a = ready.3.reported.first_is in
      let b = answered_length t ready.1 ready.2 s ready.3.reported in
      let c = ready.4.few in omega (arith, a, b, c)

  pub answers_named : All (IsAnswerNamed (count t)) s.answers.items
  answers_named = all_of (IsAnswerNamed (count t)) s.answers.items
      (λ a h.
      let A : List Answer → Type 0 = λ xs. Contains xs a in
      let S : List Pending → Type 0 = λ xs. Contains (map (λ (x : Pending). x.answer) xs) a in
      let r = ready.3.reported in
      let waiting = pending_at t s in
      let in_waiting = subst A (sym (answers_back t.lines s.first s.answers.items)) h in
      let in_all = subst A (sym (map-append (λ (x : Pending). x.answer) r.early waiting)) (Contains-append_right (map (λ (x : Pending). x.answer) r.early) (map (λ (x : Pending). x.answer) waiting) a in_waiting) in
      let in_pending = subst S r.pending_is in_all in
      let image = from_map (λ (x : Pending). x.answer) (pending_of ready.2) a in_pending in
      let N : Answer → Type 0 = λ y. IsAnswerNamed (count t) y in
      subst N image.is (named_each (count t) ready.2 ready.3.ordered.once image.of image.has))

  pub agents_ready : (time : ℕ) (tick : Bool) → s.clock ≤ time → time < 2 ^ 48 → All (IsReady stands time tick) agents
  agents_ready time tick up fits k d l =
      let f : Splits = λ q. no_split in
      let l0 : k < count t = let P : ℕ → Type 0 = λ n. k < n in subst P ready.3.count_is l in (
        rules_of t k,
        ledger (rules_of t) k (filled f ready.2 ready.1),
        ready.3.us k,
        stands_at way stands t ready.0 ready.1 ready.2 agents s s now now ready.3 f k d l0,
        late_by way stands t ready.0 ready.1 ready.2 agents s s now now ready.3 f k time up fits,
        (λ ticks. room_at way stands t ready.0 ready.1 ready.2 agents s s now now ready.3 f k line ready.4),
      )

-- ---- behind it

module _ {A : Type 0} (way : Way A) (stands : Standing A) (t : Trace) (start : ShelfView) (history seg : History) (agents after : List A) (s : State) (was now : ShelfView)
    (old : Stands way stands t start history seg agents s was)
    (time : ℕ) (tick : Bool) (barriers : List Barrier) (all : PassesAll stands time tick agents after barriers was now) where
  abbrev f : Splits
  f = splits_of barriers

  abbrev F : History
  F = filled f seg history

  -- what the agents stand for before the barrier
  abbrev before_of : ℕ → Ledger
  before_of r = ledger (rules_of t) r F

  pub in_agents : (r : ℕ) → r < count t → r < length agents
  in_agents r l = subst (λ (n : ℕ). r < n) (sym old.count_is) l

  pub at : (r : ℕ) (d : A) → r < count t → IsPassedAt stands (rules_of t r) time tick (before_of r) (barrier_at barriers r) (get_or after r d)
  at r d l = all.done (rules_of t) before_of old.us (old.agents_stand f) r d (in_agents r l)

  pub here : (r : ℕ) (l : r < count t) → IsPassedAt stands (rules_of t r) time tick (before_of r) (barrier_at barriers r) (get_or after r (some_of agents r (in_agents r l)))
  here r l = at r (some_of agents r (in_agents r l)) l

  abbrev lefts : ℕ
  lefts = sum_over (count t) (λ r. length (lefts_of barriers r))

  -- each mark of the segment's archivals and of what the barriers left has a failed call of its own
  pub barrier_paid : RoseBy (fault_marks (count t) F + lefts) start.faults now.faults
  barrier_paid =
      let n = count t in
      let refused = λ (r : ℕ). (old.us r).refused in
      let owed = sum_over n (λ r. marks_of (barrier_at barriers r) - refused r) in
      let had = sum_over n refused in
      let kept = sum_over n (λ r. length (f r).kept) in
      let P : ℕ → Type 0 = λ k. RoseBy (sum_over k (λ r. marks_of (barrier_at barriers r) - refused r)) was.faults now.faults in
      let rose : RoseBy owed was.faults now.faults = subst P old.count_is (all.paid (rules_of t) before_of old.us (old.agents_stand f)) in
      let a = marks_filled n f seg history old.ordered.inner old.ordered.once in
      let b : sum_over n (λ r. marks_of (barrier_at barriers r)) ≡ kept + lefts = sum_add n (λ r. length (f r).kept) (λ r. length (lefts_of barriers r)) in
      let c = sum_less n (λ r. marks_of (barrier_at barriers r)) (λ r. refused r + (marks_of (barrier_at barriers r) - refused r)) (λ r l. omega arith) in
      let e = sum_add n refused (λ r. marks_of (barrier_at barriers r) - refused r) in
      rose_less ((fault_marks n history + had) + owed) (fault_marks n F + lefts) start.faults now.faults
      (rose_add (fault_marks n history + had) owed start.faults was.faults now.faults old.shelf.paid rose) (omega (arith, a, b, c, e))

  -- the archivals split by what they cover
  splits_ok : AreSplits t f F
  splits_ok r closings l came =
      let P : Option (List ℕ) → Type 0 = λ o. IsSplitWhere (rules_of t r) (before_of r) o (f r) in
      subst P came (here r l).told.split

  -- what the shelf holds behind the barrier
  pub held_now : was.tells ≡ true → start.tells ≡ true → (r : ℕ) → r < count t → Holds (rules_of t r) now.contents (passed_by (rules_of t) time tick barriers before_of r)
  held_now told tells r l = all.holds told (rules_of t) before_of old.us (old.agents_stand f) (λ q m. old.shelf.holds tells f q (subst (λ (n : ℕ). q < n) old.count_is m)) r (in_agents r l)

  module _ (line : ℕ) (event : Event) (is_b : is_barrier event ≡ true)
      (link : (r : ℕ) → r < count t → ledger (rules_of t) r (moment_of line event ∷ F) ≡ passed_by (rules_of t) time tick barriers before_of r) where
    abbrev G : History
    G = moment_of line event ∷ F

    pub left_ok : AreAllLeft (count t) (rules_of t) F G (lefts_of barriers)
    left_ok r l =
        let P : Ledger → Type 0 = λ x. AreLeft (rules_of t r) (before_of r) x (lefts_of barriers r) in
        subst P (sym (link r l)) (here r l).told.left

    -- the events up to the barrier are right
    pub right_behind : IsInTurn (rules_of t) F event → IsSequentialWatch (rules_of t) F event
        → IsAllowedEvent (count t) (rules_of t) F G event → IfQuery (HasSameDigests (count t) (rules_of t)) G event
        → IfQuery (IsReadQuery (count t) (rules_of t)) G event → IsRight way.workers t G []
    right_behind turn watch allowed digest read = record {
      lines = right_closed (way.workers == 1) way.workers t line event f seg history is_b old.ordered.inner old.ordered.barred turn watch old.right.lines;
      allowed_before = (old.right.allowed f splits_ok, allowed);
      allowed = λ f' hyp. (old.right.allowed f splits_ok, allowed);
      same_digests = (each_filled (HasSameDigests (count t) (rules_of t)) f seg history old.ordered.inner old.right.same_digests, digest);
      read = (each_filled (IsReadQuery (count t) (rules_of t)) f seg history old.ordered.inner old.right.read, read);
    }

    abbrev none_left : ℕ → Unfinished
    none_left r = nothing_unfinished

    -- what the shelf came to, which may have been asked further
    pub shelf_behind : (end : ShelfView)
        → now.faults ≤ end.faults → end.tells ≡ now.tells → (now.tells ≡ true → IsSame now.contents end.contents)
        → RoseBy (fault_marks (count t) F + fault_marks_by (count t) event) start.faults end.faults
        → (start.tells ≡ true → IfQuery (IsTrueQuery (count t) (rules_of t)) G event) → (start.tells ≡ true → IfQuery (HasOnlyFaults (count t)) G event)
        → IfQuery (λ h query. IsReadDuring (count t) start end query) G event
        → IsKeptOn t G [] none_left start end
    shelf_behind end later still same paid all_true only_faults during = record {
      later = let a = old.shelf.later in let b = all.later in omega (arith, a, b, later);
      still = still ∙ all.still ∙ old.shelf.still;
      paid = let z = sum_none (count t) in rose_less (fault_marks (count t) F + fault_marks_by (count t) event) ((fault_marks (count t) F + fault_marks_by (count t) event) + sum_over (count t) (λ r. 0)) start.faults end.faults paid (omega (arith, z));
      during = (each_filled (λ h query. IsReadDuring (count t) start end query) f seg history old.ordered.inner (during_later (count t) start was end (let a = all.later in omega (arith, a, later)) history old.shelf.during), during);
      all_true = λ tells. (each_filled (IsTrueQuery (count t) (rules_of t)) f seg history old.ordered.inner (old.shelf.all_true tells), all_true tells);
      only_faults = λ tells. (each_filled (HasOnlyFaults (count t)) f seg history old.ordered.inner (old.shelf.only_faults tells), only_faults tells);
      holds = λ tells f' r l.
          let told : was.tells ≡ true = old.shelf.still ∙ tells in
          let P : Ledger → Type 0 = λ x. Holds (rules_of t r) end.contents x in
          record {
            records = subst P (sym (link r l)) (holds_same (rules_of t r) now.contents end.contents (passed_by (rules_of t) time tick barriers before_of r) (same (all.still ∙ told)) (held_now told tells r l));
            bits = λ x h. absurd (has_none x h);
            true_bits = λ x h. absurd (has_none x h);
          };
      untouched = λ tells f' hyp name apart.
          let told : was.tells ≡ true = old.shelf.still ∙ tells in
          let r : ℕ = name.router.number in
          let N : ℕ → Type 0 = λ n. r < n in
          let P : List ℕ → Type 0 = λ pages. Contains pages name.page.number in
          same (all.still ∙ told) name
          ∙ all.untouched told (rules_of t) before_of old.us (old.agents_stand f) name
          (λ is.
          let l : r < count t = subst N old.count_is is.router in
          apart (record { router = l; page = subst P (ap (λ (x : Ledger). x.covered_before) (sym (link r l)) ∙ ap (λ (h : History). covers r h) (up_filled f [] G tt is_b)) is.page }))
          ∙ old.shelf.untouched tells f splits_ok name (λ is. apart (covered_more (count t) line event F name is));
    }

    -- the agents and the shelf may have been asked further, and stand for the same
    pub stands_closed : (new : State) (end : ShelfView)
        → new.clock ≡ clock G → new.clock < 2 ^ 48 → new.first ≡ length G → new.answers.items ≡ [] → IsForward event (clock F)
        → AllKeepEntries way.entries agents after → IsRight way.workers t G [] → IsPrinted t G [] new.report.items new.totals → IsKeptOn t G [] none_left start end
        → Stands way stands t start G [] after new end
    stands_closed new end clock_is clock_fits first_is none forward keep right printed shelf =
        let count_is : length after ≡ count t = all.same ∙ old.count_is in
        record {
          count_is = count_is;
          clock_is = clock_is;
          clock_fits = clock_fits;
          us = none_left;
          us_none = λ r none. refl;
          us_closed = λ f' r x h. absurd (has_none x h);
          agents_stand = λ f'. record {
            each = λ r d l.
                let l0 : r < count t = subst (λ (n : ℕ). r < n) count_is l in
                let P : Ledger → Type 0 = λ x. stands (get_or after r d) (rules_of t r) x nothing_unfinished in
                subst P (sym (link r l0)) (at r d l0).stands_now;
            numbered = λ r. account_router (rules_of t) r G;
          };
          gathered_are = λ r d l.
              let l0 = in_agents r l in
              keep.same r d l0 ∙ old.gathered_are r d l ∙ sym (gathered_closed way.workers r line event f seg history is_b old.ordered.inner old.ordered.barred);
          ordered = record { inner = tt; once = tt; barred = is_b; forward = (forward_filled f seg history old.ordered.inner old.ordered.forward, forward) };
          right = right;
          reported = record { early = []; first_is = omega (arith, first_is); pending_is = ap (λ (xs : List Answer). numbered t.lines new.first xs) none; printed = printed };
          shelf = shelf;
        }

  -- the next segment begins behind the barrier
  pub first_behind : (last : Moment) (mid new : State) → PrintsPending t barriers s mid → new.first ≡ mid.first → new.first ≡ length (last ∷ F)
  first_behind last mid new pends same =
      let a = old.reported.first_is in
      let b = answered_length t history seg s old.reported in
      let c = pends.first in
      let e = length_filled f seg history in omega (arith, a, b, c, e, same)

  -- the report with the answers of the segment and the items of its barrier
  pub printed_more : (line : ℕ) (event : Event) (mid new : State) (items : List Item) (time' : ℕ) → PrintsPending t barriers s mid → Prints t items time' mid new
      → AreItems t F (moment_of line event ∷ F) line event items → AreQuiet items → IsPrinted t (moment_of line event ∷ F) [] new.report.items new.totals
  printed_more line event mid new items time' pends prints are quiet =
      let r = old.reported in
      let p = r.printed in
      let text = text_of t in
      let waits = pending_items f (pending_of seg) in
      let report : new.report.items ≡ text ((p.items ++ waits) ++ items) =
      prints.report ∙ ap (λ l. l ++ text items) (text_whole t f p.items r.early (pending_at t s) (pending_of seg) s.report.items mid.report.items (p.report_is f) pends.report r.pending_is)
      ∙ sym (flat_map-append _ (p.items ++ waits) items) in
      let longer : length new.report.items ≡ length s.report.items + (length (text (pending_items f (pending_at t s))) + length (text items)) =
      (let e1 = ap length prints.report ∙ length-append mid.report.items (text items) in
      let e2 = ap length pends.report ∙ length-append s.report.items (text (pending_items f (pending_at t s))) in omega (arith, e1, e2)) in
      let F' : Totals → Type 0 = λ z. AreFew z (length new.report.items) in
      let same : new.totals ≡ s.totals = prints.totals ∙ pends.totals in
      record {
        items = (p.items ++ waits) ++ items;
        answered = (p.items ++ waits, items, items_filled t f seg history p.items old.ordered.inner p.answered, are, refl);
        report_is = λ f'. report ∙ ap (λ (xs : List Item). text xs) (sym (append-nil ((p.items ++ waits) ++ items)));
        totals_are = same ∙ p.totals_are ∙ sym (totals_quiet p.items waits (quiet_pending f (pending_of seg))) ∙ sym (totals_quiet (p.items ++ waits) items quiet);
        few = subst F' (sym same) (few_longer s.totals (length s.report.items) (length new.report.items) (omega (arith, longer)) p.few);
      }

  -- ---- a tick

  module _ (is_tick : tick ≡ true) (line : Line) (is : line.what ≡ what.Tick time) (fits : FitsClock s.clock line.what) (has_time : HasTime line.what) (mid new : State)
      (pends : PrintsPending t barriers s mid) (prints : Prints t (tick_items t barriers line.number time) time mid new) (keep : AllKeepEntries way.entries agents after) where
    tick_event : Event
    tick_event = ticked time (lefts_of barriers)

    tick_link : (r : ℕ) → r < count t → ledger (rules_of t) r (moment_of line.number tick_event ∷ F) ≡ passed_by (rules_of t) time tick barriers before_of r
    unfolding tick_event
    tick_link r l =
        ledger_ticked (count t) (rules_of t) r f seg history old.ordered.inner old.ordered.once old.ordered.barred (barrier_at barriers r).archived refl (here r l).told.archived line.number time (lefts_of barriers)
        ∙ ap (λ b. passed_by (rules_of t) time b barriers before_of r) (sym is_tick)

    tick_closed : (r : ℕ) → r < count t → closed_of barriers line.number r ≡ closed_items t F line.number time r
    tick_closed r l =
        ap (λ o. closing_items line.number r o) ((here r l).told.closed ∙ ap (λ b. closing_at (rules_of t r) (before_of r) time b) is_tick)

    tick_are : AreItems t F (moment_of line.number tick_event ∷ F) line.number tick_event (tick_items t barriers line.number time)
    unfolding tick_event
    tick_are = ap (λ xs. item.Tick line.number time ∷ xs ++ flat_map (left_items line.number (lefts_of barriers)) (routers t)) (flat_map_same (closed_of barriers line.number) (closed_items t F line.number time) 0 (count t) (count t) (omega arith) tick_closed)

    tick_quiet : AreQuiet (tick_items t barriers line.number time)
    tick_quiet = quiet_cons _ _ (λ z. refl)
        (quiet_append _ _ (quiet_flat_map (closed_of barriers line.number) (λ r. quiet_closing line.number r (option_map closing_of (barrier_at barriers r).closed)) (routers t))
        (quiet_flat_map (left_items line.number (lefts_of barriers)) (quiet_left line.number (lefts_of barriers)) (routers t)))

    pub tick_closes : (g : Splits) × (event : Event) × IsEventOf t.sigs line.what event × Stands way stands t start (moment_of line.number event ∷ filled g seg history) [] after new now
    unfolding tick_event
    tick_closes =
        let W : What → Type 0 = λ w. IsEventOf t.sigs w tick_event in
        let C : What → Type 0 = λ w. FitsClock s.clock w in
        let T : ℕ → Type 0 = λ c. c < 2 ^ 48 in
        let later : s.clock < time = subst C is fits in
        let e : s.clock ≡ clock F = old.clock_is ∙ sym (clock_filled f seg history old.ordered.inner) in (
          f,
          tick_event,
          subst W (sym is) refl,
          stands_closed line.number tick_event refl tick_link new now
              prints.clock_is (subst T (sym prints.clock_is) (subst HasTime is has_time)) (first_behind (moment_of line.number tick_event) mid new pends prints.first) (prints.answers ∙ pends.answers) (omega (arith, later, e)) keep
              (right_behind line.number tick_event refl tick_link tt tt (left_ok line.number tick_event refl tick_link) tt tt)
              (printed_more line.number tick_event mid new (tick_items t barriers line.number time) time pends prints tick_are tick_quiet)
              (shelf_behind line.number tick_event refl tick_link now (omega arith) refl (λ told name. refl) barrier_paid (λ told. tt) (λ told. tt) tt),
        )

  -- ---- the end

  module _ (is_tick : tick ≡ false) (same_time : time ≡ s.clock) (line : Line) (is : line.what ≡ what.End) (mid new : State)
      (pends : PrintsPending t barriers s mid) (prints : Prints t (end_items t barriers line.number) s.clock mid new) (keep : AllKeepEntries way.entries agents after) where
    end_event : Event
    end_event = ended (lefts_of barriers)

    clock_now : clock F ≡ time
    clock_now = clock_filled f seg history old.ordered.inner ∙ sym old.clock_is ∙ sym same_time

    end_link : (r : ℕ) → r < count t → ledger (rules_of t) r (moment_of line.number end_event ∷ F) ≡ passed_by (rules_of t) time tick barriers before_of r
    unfolding end_event
    end_link r l =
        ledger_ended (count t) (rules_of t) r f seg history old.ordered.inner old.ordered.once old.ordered.barred (barrier_at barriers r).archived refl (here r l).told.archived line.number time (lefts_of barriers) clock_now
        ∙ ap (λ b. passed_by (rules_of t) time b barriers before_of r) (sym is_tick)

    end_quiet : AreQuiet (end_items t barriers line.number)
    end_quiet = quiet_cons _ _ (λ z. refl) (quiet_flat_map (left_items line.number (lefts_of barriers)) (quiet_left line.number (lefts_of barriers)) (routers t))

    pub end_closes : (g : Splits) × (event : Event) × IsEventOf t.sigs line.what event × Stands way stands t start (moment_of line.number event ∷ filled g seg history) [] after new now
    unfolding end_event
    end_closes =
        let W : What → Type 0 = λ w. IsEventOf t.sigs w end_event in
        let T : ℕ → Type 0 = λ c. c < 2 ^ 48 in (
          f,
          end_event,
          subst W (sym is) tt,
          stands_closed line.number end_event refl end_link new now
              (prints.clock_is ∙ sym same_time ∙ sym clock_now) (subst T (sym prints.clock_is) old.clock_fits) (first_behind (moment_of line.number end_event) mid new pends prints.first) (prints.answers ∙ pends.answers) tt keep
              (right_behind line.number end_event refl end_link tt tt (left_ok line.number end_event refl end_link) tt tt)
              (printed_more line.number end_event mid new (end_items t barriers line.number) s.clock pends prints refl end_quiet)
              (shelf_behind line.number end_event refl end_link now (omega arith) refl (λ told name. refl) barrier_paid (λ told. tt) (λ told. tt) tt),
        )
