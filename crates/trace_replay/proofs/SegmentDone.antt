-- A segment's lines are done.
use Rattle.std.proofs.Common.{ℕ, ◌≡◌, ◌≤◌, ◌<◌, ◌∷◌, [], ◌++◌, ◌∙◌, List, length, get_or, map, sym, ap, refl, subst, arith}
use Rattle.std.specs.List.{Contains, flat_map}
use Rattle.std.proofs.lemmas.List.{length-map, take_all}
use Rattle.spie_base.specs.declared.Entry.{Entry}
use Rattle.spie_base.specs.declared.Sig.{Sig}
use Rattle.page_gate.specs.Held.{PlaneId}
use Rattle.router_account.specs.Account.{below}
use Rattle.router_account.specs.Ledger.{Ledger, Unfinished, no_split}
use Rattle.router_account.specs.Shelves.{ShelfView}
use Rattle.data_agent.specs.Beside.{Away}
use Rattle.data_agent.specs.Laws.{EntriesExist}
use Rattle.data_agent.specs.Planes.{entries_of}
use Rattle.data_agent.specs.Standing.{StandsFor}
use Rattle.data_agent.specs.declared.Agent.{Agent}
use Rattle.trace_format.specs.declared.Line.{Line}
use Rattle.trace_format.specs.declared.Trace.{Trace}
use Rattle.trace_format.specs.Sound.{IsSound, IsWithin, records}
use Rattle.trace_history.specs.History.{Event, History, IsHistoryOf}
use Rattle.trace_history.specs.Ledgers.{ledger}
use Rattle.trace_history.specs.Receipts.{Receipt}
use Rattle.trace_history.specs.Routers.{RouterRules, count, rules_of}
use Rattle.trace_history.specs.Workers.{share_of}
use Rattle.trace_workers.specs.declared.Job.{Job}
use Rattle.trace_workers.specs.Jobs.{AreShares, HaveWorked, pages_of, receipts_in}
use Rattle.trace_workers.specs.Records.{entries_by, lines_between}
use Rattle.trace_replay.specs.declared.state.Answer.{Answer}
use Rattle.trace_replay.specs.declared.state.State.{State}
use Rattle.trace_replay.specs.Aways.{besides, reads}
use Rattle.trace_replay.specs.Concluding.{AddsRows, HavePagesFor, MayAddRows, all_answers, pages_for, receipts_for}
use Rattle.trace_replay.specs.Dealt.{HaveBack, HaveDealt, HaveFresh, HaveGathered, MayGatherAll, away_of, fresh_passes}
use Rattle.trace_replay.specs.Merging.{AreEvents, interleaved, operations}
use Rattle.trace_replay.specs.Operating.{HasOperated, KeepEntries, OperatesFrom}
use Rattle.trace_replay.specs.Segmenting.{FitSegment, IsSegment}
use Rattle.trace_replay.specs.Segments.{Splits, answer_of, filled}
use Rattle.trace_replay.specs.Standing.{Stands}
use Rattle.trace_replay.specs.Yards.{by_workers}
use Rattle.trace_replay.proofs.Between.{between_behind}
use Rattle.trace_replay.proofs.Concluded.{pages_long}
use Rattle.trace_replay.proofs.Merged.{by_events}
use Rattle.trace_replay.proofs.Readied.{fits_operator, lines_within, operated_first, passes_fresh, shares_still}
use Rattle.trace_replay.proofs.RecordEvents.{entered_back, events_of, records_happened, routers_there}
use Rattle.trace_replay.proofs.Returned.{bits3, entries3s, exist3, have_pages, may_gather_all, may_rows, receipts_are, shown3, turns3}
use Rattle.trace_replay.proofs.Together.{HasAnswers, with_entries, seg, seg_lines, stands_together}

events_long : (sigs : List Sig) (lines : List Line) (es : List Event) → AreEvents sigs lines es → length es ≡ length lines
events_long sigs [] [] a = refl
events_long sigs [] (e ∷ es) a = absurd a
events_long sigs (line ∷ lines) [] a = absurd a
events_long sigs (line ∷ lines) (e ∷ es) a = let n = events_long sigs lines es a.1 in omega (arith, n)

module _ (t : Trace) (from to W : ℕ) (planes : List PlaneId) (agents0 agents1 agents2 : List Agent) (jobs1 jobs2 jobs3 : List Job) (s : State) (was now : ShelfView) (given0 given : List Answer)
    (sound : IsSound t) (is : IsSegment t from to) (some : 2 ≤ W) (long1 : length jobs1 ≡ W) (beside : length planes ≡ length agents0) (none : given0 ≡ [])
    (shares : AreShares t from to jobs1) (dealt : HaveDealt W (length planes) agents0 agents1) (fresh : HaveFresh (length planes) planes agents0 jobs1 jobs2)
    (worked : HaveWorked t planes jobs2 jobs3) (operates : OperatesFrom besides reads t (lines_between t.lines from to) 0 (length (lines_between t.lines from to)) agents1 agents2 s.clock given0 given was now) where
  abbrev lines : List Line
  lines = lines_between t.lines from to

  module _ (start : ShelfView) (history : History) (old : Stands (by_workers W) StandsFor t start history [] agents0 s was) (fit : FitSegment t history from to) where
    many : length planes ≡ count t
    many = beside ∙ old.count_is

    long2 : length jobs2 ≡ W
    long2 = fresh.many ∙ long1

    shares2 : AreShares t from to jobs2
    shares2 = shares_still t from to W planes sound is agents0 jobs1 jobs2 many beside shares fresh

    fresh2 : (w : ℕ) (d : Job) → w < W → (get_or jobs2 w d).passes.items ≡ fresh_passes planes agents0
    fresh2 w d l = passes_fresh t from to W planes sound is agents0 jobs1 jobs2 many beside shares fresh w d (omega (arith, l, long1))

    abbrev aways : ℕ → Away
    aways r = away_of W (ledger (rules_of t) r history)

    pub operated : HasOperated besides reads t start history aways lines (length lines) agents2 s.clock given now
    operated = operates start history aways (fits_operator t from to W planes sound is agents0 agents1 s was start history old fit dealt beside)
        (operated_first t from to W planes sound is agents0 agents1 s was start history old fit dealt beside given0 none)

    ops_lines : IsHistoryOf t.sigs (operations lines) operated.ops
    unfolding operated
    ops_lines = let P : List Line → Type 0 = λ ls. IsHistoryOf t.sigs (operations ls) operated.ops in subst P (take_all (length lines) lines (omega arith)) operated.lines_are

    pub may_gather_now : MayGatherAll planes agents2 jobs3
    may_gather_now = may_gather_all t from to W planes agents0 jobs2 jobs3 some long2 beside many shares2 fresh2 worked agents1 agents2 s was now start history old dealt given operated

    pub given_long : length given ≡ length (operations lines)
    given_long =
        let by = by_events t.sigs (operations lines) operated.ops ops_lines in
        let a = ap (λ (ys : List Answer). length ys) (operated.stood.answers_are ∙ by.answers) in
        let b = length-map by.events answer_of in
        let c = events_long t.sigs (operations lines) by.events by.happened in omega (arith, a, b, c)

    module _ (agents3 : List Agent) (jobs4 : List Job) (gathered : HaveGathered jobs3 agents2 agents3) (back : HaveBack jobs3 jobs4) (law : EntriesExist) where
      abbrev ys : List Receipt
      ys = receipts_in t from to (pages_of jobs3)

      abbrev K : Splits → ℕ → Ledger
      K f r = let l = ledger (rules_of t) r (filled f operated.ops history) in record l { account = with_entries l (entries_by r ys) }

      same_receipts : receipts_for t lines jobs4 ≡ ys
      same_receipts = receipts_are t from to W planes agents0 jobs2 jobs3 some long2 beside many shares2 fresh2 worked agents1 agents2 s was now start history old dealt given operated agents3 jobs4 gathered back law is fit

      within : (x : Line) → Contains lines x → IsWithin (count t) (length t.sigs) x.what
      within x h = let P : Line → Type 0 = λ y. IsWithin (count t) (length t.sigs) y.what in subst P h.2 (lines_within t from to W planes sound is (count t) h.0 x refl h.1)

      routers : (x : Receipt) → Contains ys x → x.hop.router < count t
      routers = let P : List Receipt → Type 0 = λ zs. (x : Receipt) → Contains zs x → x.hop.router < count t in
          subst P same_receipts (routers_there t.sigs (count t) lines (pages_for lines jobs4) within)

      happened : AreEvents t.sigs (records lines) (events_of ys)
      happened = let P : List Receipt → Type 0 = λ zs. AreEvents t.sigs (records lines) (events_of zs) in
          subst P same_receipts (records_happened t.sigs (count t) lines (pages_for lines jobs4) within (pages_long jobs4 (length (records lines))))

      pub pages_now : HavePagesFor lines jobs4
      pages_now = have_pages t from to W planes agents0 jobs2 jobs3 some long2 beside many shares2 fresh2 worked agents1 agents2 s was now start history old dealt given operated agents3 jobs4 gathered back law is fit

      rows_by : (f : Splits) → MayAddRows StandsFor (rules_of t) (K f) operated.stood.us ys agents3
      rows_by f = may_rows t from to W planes agents0 jobs2 jobs3 some long2 beside many shares2 fresh2 worked agents1 agents2 s was now start history old dealt given operated agents3 jobs4 gathered back law is fit f routers

      pub may_add_rows : (rules : RouterRules) × (ls : ℕ → Ledger) × (us : ℕ → Unfinished) × MayAddRows StandsFor rules ls us (receipts_for t lines jobs4) agents3
      may_add_rows =
          let f : Splits = λ q. no_split in
          let P : List Receipt → Type 0 = λ zs. MayAddRows StandsFor (rules_of t) (K f) operated.stood.us zs agents3 in
          (rules_of t, K f, operated.stood.us, subst P (sym same_receipts) (rows_by f))

      module _ (agents4 : List Agent) (s' : State) (rows : AddsRows StandsFor (receipts_for t lines jobs4) agents3 agents4) (kept1 : KeepEntries entries_of agents0 agents1) (kept2 : KeepEntries entries_of agents1 agents2) (kept4 : KeepEntries entries_of agents3 agents4)
          (clock : s'.clock ≡ s.clock) (first : s'.first ≡ s.first) (report : s'.report.items ≡ s.report.items) (totals : s'.totals ≡ s.totals)
          (answers : s'.answers.items ≡ s.answers.items ++ all_answers lines jobs4 given) where
        added : AddsRows StandsFor ys agents3 agents4
        added = let P : List Receipt → Type 0 = λ zs. AddsRows StandsFor zs agents3 agents4 in subst P same_receipts rows

        same_count : length agents4 ≡ length agents0
        same_count = let a = rows.same in let b = gathered.same in let c = operated.stood.count_is in let d = old.count_is in omega (arith, a, b, c, d)

        answered : HasAnswers s s' (interleaved lines (map answer_of (events_of ys)) given)
        answered = record {
          clock = clock;
          first = first;
          answers_are = answers ∙ ap (λ (zs : List Answer). s.answers.items ++ interleaved lines zs given)
              (sym (entered_back t.sigs (records lines) (pages_for lines jobs4) (pages_long jobs4 (length (records lines)))) ∙ ap (λ (zs : List Receipt). map answer_of (events_of zs)) same_receipts);
          report = report;
          totals = totals;
        }

        pub done : (h : History) × IsHistoryOf t.sigs lines h × Stands (by_workers W) StandsFor t start history h agents4 s' now
        done =
            let ops = operated.ops in
            let stood = operated.stood in
            let turn = turns3 t from to W planes agents0 jobs2 jobs3 some long2 beside many shares2 fresh2 worked agents1 agents2 s was now start history old dealt given operated agents3 jobs4 gathered back law is fit in
            let exist = exist3 t from to W planes agents0 jobs2 jobs3 some long2 beside many shares2 fresh2 worked agents1 agents2 s was now start history old dealt given operated agents3 jobs4 gathered back law is fit in
            let bit = bits3 t from to W planes agents0 jobs2 jobs3 some long2 beside many shares2 fresh2 worked agents1 agents2 s was now start history old dealt given operated agents3 jobs4 gathered back law is fit in
            let show = shown3 t from to W planes agents0 jobs2 jobs3 some long2 beside many shares2 fresh2 worked agents1 agents2 s was now start history old dealt given operated agents3 jobs4 gathered back law is fit in
            let entry = entries3s t from to W planes agents0 jobs2 jobs3 some long2 beside many shares2 fresh2 worked agents1 agents2 s was now start history old dealt given operated agents3 jobs4 gathered back law is fit in
            let count_is = old.count_is in
            let to_in : to ≤ length t.lines = (let w = is.within in omega (arith, w)) in
            let final = λ (f : Splits) (r : ℕ) (d : Agent) (l : r < count t). added.adds (rules_of t) (K f) stood.us (rows_by f) r d (omega (arith, l, same_count, count_is)) in
            let all_entries = λ (r : ℕ) (d : Agent) (l : r < count t). kept4 r d ∙ entry r d l ∙ ap (λ (es : List Entry). es ++ flat_map (λ w. share_of W w r 0 ys) (below W)) (kept2 r d ∙ kept1 r d) in (
              seg (by_workers W) StandsFor besides reads t start history aways from to agents0 agents2 agents4 s s' was now ops given ys some old fit ops_lines stood happened routers turn exist final bit show all_entries same_count answered (between_behind from to t.lines is.order to_in),
              seg_lines (by_workers W) StandsFor besides reads t start history aways from to agents0 agents2 agents4 s s' was now ops given ys some old fit ops_lines stood happened routers turn exist final bit show all_entries same_count answered (between_behind from to t.lines is.order to_in),
              stands_together (by_workers W) StandsFor besides reads t start history aways from to agents0 agents2 agents4 s s' was now ops given ys some old fit ops_lines stood happened routers turn exist final bit show all_entries same_count answered (between_behind from to t.lines is.order to_in),
            )
