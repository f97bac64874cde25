-- A query is answered behind its barrier.
use Rattle.std.proofs.Common.{ℕ, ◌≡◌, ◌≤◌, ◌<◌, ◌+◌, ◌^◌, ◌∷◌, [], ◌++◌, ◌∙◌, true, false, List, length, map, get_or, sym, ap, refl, subst, arith, append-nil, length-append}
use Rattle.std.specs.Prelude.{slice_get, Some, unwrap_or, option_map, fold}
use Rattle.std.specs.declared.option.Option.{Option}
use Rattle.std.specs.Bool.{IsTrue}
use Rattle.std.specs.List.{All, Contains, flat_map}
use Rattle.std.proofs.lemmas.Grind.{flat_map-append}
use Rattle.std.proofs.lemmas.List.{get_or_default}
use Rattle.spie_base.specs.Causes.{RoseBy}
use Rattle.spie_base.specs.Shown.{Shown}
use Rattle.spie_base.specs.declared.PageNo.{PageNo}
use Rattle.spie_base.specs.declared.PageRange.{PageRange}
use Rattle.spie_base.specs.declared.RouterId.{RouterId}
use Rattle.spie_base.specs.declared.Sig.{Sig}
use Rattle.topology.specs.Layout.{is_linked}
use Rattle.reverse_flood.specs.declared.Graph.{Graph}
use Rattle.reverse_flood.specs.Flood.{net_of, IsFlood}
use Rattle.report_text.specs.declared.Bad.{Bad}
use Rattle.report_text.specs.declared.Item.{Item}
use Rattle.report_text.specs.declared.Item.TheVariants as item
use Rattle.trace_format.specs.declared.Line.{Line}
use Rattle.trace_format.specs.declared.Trace.{Trace}
use Rattle.trace_format.specs.declared.What.{What}
use Rattle.trace_format.specs.declared.What.TheVariants as what
use Rattle.trace_format.specs.Sound.{IsWithin, FitsClock}
use Rattle.router_account.specs.declared.Unreadable.{Unreadable}
use Rattle.router_account.specs.Account.{Sight, hit, origins, window}
use Rattle.router_account.specs.Ledger.{Ledger, nothing_unfinished, no_split}
use Rattle.router_account.specs.Readings.{IsReadFrom}
use Rattle.router_account.specs.Records.{HaveDigests, AreTrue, AllFailed}
use Rattle.router_account.specs.Shelves.{ShelfView}
use Rattle.router_account.specs.Sights.{Reading, UnreadPage, IsRead, sight_by, used_by, expired_by, page_no, range_of, unreadable_of, failures, no_reading}
use Rattle.data_agent.specs.declared.Barrier.{Barrier}
use Rattle.data_agent.specs.Calls.{Told}
use Rattle.trace_history.specs.declared.Totals.{Totals}
use Rattle.trace_history.specs.History.{Event, queried, History, QueryRun, IsEventOf, IsHistoryOf, clock}
use Rattle.trace_history.specs.Ledgers.{ledger}
use Rattle.trace_history.specs.Outcomes.{AreAllRead, HasSameDigests, IsReadQuery, IsReadDuring, IsTrueQuery, HasOnlyFaults, fault_marks, fault_marks_by}
use Rattle.trace_history.specs.Report.{AreItems, text_of, totals_of, no_totals, with_answer, pages_item, graph_items, answer_item, left_items, bad_of}
use Rattle.trace_history.specs.Routers.{count, rules_of, routers, sum_over}
use Rattle.trace_history.specs.Sights.{sight_at, net_at}
use Rattle.trace_history.proofs.Sequential.{account_router}
use Rattle.trace_replay.specs.declared.state.State.{State}
use Rattle.trace_replay.specs.Agents.{Standing, AllStand, PassesAll, SeesAll, IsSeenBy, IsPast, AllHold, barrier_at, passed_by, reading_at}
use Rattle.trace_replay.specs.Asking.{AreMore, bad_by, sight_item, item_at, query_items, PrintsQuery}
use Rattle.trace_replay.specs.Barriers.{PrintsPending}
use Rattle.trace_replay.specs.Printing.{splits_of, lefts_of}
use Rattle.trace_replay.specs.Segments.{Splits, filled, pending_of, pending_items}
use Rattle.trace_replay.specs.Sights.{IsSightAt, AreSights}
use Rattle.trace_replay.specs.Standing.{Way, Stands, AreFew, IsPrinted, IsRight, IsKeptOn, IsNext, pending_at}
use Rattle.trace_replay.proofs.Closes.{at, here, barrier_paid, left_ok, right_behind, shelf_behind, stands_closed, held_now, first_behind}
use Rattle.trace_replay.specs.Yards.{AllKeepEntries}
use Rattle.trace_replay.proofs.Answered.{alone_of}
use Rattle.trace_replay.proofs.Begun.{possible}
use Rattle.trace_replay.proofs.Filled.{moment_of, clock_filled}
use Rattle.trace_history.proofs.Nets.{AgreeBelow, flood_same}
use Rattle.trace_replay.proofs.Passed.{ledger_queried, items_filled}
use Rattle.trace_replay.proofs.Passing.{passed_router}
use Rattle.trace_replay.proofs.Quiet.{AreQuiet, fold_append, quiet_append, quiet_cons, quiet_map, quiet_flat_map, quiet_pending, quiet_left}
use Rattle.trace_history.proofs.RouterLists.{map_same}
use Rattle.trace_replay.proofs.Reported.{text_whole}
use Rattle.trace_replay.proofs.Sums.{rose_add, rose_less, get_at, some_of}
use Rattle.trace_replay.proofs.Texts.{longer}

bads_named : (xs : List UnreadPage) → map bad_by (map unreadable_of xs) ≡ map bad_of xs
bads_named [] = refl
bads_named (x ∷ xs) = ap (λ (ys : List Bad). bad_of x ∷ ys) (bads_named xs)

-- a graph adds the numbers of its answer
graph_totals : (line : ℕ) (graph : Graph) (z : Totals) → fold with_answer z (graph_items line graph) ≡ with_answer z (answer_item line graph)
graph_totals line graph z =
    let nodes = map (item.NodeLine line) graph.nodes in
    let edges = map (item.EdgeLine line) graph.edges in
    let unknown = map (item.UnknownLine line) graph.unknown in
    fold_append (nodes ++ edges ++ unknown) (answer_item line graph ∷ []) z
    ∙ ap (λ y. with_answer y (answer_item line graph))
    ((quiet_append (nodes ++ edges) unknown (quiet_append nodes edges (quiet_map (item.NodeLine line) (λ y x. refl) graph.nodes) (quiet_map (item.EdgeLine line) (λ y x. refl) graph.edges)) (quiet_map (item.UnknownLine line) (λ y x. refl) graph.unknown)).each z)

few_more : (before after : Totals) (n m : ℕ) → n + 1 ≤ m → AreFew before n → AreMore before after → AreFew after m
few_more before after n m l few more =
    let a = few.nodes in let b = few.edges in let c = few.unknown in let d = few.clear in
    let e = more.nodes in let f = more.edges in let g = more.unknown in let h = more.clear in
    record { nodes = omega arith; edges = omega arith; unknown = omega arith; clear = omega arith }

module _ {A S : Type 0} (way : Way A) (stands : Standing A) (shown : S → Shown) (told : S → Told) (t : Trace) (start : ShelfView) (history seg : History) (agents after : List A) (s : State) (was mid now : ShelfView)
    (old : Stands way stands t start history seg agents s was) (barriers : List Barrier) (all : PassesAll stands s.clock false agents after barriers was mid)
    (time : ℕ) (sights : List S) (sees : SeesAll stands shown told time after sights mid now) where
  abbrev f : Splits
  f = splits_of barriers

  abbrev F : History
  F = filled f seg history

  abbrev before_of : ℕ → Ledger
  before_of r = ledger (rules_of t) r F

  abbrev behind : ℕ → Ledger
  behind r = passed_by (rules_of t) s.clock false barriers before_of r

  -- the pages of the query's window
  abbrev pages : ℕ → List ℕ
  pages r = window (rules_of t r) (behind r).account time

  count_after : length after ≡ count t
  count_after = all.same ∙ old.count_is

  in_after : (r : ℕ) → r < count t → r < length after
  in_after r l = subst (λ (n : ℕ). r < n) (sym count_after) l

  in_sights : (r : ℕ) → r < count t → r < length sights
  in_sights r l = subst (λ (n : ℕ). r < n) (sym (sees.count ∙ count_after)) l

  stand_after : AllStand stands (rules_of t) behind (λ r. nothing_unfinished) after
  stand_after = record {
    each = λ r d l. (at way stands t start history seg agents after s was mid old s.clock false barriers all r d (subst (λ (n : ℕ). r < n) count_after l)).stands_now;
    numbered = λ r. passed_router (rules_of t r) (before_of r) s.clock false (barrier_at barriers r) ∙ account_router (rules_of t) r F;
  }

  abbrev sight_of : (r : ℕ) → r < count t → S
  sight_of r l = get_or sights r (some_of sights r (in_sights r l))

  read_of : {X : Type 0} (g : S → X) (z : X) (r : ℕ) (l : r < count t) → unwrap_or (option_map g (slice_get sights r)) z ≡ g (sight_of r l)
  read_of g z r l = ap (λ (o : Option S). unwrap_or (option_map g o) z) (get_at sights r (some_of sights r (in_sights r l)) (in_sights r l))

  abbrev reads : ℕ → Reading
  reads r = reading_at told sights r

  reads_is : (r : ℕ) (l : r < count t) → reads r ≡ (told (sight_of r l)).reading
  reads_is r l = read_of (λ (x : S). (told x).reading) no_reading r l

  seen : (r : ℕ) (l : r < count t) → IsSeenBy shown told (rules_of t r) (behind r) time (sight_of r l)
  seen r l = sees.seen (rules_of t) behind (λ q. nothing_unfinished) stand_after r (some_of sights r (in_sights r l)) (in_after r l)

  module _ (line : Line) (router : RouterId) (packet : ℕ) (sig : Sig) (is : line.what ≡ what.Query router packet time) (known : slice_get t.sigs packet ≡ Some sig) where
    abbrev query : QueryRun
    query = record { router = router.number; sig = sig; time = time; reads = reads; shelf_before = mid; shelf_after = now }

    abbrev event : Event
    event = queried query (lefts_of barriers)

    abbrev G : History
    G = moment_of line.number event ∷ F

    clock_now : clock F ≡ s.clock
    clock_now = clock_filled f seg history old.ordered.inner ∙ sym old.clock_is

    link : (r : ℕ) → r < count t → ledger (rules_of t) r G ≡ behind r
    link r l =
        ledger_queried (count t) (rules_of t) r f seg history old.ordered.inner old.ordered.once old.ordered.barred (barrier_at barriers r).archived refl
        (here way stands t start history seg agents after s was mid old s.clock false barriers all r l).told.archived line.number s.clock query (lefts_of barriers) clock_now

    read_ok : AreAllRead (count t) (rules_of t) G query
    read_ok r l =
        let P : Ledger → Type 0 = λ x. IsRead (rules_of t r) x (window (rules_of t r) x.account time) (reads r) in
        let Q : Reading → Type 0 = λ x. IsRead (rules_of t r) (behind r) (pages r) x in
        subst P (sym (link r l)) (subst Q (sym (reads_is r l)) (seen r l).read)

    digest_ok : HasSameDigests (count t) (rules_of t) G query
    digest_ok r l =
        let P : Ledger → Type 0 = λ x. HaveDigests (rules_of t r) x.account (reads r) in
        let Q : Reading → Type 0 = λ x. HaveDigests (rules_of t r) (behind r).account x in
        subst P (sym (link r l)) (subst Q (sym (reads_is r l)) (seen r l).digests)

    read_from : IsReadQuery (count t) (rules_of t) G query
    read_from r l =
        let P : Ledger → Type 0 = λ x. IsReadFrom (rules_of t r) x.account mid now (reads r) in
        let Q : Reading → Type 0 = λ x. IsReadFrom (rules_of t r) (behind r).account mid now x in
        subst P (sym (link r l)) (subst Q (sym (reads_is r l))
        (sees.read (rules_of t) behind (λ q. nothing_unfinished) stand_after r (some_of sights r (in_sights r l)) (in_after r l)))

    -- the shelf still holds the records when the query reads them
    held_mid : start.tells ≡ true → AllHold (length after) (rules_of t) mid.contents behind
    held_mid tells q m = held_now way stands t start history seg agents after s was mid old s.clock false barriers all (old.shelf.still ∙ tells) tells q (subst (λ (k : ℕ). q < k) count_after m)

    true_ok : start.tells ≡ true → IsTrueQuery (count t) (rules_of t) G query
    true_ok tells r l =
        let P : Ledger → Type 0 = λ x. AreTrue (rules_of t r) x.account (reads r) in
        let Q : Reading → Type 0 = λ x. AreTrue (rules_of t r) (behind r).account x in
        subst P (sym (link r l)) (subst Q (sym (reads_is r l))
        (sees.all_true (all.still ∙ old.shelf.still ∙ tells) (rules_of t) behind (λ q. nothing_unfinished) stand_after (held_mid tells) r (some_of sights r (in_sights r l)) (in_after r l)))

    faults_ok : start.tells ≡ true → HasOnlyFaults (count t) G query
    faults_ok tells r l =
        let Q : Reading → Type 0 = λ x. AllFailed x in
        subst Q (sym (reads_is r l))
        (sees.only_faults (all.still ∙ old.shelf.still ∙ tells) (rules_of t) behind (λ q. nothing_unfinished) stand_after (held_mid tells) r (some_of sights r (in_sights r l)) (in_after r l))

    sight_is : (r : ℕ) (l : r < count t) → sight_at (rules_of t) G query r ≡ sight_by (rules_of t r) (behind r) (pages r) (told (sight_of r l)).reading
    sight_is r l =
        ap (λ (x : Ledger). sight_by (rules_of t r) x (window (rules_of t r) x.account time) (reads r)) (link r l)
        ∙ ap (λ (x : Reading). sight_by (rules_of t r) (behind r) (pages r) x) (reads_is r l)

    -- a router's sight is what the query sees of it
    sight_ok : (r : ℕ) (l : r < count t) → IsSightAt (rules_of t) G query r (shown (sight_of r l)) (told (sight_of r l))
    sight_ok r l =
        let e = seen r l in
        let same = sight_is r l in record {
          hit = λ key. e.hit key ∙ sym (ap (λ (x : Sight). hit (rules_of t r) x key) same);
          origins = λ key x.
              let o = ap (λ (y : Sight). origins y key) same in
              let P : List Sig → Type 0 = λ ss. Contains ss x in
              let both = e.origins key x in
              ((λ i. subst P (sym o) (both.0 i)), (λ i. both.1 (subst P o i)));
          missing = e.missing ∙ sym (ap (λ (x : Sight). x.missing) same);
          expired_is = e.expired_is ∙ sym (ap (λ (x : Ledger). range_of (expired_by (rules_of t r) x (window (rules_of t r) x.account time))) (link r l));
          unreadable_is = e.unreadable_is ∙ sym (ap (λ (x : Reading). map unreadable_of x.unread) (reads_is r l));
          used_is =
              e.used_is ∙ sym (ap (λ (x : Reading). map page_no (used_by (rules_of t r) (behind r) (pages r) x)) (reads_is r l))
              ∙ sym (ap (λ (x : Ledger). map page_no (used_by (rules_of t r) x (window (rules_of t r) x.account time) (reads r))) (link r l));
          reading_is = sym (reads_is r l);
        }

    query_paid : RoseBy (fault_marks (count t) F + fault_marks_by (count t) event) start.faults now.faults
    query_paid =
        let n = count t in
        let lefts = sum_over n (λ r. length (lefts_of barriers r)) in
        let lost = sum_over n (λ r. failures (reads r)) in
        let P : ℕ → Type 0 = λ k. RoseBy (sum_over k (λ r. failures (reading_at told sights r))) mid.faults now.faults in
        rose_less ((fault_marks n F + lefts) + lost) (fault_marks n F + (lefts + lost)) start.faults now.faults
        (rose_add (fault_marks n F + lefts) lost start.faults mid.faults now.faults (barrier_paid way stands t start history seg agents after s was mid old s.clock false barriers all) (subst P count_after sees.paid))
        (omega arith)

    during : IsReadDuring (count t) start now query
    during =
        let P : ℕ → Type 0 = λ k. RoseBy (sum_over k (λ r. failures (reading_at told sights r))) mid.faults now.faults in
        record {
          still = all.still ∙ old.shelf.still;
          from = let a = old.shelf.later in let b = all.later in let le : start.faults ≤ mid.faults = omega (arith, a, b) in le;
          paid = subst P count_after sees.paid;
          to = let le : now.faults ≤ now.faults = omega arith in le;
        }

    event_is : IsEventOf t.sigs line.what event
    event_is = let W : What → Type 0 = λ w. IsEventOf t.sigs w event in subst W (sym is) (refl, known, refl)

    events_right : IsRight way.workers t G []
    events_right = right_behind way stands t start history seg agents after s was mid old s.clock false barriers all line.number event refl link tt tt
        (read_ok, left_ok way stands t start history seg agents after s was mid old s.clock false barriers all line.number event refl link) digest_ok read_from

    shelf_after : IsKeptOn t G [] (λ r. nothing_unfinished) start now
    shelf_after = shelf_behind way stands t start history seg agents after s was mid old s.clock false barriers all line.number event refl link now sees.later sees.still sees.unchanged query_paid true_ok faults_ok during

    -- the sights of all routers, where the lines before this one are done
    pub sights_are : way.workers ≡ 1 → (before upto later : List Line) → t.lines ≡ upto ++ later → upto ≡ before ++ line ∷ [] → IsHistoryOf t.sigs before F → AreSights shown told t line.number sights (record { shelf_before = start; shelf_after = now })
    sights_are alone before upto later lines_are last history_of = record {
      upto = upto;
      later = later;
      lines_are = lines_are;
      before = F;
      query = query;
      left = lefts_of barriers;
      sequential = (alone_of way.workers t G [] alone events_right.lines).sequential (λ r. no_split);
      watched = (alone_of way.workers t G [] alone events_right.lines).watched (λ r. no_split);
      done = possible way.workers t upto G (λ r. nothing_unfinished) start now (before, line, last, refl, event_is, history_of) refl events_right shelf_after;
      count_is = sees.count ∙ count_after;
      each = λ r d l.
          let P : S → Type 0 = λ x. IsSightAt (rules_of t) G query r (shown x) (told x) in
          subst P (get_or_default sights r (some_of sights r (in_sights r l)) d (in_sights r l)) (sight_ok r l);
    }

    -- what is printed of it
    module _ (exists : router.number < count t)
        (ends : (a b : ℕ) → IsTrue (is_linked t.topology.links a b) → b < count t) (graph : Graph)
        (flood : IsFlood (net_of shown sights t.topology) (record { router = router; sig = sig }) graph) (mid_s new : State)
        (pends : PrintsPending t barriers s mid_s)
        (prints : PrintsQuery t (query_items told (count t) barriers sights line.number graph) graph mid_s new) (keep : AllKeepEntries way.entries agents after) where
      agree : AgreeBelow (count t) (net_of shown sights t.topology) (net_at (rules_of t) t.topology G query)
      agree = record {
        hit = λ n h. read_of (λ (x : S). (shown x).hit n.sig) false n.router.number h ∙ (sight_ok n.router.number h).hit n.sig;
        origins = λ n h x.
            let e = read_of (λ (y : S). (shown y).origins n.sig) [] n.router.number h in
            let P : List Sig → Type 0 = λ ss. Contains ss x in
            let both = (sight_ok n.router.number h).origins n.sig x in
            ((λ i. both.0 (subst P e i)), (λ i. subst P (sym e) (both.1 i)));
        linked = λ r q. refl;
        missing = λ r h. read_of (λ (x : S). (shown x).missing) false r h ∙ (sight_ok r h).missing;
        ends = ends;
      }

      -- the line of a router's pages
      abbrev pages_by : (r : ℕ) → Ledger → Reading → Item
      pages_by r l x =
          let ps = window (rules_of t r) l.account time in
          item.Pages line.number (record { number = r }) (range_of (expired_by (rules_of t r) l ps)) (map bad_of x.unread) (map page_no (used_by (rules_of t r) l ps x))

      abbrev told_of : Option PageRange → List Unreadable → List PageNo → Reading → Told
      told_of expired unreadable used reading = record { expired = expired; unreadable = unreadable; used = used; reading = reading }

      pages_is : (r : ℕ) → r < count t → item_at told sights line.number r ≡ pages_item t G line.number query r
      pages_is r l =
          let x = told (sight_of r l) in
          let e = seen r l in
          let expired = range_of (expired_by (rules_of t r) (behind r) (pages r)) in
          let unreadable = map unreadable_of x.reading.unread in
          read_of (λ (y : S). sight_item line.number r (told y)) item.Head r l
          ∙ ap (λ (o : Option PageRange). sight_item line.number r (told_of o x.unreadable x.used x.reading)) e.expired_is
          ∙ ap (λ (o : List Unreadable). sight_item line.number r (told_of expired o x.used x.reading)) e.unreadable_is
          ∙ ap (λ (o : List PageNo). sight_item line.number r (told_of expired unreadable o x.reading)) e.used_is
          ∙ ap (λ (o : List Bad). item.Pages line.number (record { number = r }) expired o (map page_no (used_by (rules_of t r) (behind r) (pages r) x.reading))) (bads_named x.reading.unread)
          ∙ ap (λ (o : Reading). pages_by r (behind r) o) (sym (reads_is r l))
          ∙ ap (λ (o : Ledger). pages_by r o (reads r)) (sym (link r l))

      abbrev items : List Item
      items = query_items told (count t) barriers sights line.number graph

      abbrev front : List Item
      front = item.Query line.number ∷ flat_map (left_items line.number (lefts_of barriers)) (routers t) ++ map (pages_item t G line.number query) (routers t)

      items_is : items ≡ front ++ graph_items line.number graph
      items_is = ap (λ (xs : List Item). item.Query line.number ∷ flat_map (left_items line.number (lefts_of barriers)) (routers t) ++ xs ++ graph_items line.number graph)
          (map_same (item_at told sights line.number) (pages_item t G line.number query) 0 (count t) (count t) (omega arith) pages_is)

      are : AreItems t F G line.number event items
      are = (graph, flood_same (count t) _ _ (record { router = router; sig = sig }) graph exists agree flood, items_is)

      front_quiet : AreQuiet front
      front_quiet = quiet_cons _ _ (λ z. refl) (quiet_append _ _ (quiet_flat_map (left_items line.number (lefts_of barriers)) (quiet_left line.number (lefts_of barriers)) (routers t)) (quiet_map (pages_item t G line.number query) (λ z r. refl) (routers t)))

      items_totals : (z : Totals) → fold with_answer z items ≡ with_answer z (answer_item line.number graph)
      items_totals z =
          ap (λ (xs : List Item). fold with_answer z xs) items_is ∙ fold_append front (graph_items line.number graph) z
          ∙ ap (λ y. fold with_answer y (graph_items line.number graph)) (front_quiet.each z) ∙ graph_totals line.number graph z

      printed : IsPrinted t G [] new.report.items new.totals
      printed =
          let r = old.reported in
          let p = r.printed in
          let text = text_of t in
          let waits = pending_items f (pending_of seg) in
          let before : mid_s.report.items ≡ text (p.items ++ waits) =
          text_whole t f p.items r.early (pending_at t s) (pending_of seg) s.report.items mid_s.report.items (p.report_is f) pends.report r.pending_is in
          let e1 = ap length pends.report ∙ length-append s.report.items (text (pending_items f (pending_at t s))) in
          let up : length mid_s.report.items + 1 ≤ length new.report.items = longer t.topology.names line.number _ mid_s.report.items new.report.items prints.report in
          let M : Totals → Type 0 = λ z. AreMore z new.totals in
          record {
            items = (p.items ++ waits) ++ items;
            answered = (p.items ++ waits, items, items_filled t f seg history p.items old.ordered.inner p.answered, are, refl);
            report_is = λ f'. prints.report ∙ ap (λ l. l ++ text items) before ∙ sym (flat_map-append _ (p.items ++ waits) items)
                ∙ ap (λ (xs : List Item). text xs) (sym (append-nil ((p.items ++ waits) ++ items)));
            totals_are =
                prints.totals ∙ ap (λ (z : Totals). with_answer z (answer_item line.number graph)) (pends.totals ∙ p.totals_are)
                ∙ sym (fold_append (p.items ++ waits) items no_totals ∙ ap (λ (z : Totals). fold with_answer z items) (fold_append p.items waits no_totals ∙ (quiet_pending f (pending_of seg)).each (totals_of p.items)) ∙ items_totals (totals_of p.items));
            few = few_more s.totals new.totals (length s.report.items) (length new.report.items) (omega (arith, e1, up)) p.few (subst M pends.totals prints.more);
          }

      pub query_closes : (g : Splits) × (e : Event) × IsEventOf t.sigs line.what e × Stands way stands t start (moment_of line.number e ∷ filled g seg history) [] after new now
      query_closes =
          let T : ℕ → Type 0 = λ c. c < 2 ^ 48 in (
            f,
            event,
            event_is,
            stands_closed way stands t start history seg agents after s was mid old s.clock false barriers all line.number event refl link new now
                (prints.clock ∙ pends.clock ∙ sym clock_now) (subst T (sym (prints.clock ∙ pends.clock)) old.clock_fits) (first_behind way stands t start history seg agents after s was mid old s.clock false barriers all (moment_of line.number event) mid_s new pends prints.first) (prints.answers ∙ pends.answers) tt
                keep events_right printed shelf_after,
          )

-- ---- what the calls require

pub agents_past : {A : Type 0} (way : Way A) (stands : Standing A) (t : Trace) (line : Line) (agents after : List A) (s : State) (was mid : ShelfView) (ready : IsNext way stands t line agents s was) (barriers : List Barrier) → PassesAll stands s.clock false agents after barriers was mid
    → (time : ℕ) → time ≤ s.clock → All (IsPast stands time) after
agents_past way stands t line agents after s was mid ready barriers all time up k d l =
    let old = ready.3 in
    let f = splits_of barriers in
    let before_of : ℕ → Ledger = λ r. ledger (rules_of t) r (filled f ready.2 ready.1) in
    let l0 : k < count t = subst (λ (n : ℕ). k < n) (all.same ∙ old.count_is) l in
    (rules_of t k, passed_by (rules_of t) s.clock false barriers before_of k, nothing_unfinished, (at way stands t ready.0 ready.1 ready.2 agents after s was mid old s.clock false barriers all k d l0).stands_now, up)

pub router_exists : {A : Type 0} (way : Way A) (stands : Standing A) (t : Trace) (line : Line) (agents : List A) (s : State) (now : ShelfView) (router : RouterId) (packet time : ℕ) → line.what ≡ what.Query router packet time → IsNext way stands t line agents s now → (router.number < count t) × (time ≤ s.clock)
router_exists way stands t line agents s now router packet time is ready =
    let P : What → Type 0 = λ w. IsWithin (count t) (length t.sigs) w in
    let Q : What → Type 0 = λ w. FitsClock s.clock w in
    ((subst P is ready.4.within).0, subst Q is ready.4.timed)
