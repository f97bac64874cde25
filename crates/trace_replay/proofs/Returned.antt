-- A segment's passes have come back.
use Rattle.std.proofs.Common.{ℕ, zero, suc, ◌≡◌, ◌≤◌, ◌<◌, ◌+◌, ◌-◌, ◌∷◌, [], ◌++◌, ◌∙◌, ⊎_elim, All, Bool, true, false, cond, ◌==◌, List, length, get_or, map, sym, ap, refl, subst, arith}
use Rattle.std.specs.Prelude.{Vec, nat_lt, nat_le, ◌&&◌, ◌||◌}
use Rattle.std.specs.List.{Contains, flat_map}
use Rattle.std.specs.declared.alloc.Global.{Global}
use Rattle.spie_base.proofs.Membership.{has_first, into_flat_map}
use Rattle.std.proofs.lemmas.Bool.{false≢true, eq-eqb}
use Rattle.std.proofs.lemmas.Bool.Decides.{nat_tests}
use Rattle.std.proofs.lemmas.List.{get_or-map, length-map}
use Rattle.std.proofs.lemmas.List.Elements.{Contains-append_cases, Contains-append_left, Contains-append_right}
use Rattle.spie_base.specs.declared.Entry.{Entry}
use Rattle.spie_base.specs.declared.PageNo.{PageNo}
use Rattle.spie_base.specs.declared.Rules.{Rules}
use Rattle.spie_base.specs.declared.Sig.{Sig}
use Rattle.gate_core.specs.Invariant.{IsRising}
use Rattle.page_gate.specs.Held.{Home, PassHeld, PlaneId}
use Rattle.page_catalogue.specs.Pages.{open_page, is_expired, closed}
use Rattle.router_account.specs.Account.{RowIn, below}
use Rattle.router_account.specs.Ledger.{Ledger, no_split}
use Rattle.router_account.specs.Records.{ArePageBits}
use Rattle.router_account.specs.Shelves.{ShelfView}
use Rattle.router_account.specs.Watches.{shows}
use Rattle.data_agent.specs.Beside.{AreFrom, IsGathered}
use Rattle.data_agent.specs.Laws.{EntriesExist}
use Rattle.data_agent.specs.Planes.{entries_of}
use Rattle.data_agent.specs.Standing.{StandsFor}
use Rattle.data_agent.specs.declared.Agent.{Agent}
use Rattle.trace_format.specs.declared.Line.{Line}
use Rattle.trace_format.specs.declared.Trace.{Trace}
use Rattle.trace_format.specs.Sound.{records}
use Rattle.trace_history.specs.History.{History, account}
use Rattle.trace_history.specs.Ledgers.{ledger, puts}
use Rattle.trace_history.specs.Receipts.{Receipt, open_at, up_to_barrier}
use Rattle.trace_history.specs.Routers.{count, rules_of}
use Rattle.trace_history.specs.Workers.{entry_by, share_of}
use Rattle.trace_workers.specs.declared.Job.{Job}
use Rattle.trace_workers.specs.Jobs.{AreShares, HaveWorked, HasPageAt, entries_at, floors_of, page_at, pages_of, planes_tables, receipts_in, tables_of}
use Rattle.trace_workers.specs.Laws.{AreRisingTurns, AreSharesOf}
use Rattle.trace_workers.specs.Records.{entries_by, lines_at, lines_between, receipts_by, segment_places}
use Rattle.trace_workers.proofs.AllShares.{columns_are_worked, shares_are_all}
use Rattle.trace_workers.proofs.RisingTurns.{rising_shares_rise}
use Rattle.trace_workers.proofs.Segments.{places_are_of_records}
use Rattle.trace_workers.proofs.SharedOut.{shared}
use Rattle.trace_replay.specs.declared.state.Answer.{Answer}
use Rattle.trace_replay.specs.declared.state.State.{State}
use Rattle.trace_replay.specs.Aways.{besides, reads}
use Rattle.trace_replay.specs.Concluding.{HavePagesFor, IsNearby, MayAddRows, pages_for, receipts_for}
use Rattle.trace_replay.specs.Dealt.{HaveBack, HaveDealt, HaveGathered, MayGatherAll, away_of, column_of, fresh_passes}
use Rattle.trace_replay.specs.Operating.{HasOperated, Operates}
use Rattle.trace_replay.specs.Segmenting.{IsSegment, FitSegment}
use Rattle.trace_replay.specs.Segments.{Splits, filled}
use Rattle.trace_replay.specs.Standing.{Stands}
use Rattle.trace_replay.specs.Yards.{by_workers}
use Rattle.trace_replay.proofs.BetweenApart.{lists_kept}
use Rattle.trace_replay.proofs.Closed.{closed_history}
use Rattle.trace_replay.proofs.DealtMore.{fresh_at, fresh_length}
use Rattle.trace_replay.proofs.Filled.{up_filled}
use Rattle.trace_replay.proofs.Readied.{fresh_tables}
use Rattle.trace_replay.proofs.RowCounts.{rows_history}
use Rattle.trace_replay.proofs.Sums.{some_of}
use Rattle.trace_replay.proofs.TakenMore.{same_items}
use Rattle.trace_replay.proofs.Together.{with_entries}

-- new passes have no entries
fresh_none : (planes : List PlaneId) (agents : List Agent) (r : ℕ) → entries_at (fresh_passes planes agents) r ≡ []
fresh_none [] agents r = refl
fresh_none (plane ∷ planes) [] r = refl
fresh_none (plane ∷ planes) (agent ∷ agents) zero = refl
fresh_none (plane ∷ planes) (agent ∷ agents) (suc r) = fresh_none planes agents r

receipts_short : (sigs : List Sig) (lines : List Line) (pages : List PageNo) → length (receipts_by sigs lines pages) ≤ length lines
receipts_short sigs [] pages = omega arith
receipts_short sigs (line ∷ lines) [] = omega arith
receipts_short sigs (line ∷ lines) (page ∷ pages) = let l = receipts_short sigs lines pages in omega (arith, l)

entry_in : (b : Bool) (x : Entry) → b ≡ true → Contains (cond b (x ∷ []) []) x
entry_in true x e = has_first x []
entry_in false x e = absurd (false≢true e)

-- the entry of a receipt is among those of all
entry_there : (r : ℕ) (ys : List Receipt) (x : Receipt) → Contains ys x → x.hop.router ≡ r → Contains (entries_by r ys) (record { page = record { number = x.page }; sig = x.hop.sig })
entry_there r ys x h e =
    let entry : Entry = record { page = record { number = x.page }; sig = x.hop.sig } in
    into_flat_map (entry_by r) ys x entry h (entry_in (x.hop.router == r) entry (eq-eqb x.hop.router r e))

not_less : (a b : ℕ) → b ≤ a → nat_lt a b ≡ false
not_less a b l = grind (arith, nat_tests)

-- a page that was open at a barrier, or one behind it, was not expired there
open_live : (rules : Rules) (closings : List ℕ) (clock page : ℕ) → length closings ≤ page → is_expired rules closings clock page ≡ false
unfolding is_expired
open_live rules closings clock page l = ap (λ b. b && (nat_le (page + 1 + rules.keep) (length closings) || nat_le rules.age (clock - closed closings page))) (not_less page (length closings) l)

module _ (t : Trace) (from to W : ℕ) (planes : List PlaneId) (agents0 : List Agent) (jobs2 jobs3 : List Job) (some : 2 ≤ W) (long2 : length jobs2 ≡ W) (beside : length planes ≡ length agents0) (many : length planes ≡ count t)
    (shares : AreShares t from to jobs2) (fresh : (w : ℕ) (d : Job) → w < W → (get_or jobs2 w d).passes.items ≡ fresh_passes planes agents0) (worked : HaveWorked t planes jobs2 jobs3) where
  abbrev xs : List Receipt
  xs = receipts_in t from to (pages_of jobs3)

  positive : 0 < W
  positive = omega (arith, some)

  pub of_shares : AreSharesOf t planes from to jobs2 jobs3
  of_shares = shared t planes from to jobs2 jobs3 (omega (arith, some, long2)) shares worked

  long3 : length jobs3 ≡ W
  long3 = worked.many ∙ long2

  tables3 : (w : ℕ) (d : Job) → w < W → tables_of (get_or jobs3 w d).passes.items ≡ planes_tables planes
  tables3 w d l = (worked.each w d (omega (arith, l, long2))).grown.tables ∙ ap (λ (ps : List PassHeld). tables_of ps) (fresh w d l) ∙ fresh_tables planes agents0 beside

  passes_long : (w : ℕ) (d : Job) → w < W → length (get_or jobs3 w d).passes.items ≡ length planes
  passes_long w d l = sym (length-map (get_or jobs3 w d).passes.items (λ (p : PassHeld). p.table)) ∙ ap (λ (ts : List Home). length ts) (tables3 w d l) ∙ length-map planes (λ (p : PlaneId). p.table)

  pub floor3 : (w : ℕ) (d : Job) (r : ℕ) (p : PassHeld) (a : Agent) → w < W → r < length planes → (get_or (get_or jobs3 w d).passes.items r p).floor ≡ (get_or agents0 r a).page.number
  floor3 w d r p a l m =
      let P = (get_or jobs3 w d).passes.items in
      let F = fresh_passes planes agents0 in
      let n = passes_long w d l in
      let f = fresh_length planes agents0 beside in
      let q = some_of planes r m in
      sym (get_or-map (λ (x : PassHeld). x.floor) P r p 0 (omega (arith, n, m)))
      ∙ ap (λ (ks : List ℕ). get_or ks r 0) ((worked.each w d (omega (arith, l, long2))).grown.floors ∙ ap (λ (ps : List PassHeld). floors_of ps) (fresh w d l))
      ∙ get_or-map (λ (x : PassHeld). x.floor) F r p 0 (omega (arith, f, m)) ∙ ap (λ (x : PassHeld). x.floor) (fresh_at planes agents0 r q a p beside m)

  entries3 : (w : ℕ) (d : Job) (r : ℕ) (p : PassHeld) → w < W → r < length planes → (get_or (get_or jobs3 w d).passes.items r p).entries ≡ share_of W w r 0 xs
  entries3 w d r p l m =
      let P = (get_or jobs3 w d).passes.items in
      let n = passes_long w d l in
      sym (get_or-map (λ (x : PassHeld). x.entries) P r p [] (omega (arith, n, m)))
      ∙ of_shares.entries w r d (omega (arith, l, long2)) m
      ∙ ap (λ (es : List Entry). es ++ share_of (length jobs2) w r 0 xs) (ap (λ (ps : List PassHeld). entries_at ps r) (fresh w d l) ∙ fresh_none planes agents0 r)
      ∙ ap (λ (k : ℕ). share_of k w r 0 xs) long2

  -- ---- a router's passes in the order of the workers

  abbrev column : PassHeld → ℕ → List PassHeld
  column p r = column_of p jobs3 r

  column_long : (p : PassHeld) (r : ℕ) → length (column p r) ≡ W
  column_long p r = length-map jobs3 (λ (job : Job). get_or job.passes.items r p) ∙ long3

  column_at : (p : PassHeld) (r w : ℕ) (d : Job) (q : PassHeld) → w < W → get_or (column p r) w q ≡ get_or (get_or jobs3 w d).passes.items r p
  column_at p r w d q l = get_or-map (λ (job : Job). get_or job.passes.items r p) jobs3 w d q (omega (arith, l, long3))

  job_at : (w : ℕ) → w < W → Job
  job_at w l = some_of jobs3 w (omega (arith, l, long3))

  pub column_entries : (p : PassHeld) (r : ℕ) → r < length planes → flat_map (λ (x : PassHeld). x.entries) (column p r) ≡ flat_map (λ w. share_of W w r 0 xs) (below W)
  column_entries p r m = columns_are_worked W r xs (column p r) (column_long p r)
      (λ w q l. ap (λ (x : PassHeld). x.entries) (column_at p r w (job_at w l) q l) ∙ entries3 w (job_at w l) r p l m)

  pub column_from : (p : PassHeld) (r since : ℕ) (a : Agent) → r < length planes → (get_or agents0 r a).page.number ≡ since → AreFrom since (column p r)
  column_from p r since a m e k d l =
      let n = column_long p r in
      let lw : k < W = omega (arith, l, n) in
      let j = job_at k lw in
      let f = floor3 k j r p a lw m in
      let P : PassHeld → Type 0 = λ x. since ≤ x.floor in
      subst P (sym (column_at p r k j d lw)) (omega (arith, f, e))

  pub turns_rise : (p : PassHeld) (r since : ℕ) (a : Agent) → r < length planes → (get_or agents0 r a).page.number ≡ since → All (λ (x : PassHeld). IsRising x.floor x.entries) (column p r) → AreRisingTurns W r since xs
  turns_rise p r since a m e rising = rising_shares_rise W r since xs positive
      (λ w l.
      let j = job_at w l in
      let n = column_long p r in
      let here = rising w p (omega (arith, l, n)) in
      let at = column_at p r w j p l in
      let P : PassHeld → Type 0 = λ x. IsRising x.floor x.entries in
      let Q : ℕ → Type 0 = λ k. IsRising k (get_or (get_or jobs3 w j).passes.items r p).entries in
      let R : List Entry → Type 0 = λ es. IsRising since es in
      subst R (entries3 w j r p l m) (subst Q (floor3 w j r p a l m ∙ e) (subst P at here)))

  -- a pass of a router, of which there are some
  pub a_pass : (r : ℕ) → r < length planes → PassHeld
  a_pass r m =
      let l : 0 < W = positive in
      let j = job_at 0 l in
      let n = passes_long 0 j l in
      some_of (get_or jobs3 0 j).passes.items r (omega (arith, n, m))

  module _ (agents1 agents2 : List Agent) (s : State) (was now start : ShelfView) (history : History) (old : Stands (by_workers W) StandsFor t start history [] agents0 s was)
      (dealt : HaveDealt W (length planes) agents0 agents1) (given : List Answer)
      (operated : HasOperated besides reads t start history (λ r. away_of W (ledger (rules_of t) r history)) (lines_between t.lines from to) (length (lines_between t.lines from to)) agents2 s.clock given now) where
    abbrev stood : Operates besides reads t start history (λ r. away_of W (ledger (rules_of t) r history)) operated.ops agents2 s.clock given now
    stood = operated.stood

    abbrev O : Splits → ℕ → Ledger
    O f r = ledger (rules_of t) r (filled f operated.ops history)

    abbrev since : ℕ → ℕ
    since r = open_at (rules_of t) r history

    pub page_is : (r : ℕ) (a : Agent) → r < length planes → (get_or agents0 r a).page.number ≡ since r
    page_is r a m =
        let f : Splits = λ q. no_split in
        (dealt.dealt r a m).floor (rules_of t r) (ledger (rules_of t) r history) (old.us r) ((old.agents_stand f).each r a (omega (arith, m, beside)))

    pub may_gather_all : MayGatherAll planes agents2 jobs3
    may_gather_all = record {
      tables = λ w d l. tables3 w d (omega (arith, l, long3));
      each = λ r a l.
          let f : Splits = λ q. no_split in
          let c = stood.count_is in
          let lr : r < count t = omega (arith, l, c) in (
            rules_of t r,
            O f r,
            stood.us r,
            away_of W (ledger (rules_of t) r history),
            stood.agents_stand f r a lr,
            long3,
            (λ w d p m.
                let lw : w < W = omega (arith, m, long3) in
                let lp : r < length planes = omega (arith, lr, many) in
                let b = some_of agents0 r (omega (arith, lp, beside)) in
                let e = floor3 w d r p b lw lp in
                let g = page_is r b lp in
                omega (arith, e, g)),
          );
    }

    module _ (agents3 : List Agent) (jobs4 : List Job) (gathered : HaveGathered jobs3 agents2 agents3) (back : HaveBack jobs3 jobs4) (law : EntriesExist) (is : IsSegment t from to) (fit : FitSegment t history from to) where
      same_pages : pages_of jobs4 ≡ pages_of jobs3
      same_pages =
          let f : Job → List PageNo = λ job. job.pages.items in
          let m = back.many in
          let a = length-map jobs4 f in
          let b = length-map jobs3 f in
          same_items (map f jobs4) (map f jobs3) (omega (arith, a, b, m))
          (λ k d l.
          let l3 : k < length jobs3 = omega (arith, l, a, m) in
          let j = some_of jobs3 k l3 in
          get_or-map f jobs4 k j d (omega (arith, l, a)) ∙ ap (λ (v : Vec PageNo Global). v.items) (back.each k j l3).pages ∙ sym (get_or-map f jobs3 k j d l3))

      same_lines : lines_at t.lines (segment_places t.lines from to) ≡ records (lines_between t.lines from to)
      same_lines =
          let w = is.within in
          places_are_of_records t.lines from to (omega (arith, w))

      same_count : length (segment_places t.lines from to) ≡ length (records (lines_between t.lines from to))
      same_count = sym (length-map (segment_places t.lines from to) _) ∙ ap (λ (ls : List Line). length ls) same_lines

      pub receipts_are : receipts_for t (lines_between t.lines from to) jobs4 ≡ xs
      receipts_are =
          let R : List Line → ℕ → List (List PageNo) → List Receipt = λ ls n ps. receipts_by t.sigs ls (map (page_at ps) (below n)) in
          let n = length (records (lines_between t.lines from to)) in
          ap (λ (ps : List (List PageNo)). R (records (lines_between t.lines from to)) n ps) same_pages
          ∙ ap (λ (ls : List Line). R ls n (pages_of jobs3)) (sym same_lines) ∙ ap (λ (k : ℕ). R (lines_at t.lines (segment_places t.lines from to)) k (pages_of jobs3)) (sym same_count)

      pub have_pages : HavePagesFor (lines_between t.lines from to) jobs4
      have_pages j l =
          let P : List (List PageNo) → Type 0 = λ ps. HasPageAt ps j in
          subst P (sym same_pages) (of_shares.read j (let e = same_count in omega (arith, l, e)))

      -- what each agent stands for now
      abbrev K : Splits → ℕ → Ledger
      K f r = record (O f r) { account = with_entries (O f r) (entries_by r xs) }

      all_members : (f : Splits) (r : ℕ) (p : PassHeld) → r < length planes → IsGathered (O f r) (flat_map (λ (x : PassHeld). x.entries) (column p r)) (K f r)
      all_members f r p m =
          let E = (O f r).account.entries in
          let all = shares_are_all W r xs positive in
          let M : List Entry → Type 0 = λ ms. IsGathered (O f r) ms (K f r) in
          let S = flat_map (λ w. share_of W w r 0 xs) (below W) in
          subst M (sym (column_entries p r m)) (record {
            rest = refl;
            members = λ e. (
              (λ h. ⊎_elim (λ (a : Contains E e). Contains-append_left E S e a) (λ (b : Contains (entries_by r xs) e). Contains-append_right E S e ((all e).1 b)) (Contains-append_cases E (entries_by r xs) e h)),
              (λ h. ⊎_elim (λ (a : Contains E e). Contains-append_left E (entries_by r xs) e a) (λ (b : Contains S e). Contains-append_right E (entries_by r xs) e ((all e).0 b)) (Contains-append_cases E S e h)),
            );
          })

      in_planes : (r : ℕ) → r < count t → r < length planes
      in_planes r l = omega (arith, l, many)

      from_column : (r : ℕ) (l : r < count t) → AreFrom (since r) (column (a_pass r (in_planes r l)) r)
      from_column r l =
          let m = in_planes r l in
          let b = some_of agents0 r (omega (arith, m, beside)) in column_from (a_pass r m) r (since r) b m (page_is r b m)

      in_agents : (r : ℕ) → r < count t → r < length agents2
      in_agents r l = let c = stood.count_is in omega (arith, l, c)

      pub stands3 : (f : Splits) (r : ℕ) (a : Agent) → r < count t → StandsFor (get_or agents3 r a) (rules_of t r) (K f r) (stood.us r)
      stands3 f r a l =
          let p = a_pass r (in_planes r l) in
          (gathered.each r a p (in_agents r l)).stands (rules_of t r) (O f r) (stood.us r) (away_of W (ledger (rules_of t) r history)) (stood.agents_stand f r a l) (from_column r l) (K f r) (all_members f r p (in_planes r l))

      an_agent : (r : ℕ) → r < count t → Agent
      an_agent r l = some_of agents2 r (in_agents r l)

      pub bits3 : (f : Splits) (r : ℕ) → r < count t → ArePageBits (rules_of t r) (K f r).account (stood.us r)
      bits3 f r l =
          let p = a_pass r (in_planes r l) in
          let a = an_agent r l in
          (gathered.each r a p (in_agents r l)).bits (rules_of t r) (O f r) (stood.us r) (away_of W (ledger (rules_of t) r history)) (stood.agents_stand f r a l) (from_column r l) (K f r) (all_members f r p (in_planes r l))

      pub shown3 : (f : Splits) (r page : ℕ) (sig : Sig) → (r < length agents2) × ((d : Agent) → reads (get_or agents2 r d) page sig) → shows (rules_of t r) (K f r).account sig page ≡ true
      shown3 f r page sig (m, had) =
          let c = stood.count_is in
          let l : r < count t = omega (arith, m, c) in
          let p = a_pass r (in_planes r l) in
          let a = an_agent r l in
          (gathered.each r a p m).shown (rules_of t r) (O f r) (stood.us r) (away_of W (ledger (rules_of t) r history)) (stood.agents_stand f r a l) (from_column r l) (K f r) (all_members f r p (in_planes r l)) page sig (had a)

      pub entries3s : (r : ℕ) (a : Agent) → r < count t → entries_of (get_or agents3 r a) ≡ entries_of (get_or agents2 r a) ++ flat_map (λ w. share_of W w r 0 xs) (below W)
      entries3s r a l =
          let m = in_planes r l in
          let p = a_pass r m in
          (gathered.each r a p (in_agents r l)).entries ∙ ap (λ (es : List Entry). entries_of (get_or agents2 r a) ++ es) (column_entries p r m)

      pub turns3 : (r : ℕ) → r < count t → AreRisingTurns W r (since r) xs
      turns3 r l =
          let m = in_planes r l in
          let p = a_pass r m in
          let b = some_of agents0 r (omega (arith, m, beside)) in
          turns_rise p r (since r) b m (page_is r b m) (gathered.each r (an_agent r l) p (in_agents r l)).rising

      pub exist3 : (r : ℕ) → r < count t → (f : Splits) → (e : Entry) → Contains (entries_by r xs) e → e.page.number ≤ open_at (rules_of t) r (filled f operated.ops history)
      exist3 r l f e h =
          let g = gathered.same in
          let m = in_agents r l in
          let a = some_of agents3 r (omega (arith, m, g)) in
          law (get_or agents3 r a) (rules_of t r) (K f r) (stood.us r) (stands3 f r a l) e (Contains-append_right (O f r).account.entries (entries_by r xs) e h)

      -- ---- the rows may be added

      near_page : (f : Splits) (r page : ℕ) → r < count t → since r ≤ page → page ≤ open_page (O f r).account.closings → IsNearby (rules_of t r) (K f r) page
      near_page f r page l least most =
          let ops = operated.ops in
          let up : up_to_barrier (filled f ops history) ≡ history = up_filled f ops history stood.ordered.inner stood.ordered.barred in
          let n : length (O f r).closings_then ≡ since r = ap (λ (h : History). length (account (rules_of t) r h).closings) up in
          let U : History → Type 0 = λ h. Contains (puts r h) page → page < since r in
          let unput = subst U (sym up) (closed_history (count t) (rules_of t) r history stood.allowed_before page) in
          record {
            exists = most;
            live = open_live (rules_of t r) (O f r).closings_then (O f r).clock_then page (omega (arith, n, least));
            unput = λ c. let u = unput c in absurd (omega (arith, u, least));
          }

      pub may_rows : (f : Splits) → ((x : Receipt) → Contains xs x → x.hop.router < count t) → MayAddRows StandsFor (rules_of t) (K f) stood.us xs agents3
      may_rows f routers = record {
        there = λ r d l. stands3 f r d (let g = gathered.same in let c = stood.count_is in omega (arith, l, g, c));
        near = λ x h.
            let r = x.hop.router in
            let l = routers x h in
            let least = (turns3 r l).from_floor x h refl in
            let most = exist3 r l f (record { page = record { number = x.page }; sig = x.hop.sig }) (entry_there r xs x h refl) in
            near_page f r x.page l least most;
        few = λ r.
            let lists = lists_kept (rules_of t) r f history operated.ops stood.ordered.inner stood.operations_only in
            let rows = ap (λ (rs : List RowIn). length rs) lists.rows in
            let fewer = rows_history (rules_of t) r history in
            let most = fit.few_records in
            let c = ap (λ (rs : List Receipt). length rs) receipts_are in
            let n = receipts_short t.sigs (records (lines_between t.lines from to)) (pages_for (lines_between t.lines from to) jobs4) in
            omega (arith, rows, fewer, most, c, n);
      }
