-- A segment's passes are dealt: workers and operator may begin.
use Rattle.std.proofs.Common.{ℕ, ◌≡◌, ◌≤◌, ◌<◌, ◌+◌, ◌-◌, ◌∷◌, [], ◌∙◌, All, false, List, length, get_or, sym, ap, refl, subst, arith}
use Rattle.std.specs.Prelude.{Vec, vec_len, vec_capacity}
use Rattle.std.specs.List.{Contains}
use Rattle.std.specs.declared.alloc.Global.{Global}
use Rattle.std.proofs.lemmas.List.{take_all}
use Rattle.spie_base.proofs.Membership.{has_none}
use Rattle.spie_base.specs.declared.PageNo.{PageNo}
use Rattle.page_gate.specs.Held.{Home, PassHeld, PlaneId}
use Rattle.router_account.specs.Ledger.{Ledger, Unfinished, no_split}
use Rattle.router_account.specs.Shelves.{ShelfView}
use Rattle.data_agent.specs.Beside.{Away, AreClosedBits}
use Rattle.data_agent.specs.Standing.{StandsFor}
use Rattle.data_agent.specs.declared.Agent.{Agent}
use Rattle.trace_format.specs.declared.Line.{Line}
use Rattle.trace_format.specs.declared.Trace.{Trace}
use Rattle.trace_format.specs.Sound.{IsSound, IsWithin}
use Rattle.trace_history.specs.History.{History}
use Rattle.trace_history.specs.Ledgers.{ledger}
use Rattle.trace_history.specs.Routers.{count, rules_of}
use Rattle.trace_workers.specs.declared.Job.{Job}
use Rattle.trace_workers.specs.Records.{IsRecordAt, lines_between, turns_of, segment_places}
use Rattle.trace_workers.specs.Jobs.{AreReady, AreShares, planes_tables, tables_of}
use Rattle.trace_replay.specs.declared.state.State.{State}
use Rattle.trace_replay.specs.declared.state.Answer.{Answer}
use Rattle.trace_replay.specs.Aways.{besides, reads}
use Rattle.trace_replay.specs.Dealt.{HaveDealt, HaveFresh, away_of, fresh_passes}
use Rattle.trace_replay.specs.Operating.{Operates, FitsOperator, IsAtLine, HasOperated}
use Rattle.trace_replay.specs.Segmenting.{IsSegment, FitSegment, IsAtSegment}
use Rattle.trace_replay.specs.Segments.{Splits, is_barrier_line}
use Rattle.trace_replay.specs.Standing.{Stands}
use Rattle.trace_replay.specs.Yards.{IsStanding, by_workers}
use Rattle.trace_workers.proofs.Segments.{at_between, length_between}
use Rattle.trace_replay.proofs.DealtMore.{fresh_length}

pub fresh_tables : (planes : List PlaneId) (agents : List Agent) → length planes ≡ length agents → tables_of (fresh_passes planes agents) ≡ planes_tables planes
fresh_tables [] agents e = refl
fresh_tables (plane ∷ planes) [] e = absurd (omega (arith, e))
fresh_tables (plane ∷ planes) (agent ∷ agents) e = ap (λ (ts : List Home). plane.table ∷ ts) (fresh_tables planes agents (omega (arith, e)))

-- a line of a segment is one of the trace
pub line_there : (t : Trace) (from to i : ℕ) (d : Line) → from ≤ to → to ≤ length t.lines → i < length (lines_between t.lines from to) → (get_or (lines_between t.lines from to) i d ≡ get_or t.lines (from + i) d) × (i < to - from)
line_there t from to i d l m h =
    let n = length_between from to t.lines l m in
    let less : i < to - from = omega (arith, h, n) in
    (at_between from to i t.lines d h, less)

module _ (t : Trace) (from to W : ℕ) (planes : List PlaneId) (sound : IsSound t) (is : IsSegment t from to) where
  to_in : to ≤ length t.lines
  to_in = let w = is.within in omega (arith, w)

  pub lines_within : (n i : ℕ) (d : Line) → n ≡ count t → i < length (lines_between t.lines from to) → IsWithin n (length t.sigs) (get_or (lines_between t.lines from to) i d).what
  lines_within n i d e l =
      let at = line_there t from to i d is.order to_in l in
      let w = is.within in
      let m = at.1 in
      let P : Line → Type 0 = λ x. IsWithin n (length t.sigs) x.what in
      let Q : ℕ → Type 0 = λ k. IsWithin k (length t.sigs) (get_or t.lines (from + i) d).what in
      subst P (sym at.0) (subst Q (sym e) (sound.within (from + i) d (omega (arith, m, w))))

  pub lines_short : length (lines_between t.lines from to) + from < length t.lines
  lines_short = let n = length_between from to t.lines is.order to_in in let w = is.within in let o = is.order in omega (arith, n, w, o)

  module _ (agents0 : List Agent) (s : State) (was : ShelfView) (ready : IsAtSegment (by_workers W) StandsFor t from to agents0 s was) where
    pub count_there : length agents0 ≡ count t
    count_there = ready.2.count_is

    pub all_standing : All (IsStanding StandsFor) agents0
    all_standing k d l =
        let f : Splits = λ q. no_split in
        (rules_of t k, ledger (rules_of t) k ready.1, ready.2.us k, (ready.2.agents_stand f).each k d l)

  module _ (agents0 agents1 : List Agent) (s : State) (was : ShelfView) (start : ShelfView) (history : History) (old : Stands (by_workers W) StandsFor t start history [] agents0 s was)
      (fit : FitSegment t history from to) (dealt : HaveDealt W (length planes) agents0 agents1) (beside : length planes ≡ length agents0) where
    abbrev aways : ℕ → Away
    aways r = away_of W (ledger (rules_of t) r history)

    none_put : (r : ℕ) (l : Ledger) → AreClosedBits (rules_of t r) l (old.us r)
    none_put r l x h = let P : Unfinished → Type 0 = λ u. Contains u.bits_put x in absurd (has_none x (subst P (old.us_none r refl) h))

    pub operates_first : (given : List Answer) → given ≡ [] → Operates besides reads t start history aways [] agents1 s.clock given was
    operates_first given none =
        let count_is = old.count_is in
        record {
          count_is = dealt.same ∙ old.count_is;
          time_is = old.clock_is;
          time_fits = old.clock_fits;
          us = old.us;
          us_none = old.us_none;
          us_closed = old.us_closed;
          agents_stand = λ f r d l.
              (dealt.dealt r d (omega (arith, l, beside, count_is))).beside (rules_of t r) (ledger (rules_of t) r history) (old.us r)
              ((old.agents_stand f).each r d (omega (arith, l, count_is))) (none_put r (ledger (rules_of t) r history));
          ordered = old.ordered;
          operations_only = tt;
          turns = λ f. tt;
          watched = λ f. tt;
          allowed_before = old.right.allowed_before;
          allowed = λ f hyp. old.right.allowed_before;
          answers_are = none;
          shelf = record {
            later = old.shelf.later;
            still = old.shelf.still;
            paid = old.shelf.paid;
            during = old.shelf.during;
            holds = λ tells f r l. let h = old.shelf.holds tells f r l in record { records = h.records; bits = h.bits };
            untouched = old.shelf.untouched;
          };
        }

    pub fits_operator : FitsOperator t history (lines_between t.lines from to)
    fits_operator = record {
      within = λ i d l. lines_within (count t) i d refl l;
      inner = λ i d l.
          let at = line_there t from to i d is.order to_in l in
          let m = at.1 in
          let P : Line → Type 0 = λ x. is_barrier_line x.what ≡ false in
          subst P (sym at.0) (is.inner (from + i) d (omega arith) (omega (arith, m)));
      once = fit.once;
      few = let a = lines_short in let b = fit.begins in let c = sound.few in omega (arith, a, b, c);
    }

    pub operated_first : (given : List Answer) → given ≡ [] → HasOperated besides reads t start history aways (lines_between t.lines from to) 0 agents1 s.clock given was
    operated_first given none = record { ops = []; lines_are = refl; counted = omega arith; once = fit.once; stood = operates_first given none }

  pub operator_ready : (agents0 agents1 : List Agent) (s : State) (was : ShelfView) → IsAtSegment (by_workers W) StandsFor t from to agents0 s was → HaveDealt W (length planes) agents0 agents1 → length planes ≡ length agents0
      → (given : List Answer) → given ≡ [] → IsAtLine besides reads t (lines_between t.lines from to) 0 agents1 s.clock given was
  operator_ready agents0 agents1 s was (start, history, old, fit) dealt beside given none = (
    start,
    history,
    aways agents0 agents1 s was start history old fit dealt beside,
    fits_operator agents0 agents1 s was start history old fit dealt beside,
    operated_first agents0 agents1 s was start history old fit dealt beside given none,
  )

  -- ---- workers

  module _ (agents0 : List Agent) (jobs1 jobs2 : List Job) (many : length planes ≡ count t) (beside : length planes ≡ length agents0) (shares : AreShares t from to jobs1)
      (passes : HaveFresh (length planes) planes agents0 jobs1 jobs2) where
    pub passes_fresh : (w : ℕ) (d : Job) → w < length jobs1 → (get_or jobs2 w d).passes.items ≡ fresh_passes planes agents0
    passes_fresh w d l = (passes.each w d l).passes_are ∙ take_all (length planes) (fresh_passes planes agents0) (let n = fresh_length planes agents0 beside in omega (arith, n))

    pub shares_still : AreShares t from to jobs2
    shares_still = record {
      each = λ w d l.
          let n = passes.many in
          let lw : w < length jobs1 = omega (arith, l, n) in
          let had = shares.each w d lw in
          let at = passes.each w d lw in
          let T : Vec ℕ Global → Type 0 = λ v. All (IsRecordAt t) v.items in
          let C : Vec ℕ Global → Type 0 = λ v. vec_len v ≤ vec_capacity (get_or jobs2 w d).pages in
          let D : Vec PageNo Global → Type 0 = λ v. vec_len (get_or jobs1 w d).places ≤ vec_capacity v in
          record {
            turns = ap (λ (v : Vec ℕ Global). v.items) at.places ∙ had.turns ∙ ap (λ (k : ℕ). turns_of k w 0 (segment_places t.lines from to)) (sym n);
            records = subst T (sym at.places) had.records;
            none = ap (λ (v : Vec PageNo Global). v.items) at.pages ∙ had.none;
            room = subst C (sym at.places) (subst D (sym at.pages) had.room);
          };
    }

    pub workers_ready : AreReady t planes jobs2
    workers_ready = record {
      each = λ w d l.
          let n = passes.many in
          let lw : w < length jobs1 = omega (arith, l, n) in
          let now = shares_still.each w d l in
          record {
            tables = ap (λ (ps : List PassHeld). tables_of ps) (passes_fresh w d lw) ∙ fresh_tables planes agents0 beside;
            routers = many;
            records = now.records;
            none = now.none;
            room = now.room;
          };
    }
