-- How a replay begins and ends.
use Rattle.std.proofs.Common.{ℕ, ◌≡◌, ◌<◌, ◌+◌, ◌-◌, ◌∷◌, [], ◌++◌, ◌∙◌, Bool, true, false, ◌==◌, List, length, get_or, take, sym, ap, refl, subst, arith, append-nil}
use Rattle.std.specs.Prelude.{slice_get, Some, is_some}
use Rattle.std.proofs.lemmas.Bool.{false≢true}
use Rattle.std.proofs.Math.Seq.{take-length}
use Rattle.spie_base.proofs.Membership.{has_none}
use Rattle.spie_base.specs.Shapes.{shape_of}
use Rattle.spie_base.specs.declared.Entry.{Entry}
use Rattle.spie_base.specs.declared.PageShape.{PageShape}
use Rattle.page_gate.specs.Held.{PlaneId}
use Rattle.report_text.specs.declared.Item.{Item}
use Rattle.report_text.specs.declared.Item.TheVariants.{Head}
use Rattle.trace_format.specs.declared.Line.{Line}
use Rattle.trace_format.specs.declared.Trace.{Trace}
use Rattle.trace_format.specs.Sound.{IsSound, AreTimed}
use Rattle.router_account.specs.Ledger.{Unfinished, first_ledger, nothing_unfinished, no_split}
use Rattle.router_account.specs.Shelves.{ShelfView}
use Rattle.data_agent.specs.Beside.{out_of}
use Rattle.data_agent.specs.Planes.{entries_of}
use Rattle.data_agent.specs.Standing.{StandsFor}
use Rattle.data_agent.specs.declared.Agent.{Agent}
use Rattle.trace_history.specs.declared.Totals.{Totals}
use Rattle.trace_history.specs.History.{History, IsHistoryOf}
use Rattle.trace_history.specs.Outcomes.{fault_marks}
use Rattle.trace_history.specs.Receipts.{IsLegal}
use Rattle.trace_history.specs.Replay.{IsPossible}
use Rattle.trace_history.specs.Report.{text_of}
use Rattle.trace_history.specs.Routers.{count, rules_of, sum_over}
use Rattle.trace_history.specs.Workers.{YardView, AreAnswered, IsYardOf, IsReplayedBy, gathered}
use Rattle.trace_history.proofs.Sequential.{sequential_is_legal}
use Rattle.trace_history.proofs.YardFacts.{pages_view}
use Rattle.trace_replay.specs.declared.state.Answer.{Answer}
use Rattle.trace_replay.specs.declared.state.State.{State}
use Rattle.trace_replay.specs.Agents.{Standing}
use Rattle.trace_replay.specs.Loop.{HasDone}
use Rattle.trace_replay.specs.Segments.{IsBarred, Splits, Pending, filled, is_barrier_line, numbered, pending_items}
use Rattle.trace_replay.specs.Standing.{AreSplits, Way, Stands, IsBegun, AreLinesRight, AreGathered, IsRight, IsKeptOn, AreFew}
use Rattle.trace_replay.specs.Yards.{AreBeside, by_workers, yard_view, yard_views}
use Rattle.trace_replay.proofs.Answered.{right_begun}
use Rattle.trace_replay.proofs.Filled.{archive_is}
use Rattle.trace_replay.proofs.Gathering.{worked_none}
use Rattle.trace_replay.proofs.Beside.{length_views, view_there}
use Rattle.trace_replay.proofs.Reported.{none_early}
use Rattle.trace_replay.proofs.Sums.{rose_less, rose_none, sum_none, get_at, some_of}

pub stands_begun : {A : Type 0} (way : Way A) (stands : Standing A) (t : Trace) (agents : List A) (s : State) (now : ShelfView) → length agents ≡ count t
    → ((r : ℕ) (d : A) → r < count t → stands (get_or agents r d) (rules_of t r) (first_ledger r) nothing_unfinished) → ((r : ℕ) (d : A) → r < count t → way.entries (get_or agents r d) ≡ []) → IsBegun t s → Stands way stands t now [] [] agents s now
stands_begun way stands t agents s now count_is first empty begun = record {
  count_is = count_is;
  clock_is = begun.clock;
  clock_fits = let e = begun.clock in omega (arith, e);
  us = λ r. nothing_unfinished;
  us_none = λ r none. refl;
  us_closed = λ f r x h. absurd (has_none x h);
  agents_stand = λ f. record { each = λ r d l. first r d (subst (λ (n : ℕ). r < n) count_is l); numbered = λ r. refl };
  ordered = record { inner = tt; once = tt; barred = tt; forward = tt };
  gathered_are = λ r d l. empty r d l ∙ sym (worked_none way.workers r);
  right = record { lines = right_begun (way.workers == 1) way.workers t; allowed_before = tt; allowed = λ f hyp. tt; same_digests = tt; read = tt };
  reported = record {
    early = [];
    first_is = begun.first;
    pending_is = ap (λ (xs : List Answer). numbered t.lines s.first xs) begun.answers;
    printed = record {
      items = Head ∷ [];
      answered = refl;
      report_is = λ f. begun.report;
      totals_are = begun.totals;
      few = let F : Totals → Type 0 = λ z. AreFew z (length s.report.items) in
          subst F (sym begun.totals) (record { nodes = omega arith; edges = omega arith; unknown = omega arith; clear = omega arith });
    };
  };
  shelf = record {
    later = omega arith;
    still = refl;
    paid = rose_less 0 (0 + sum_over (count t) (λ r. 0)) now.faults now.faults (rose_none now.faults now.faults (omega arith)) (let e = sum_none (count t) in omega (arith, e));
    during = tt;
    all_true = λ tells. tt;
    only_faults = λ tells. tt;
    holds = λ tells f r l. record {
      records = record { put = λ page part put live. absurd (has_none page put); gone = λ page part old covered left. absurd (has_none page covered) };
      bits = λ x h. absurd (has_none x h);
      true_bits = λ x h. absurd (has_none x h);
    };
    untouched = λ tells f hyp name apart. refl;
  };
}

pub done_begun : {A : Type 0} (way : Way A) (stands : Standing A) (t : Trace) (agents : List A) (s : State) (now : ShelfView) → IsSound t → IsBegun t s → Stands way stands t now [] [] agents s now → HasDone way stands t now 0 agents s now
done_begun way stands t agents s now sound begun stood =
    let T : ℕ → Type 0 = λ c. AreTimed c t.lines in
    record {
      history = [];
      seg = [];
      lines_are = λ f. refl;
      counted = refl;
      few_records = let n = sound.few_records in omega (arith, n);
      stood = stood;
      timed = subst T (sym begun.clock) sound.timed;
      once = sound.once;
      closed = λ d l b. refl;
    }

-- no archival waits behind a barrier
none_split : (t : Trace) (f : Splits) (history : History) → IsBarred history → AreSplits t f history
none_split t f history barred r closings l came = absurd (false≢true (sym (archive_is (rules_of t) r f [] history tt barred) ∙ ap is_some came))

-- a history up to a barrier is one that its lines and a shelf may have
pub possible : (W : ℕ) (t : Trace) (lines : List Line) (history : History) (us : ℕ → Unfinished) (start now : ShelfView) → IsHistoryOf t.sigs lines history
    → IsBarred history → IsRight W t history [] → IsKeptOn t history [] us start now → IsPossible t lines start now history
possible W t lines history us start now lines_are barred right kept = record {
  lines_are = lines_are;
  allowed = right.allowed_before;
  same_digests = right.same_digests;
  read = right.read;
  shelf = record {
    paid = rose_less (fault_marks (count t) history + sum_over (count t) (λ r. (us r).refused)) (fault_marks (count t) history) start.faults now.faults kept.paid (omega arith);
    during = kept.during;
    all_true = kept.all_true;
    only_faults = kept.only_faults;
    holds = λ tells r l. (kept.holds tells (λ q. no_split) r l).records;
    untouched = λ tells. kept.untouched tells (λ q. no_split) (none_split t (λ q. no_split) history barred);
  };
}

-- the last line is the end
pub last_closes : (t : Trace) (d : Line) → IsSound t → is_barrier_line (get_or t.lines (length t.lines - 1) d).what ≡ true
last_closes t d sound =
    let some = sound.ended.some in
    let i = length t.lines - 1 in
    let line = get_or t.lines i d in
    let within : i < length t.lines = omega (arith, some) in
    let last : i + 1 ≡ length t.lines = omega (arith, some) in
    ap is_barrier_line ((sound.ended.last i line (get_at t.lines i d within)).1 last)

-- the yard of a history that is done
module _ (W : ℕ) (t : Trace) (history : History) (planes : List PlaneId) (agents : List Agent) (beside : AreBeside planes agents) (count_is : length agents ≡ count t)
    (shapes : (r : ℕ) (p : PlaneId) → r < count t → (get_or planes r p).shape ≡ shape_of (rules_of t r) r) (gathered_are : AreGathered (by_workers W) t history [] agents)
    (alone : (r : ℕ) (a : Agent) → r < count t → out_of (get_or agents r a) ≡ 0) where
  view_is : (r : ℕ) (p : PlaneId) (a : Agent) → r < count t → yard_view (get_or planes r p) (get_or agents r a) ≡ record { shape = shape_of (rules_of t r) r; entries = gathered W r history; out = 0 }
  view_is r p a l =
      let E : PageShape → Type 0 = λ shape. yard_view (get_or planes r p) (get_or agents r a) ≡ record { shape = shape; entries = entries_of (get_or agents r a); out = out_of (get_or agents r a) } in
      subst E (shapes r p l) refl
      ∙ ap (λ (es : List Entry). pages_view (shape_of (rules_of t r) r) es (out_of (get_or agents r a)))
      (gathered_are r a l ∙ ap (λ (es : List Entry). gathered W r history ++ es) (worked_none W r) ∙ append-nil (gathered W r history))
      ∙ ap (pages_view (shape_of (rules_of t r) r) (gathered W r history)) (alone r a l)

  some_view : (r : ℕ) → r < count t → slice_get (yard_views planes agents) r ≡ Some (record { shape = shape_of (rules_of t r) r; entries = gathered W r history; out = 0 })
  some_view r l =
      let within : r < length agents = omega (arith, l, count_is) in
      let c = beside.count in
      let p = some_of planes r (omega (arith, c, within)) in
      let a = some_of agents r within in
      view_there planes agents r p a c within ∙ ap (λ (v : YardView). Some v) (view_is r p a l)

  pub yard_left : IsYardOf W t history (yard_views planes agents)
  yard_left = record { size = length_views planes agents beside.count ∙ count_is; each = some_view }

-- lines that are right are answered as those of W workers
answered_as : (alone : Bool) (W : ℕ) (t : Trace) (history : History) → AreLinesRight alone W t history [] → IsLegal W (rules_of t) history × AreAnswered alone (rules_of t) history
answered_as true W t history right =
    let f : Splits = λ r. no_split in (sequential_is_legal W (rules_of t) history (right.sequential f), (right.sequential f, right.watched f))
answered_as false W t history right = (right.legal, right.between)

-- all lines are done
pub replayed : (W : ℕ) (t : Trace) (start now : ShelfView) (d : Line) (planes : List PlaneId) (agents : List Agent) (s : State) (text : List ℕ) → IsSound t → HasDone (by_workers W) StandsFor t start (length t.lines) agents s now
    → text ≡ s.report.items → AreBeside planes agents → ((r : ℕ) (p : PlaneId) → r < count t → (get_or planes r p).shape ≡ shape_of (rules_of t r) r)
    → IsReplayedBy W t text s.totals (record { shelf_before = start; shelf_after = now }) (yard_views planes agents)
replayed W t start now d planes agents s text sound done is beside shapes =
    let none : done.seg ≡ [] = done.closed d sound.ended.some (last_closes t d sound) in
    let S : History → Type 0 = λ seg. Stands (by_workers W) StandsFor t start done.history seg agents s now in
    let L : History → Type 0 = λ seg. (f : Splits) → IsHistoryOf t.sigs (take (length t.lines) t.lines) (filled f seg done.history) in
    let H : List Line → Type 0 = λ ls. IsHistoryOf t.sigs ls done.history in
    let stood = subst S none done.stood in
    let f : Splits = λ r. no_split in
    let answered = answered_as (W == 1) W t done.history stood.right.lines in
    let p = stood.reported.printed in
    let text_is : s.report.items ≡ text_of t p.items =
    p.report_is f ∙ ap (λ (xs : List Pending). text_of t (p.items ++ pending_items f xs)) (none_early t done.history [] s stood.reported refl) ∙ ap (λ (xs : List Item). text_of t xs) (append-nil p.items) in
    record {
      history = done.history;
      legal = answered.0;
      answered = answered.1;
      done = possible W t t.lines done.history stood.us start now (subst H (take-length t.lines) (subst L none done.lines_are f)) stood.ordered.barred stood.right stood.shelf;
      report = record { items = p.items; answered = p.answered; text_is = is ∙ text_is; totals_are = p.totals_are };
      yard_is = yard_left W t done.history planes agents beside stood.count_is shapes stood.gathered_are
          (λ r a l. let many = stood.count_is in ((stood.agents_stand f).each r a (omega (arith, l, many))).amid.pages.keeping.alone);
    }
