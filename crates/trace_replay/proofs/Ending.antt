-- A segment and its barrier, wherever they stand in a trace.
use Rattle.std.proofs.Common.{ℕ, zero, suc, ◌≡◌, ◌≤◌, ◌<◌, ◌+◌, ◌-◌, [], ◌++◌, ◌∙◌, ◌⊎◌, inl, inr, ⊎_elim, true, false, List, length, get_or, take, drop, sym, ap, refl, subst, arith}
use Rattle.std.specs.List.{Contains}
use Rattle.std.proofs.lemmas.Bool.{false≢true}
use Rattle.std.proofs.lemmas.List.{nil_from_length}
use Rattle.trace_format.specs.declared.Line.{Line}
use Rattle.trace_format.specs.declared.Trace.{Trace}
use Rattle.trace_format.specs.Sound.{IsSound, AreTimed, AreArchivedOnce, records}
use Rattle.router_account.specs.Shelves.{ShelfView}
use Rattle.trace_history.specs.History.{History, IsHistoryOf}
use Rattle.trace_workers.specs.Records.{lines_between}
use Rattle.trace_workers.proofs.Segments.{length_between}
use Rattle.trace_replay.specs.declared.state.State.{State}
use Rattle.trace_replay.specs.Agents.{Standing}
use Rattle.trace_replay.specs.Loop.{HasDone}
use Rattle.trace_replay.specs.Segmenting.{IsSegment, FitSegment, IsAtSegment, DoesSegment, HasEnded, Ends, HasCut}
use Rattle.trace_replay.specs.Segments.{filled, archived_in, is_barrier_line, no_line, record_count}
use Rattle.trace_replay.specs.Standing.{Way, Stands, IsNext, Closes}
use Rattle.trace_replay.proofs.Begun.{last_closes}
use Rattle.trace_replay.proofs.Beside.{get_any}
use Rattle.trace_replay.proofs.Between.{before_between, between_behind, each_between, none_of_none, length_history, records_append, records_history, timed_behind, once_before, once_behind}
use Rattle.trace_replay.proofs.Doing.{done_closing, ready_at}
use Rattle.trace_replay.proofs.Filled.{history_filled}

equal_or_less : (n m : ℕ) → n ≤ m → (n ≡ m) ⊎ (n < m)
equal_or_less zero zero l = inl refl
equal_or_less zero (suc m) l = inr (omega arith)
equal_or_less (suc n) zero l = absurd (omega (arith, l))
equal_or_less (suc n) (suc m) l =
    ⊎_elim (λ (e : n ≡ m). inl (ap (λ (k : ℕ). suc k) e)) (λ (s : n < m). inr (omega (arith, s))) (equal_or_less n m (omega (arith, l)))

no_lines : (from to : ℕ) (xs : List Line) → from ≡ to → take (to - from) (drop from xs) ≡ []
no_lines from to xs e = ap (λ (k : ℕ). take k (drop from xs)) (let z : to - from ≡ 0 = omega (arith, e) in z)

module _ {A : Type 0} (way : Way A) (stands : Standing A) (t : Trace) (start : ShelfView) (sound : IsSound t) (from to : ℕ) (is : IsSegment t from to)
    (before : List A) (old : State) (was : ShelfView) (ended : HasEnded way stands t start from before old was) where
  abbrev front : List Line
  front = lines_between t.lines from to

  abbrev history : History
  history = ended.done.history

  to_in : to ≤ length t.lines
  to_in = let w = is.within in omega (arith, w)

  stood : Stands way stands t start history [] before old was
  stood = let P : History → Type 0 = λ seg. Stands way stands t start history seg before old was in subst P ended.none ended.done.stood

  split : drop from t.lines ≡ front ++ drop to t.lines
  split = between_behind from to t.lines is.order to_in

  once_all : AreArchivedOnce [] (front ++ drop to t.lines)
  once_all =
      let P : History → Type 0 = λ seg. AreArchivedOnce (archived_in seg) (drop from t.lines) in
      let Q : List Line → Type 0 = λ ls. AreArchivedOnce [] ls in
      subst Q split (subst P ended.none ended.done.once)

  begins : length history ≡ from
  begins = let c = ended.done.counted in let n = ap (λ (seg : History). length seg) ended.none in omega (arith, c, n)

  inner : (x : Line) → Contains front x → is_barrier_line x.what ≡ false
  inner = let P : Line → Type 0 = λ x. is_barrier_line x.what ≡ false in each_between P from to t.lines is.order to_in is.inner

  records_split : length (records (drop from t.lines)) ≡ length (records front) + length (records (drop to t.lines))
  records_split = ap (λ (ls : List Line). length (records ls)) split ∙ records_append front (drop to t.lines)

  fits : FitSegment t history from to
  fits = record {
    begins = begins;
    few_records =
        let l = ended.done.few_records in let n = ap (λ (seg : History). record_count seg) ended.none in let e = records_split in
        omega (arith, l, n, e);
    once = once_before [] front (drop to t.lines) once_all;
  }

  pub at_segment : IsAtSegment way stands t from to before old was
  at_segment = (start, history, stood, fits)

  module _ (mid : List A) (s : State) (now : ShelfView) (does : DoesSegment way stands t from to before mid old s was now) where
    abbrev seg : History
    seg = (does start history stood fits).0

    seg_is : IsHistoryOf t.sigs front seg
    seg_is = (does start history stood fits).1

    done_stood : Stands way stands t start history seg mid s now
    done_stood = (does start history stood fits).2

    closed_none : (d : Line) → 0 < to → is_barrier_line (get_or t.lines (to - 1) d).what ≡ true → seg ≡ []
    closed_none d some barrier = ⊎_elim
        (λ (e : from ≡ to).
        let P : List Line → Type 0 = λ ls. IsHistoryOf t.sigs ls seg in
        none_of_none t.sigs seg (subst P (no_lines from to t.lines e) seg_is))
        (λ (l : from < to). absurd (false≢true (sym (is.inner (to - 1) d (omega (arith, l)) (omega (arith, some))) ∙ barrier)))
        (equal_or_less from to is.order)

    pub done_segment : HasDone way stands t start to mid s now
    done_segment =
        let done = ended.done in
        let n = length_between from to t.lines is.order to_in in
        let h = length_history t.sigs front seg seg_is in
        let same : s.clock ≡ old.clock = done_stood.clock_is ∙ sym stood.clock_is in
        let T : ℕ → Type 0 = λ c. AreTimed c (drop to t.lines) in
        let U : List Line → Type 0 = λ ls. AreTimed old.clock ls in
        record {
          history = history;
          seg = seg;
          lines_are = λ f.
              let P : History → Type 0 = λ x. IsHistoryOf t.sigs (take from t.lines) (filled f x history) in
              let L : List Line → Type 0 = λ ls. IsHistoryOf t.sigs ls (filled f seg history) in
              subst L (before_between from to t.lines is.order to_in) (history_filled t.sigs f (take from t.lines) front seg history (subst P ended.none (done.lines_are f)) seg_is);
          counted = let b = begins in let o = is.order in omega (arith, n, h, b, o);
          few_records =
              let l = done.few_records in let z = ap (λ (x : History). record_count x) ended.none in let e = records_split in let c = records_history t.sigs front seg seg_is in
              omega (arith, l, z, e, c);
          stood = done_stood;
          timed = subst T (sym same) (timed_behind old.clock front (drop to t.lines) inner (subst U split done.timed));
          once = once_behind t.sigs front (drop to t.lines) seg seg_is inner once_all;
          closed = closed_none;
        }

    abbrev line : Line
    line = get_or t.lines to no_line

    pub next_ready : IsNext way stands t line mid s now
    next_ready = ready_at way stands t start sound to no_line mid s now is.within done_segment

    pub ended_closing : (after : List A) (new : State) (end : ShelfView) → Closes way stands t line mid after s new now end → HasEnded way stands t start (to + 1) after new end
    ended_closing after new end closes =
        let done = done_closing way stands t start sound to no_line mid s now is.within done_segment after new end (is.barrier no_line) closes in
        let B : ℕ → Type 0 = λ k. is_barrier_line (get_or t.lines k no_line).what ≡ true in
        let at : to ≡ (to + 1) - 1 = omega arith in
        record { done = done; none = done.closed no_line (omega arith) (subst B at (is.barrier no_line)) }

-- the same of a line that stands there
pub ends_segment : {A : Type 0} (way : Way A) (stands : Standing A) (t : Trace) (sound : IsSound t) (from to : ℕ) (is : IsSegment t from to) (last : Line) → last ≡ get_or t.lines to no_line
    → (before mid after : List A) (old s new : State) (was now end : ShelfView)
    → DoesSegment way stands t from to before mid old s was now → Closes way stands t last mid after s new now end → Ends way stands t from to before after old new was end
ends_segment way stands t sound from to is last at before mid after old s new was now end does closes start ended =
    let P : Line → Type 0 = λ x. Closes way stands t x mid after s new now end in
    ended_closing way stands t start sound from to is before old was ended mid s now does after new end (subst P at closes)

-- ---- the segments of a trace

-- a barrier behind lines that are none ends a segment
pub segment_there : {A : Type 0} (way : Way A) (stands : Standing A) (t : Trace) (start : ShelfView) (from to : ℕ) (agents : List A) (s : State) (now : ShelfView) (last : Line)
    → to < length t.lines → last ≡ get_or t.lines to no_line → is_barrier_line last.what ≡ true → HasCut way stands t start from to agents s now → IsSegment t from to
segment_there way stands t start from to agents s now last within at barrier cut = record {
  order = cut.order;
  within = within;
  inner = cut.inner;
  barrier = λ d. ap (λ (x : Line). is_barrier_line x.what) (get_any t.lines to d no_line within ∙ sym at) ∙ barrier;
}

-- where a segment has ended the next begins
pub cut_ended : {A : Type 0} (way : Way A) (stands : Standing A) (t : Trace) (start : ShelfView) (i : ℕ) (agents : List A) (s : State) (now : ShelfView)
    → HasEnded way stands t start i agents s now → HasCut way stands t start i i agents s now
cut_ended way stands t start i agents s now ended = record { ended = ended; order = omega arith; inner = λ k d l m. absurd (omega (arith, l, m)) }

-- a line that is no barrier is left to a later segment
pub cut_more : {A : Type 0} (way : Way A) (stands : Standing A) (t : Trace) (start : ShelfView) (from to : ℕ) (agents : List A) (s : State) (now : ShelfView) (last : Line)
    → to < length t.lines → last ≡ get_or t.lines to no_line → is_barrier_line last.what ≡ false → HasCut way stands t start from to agents s now → HasCut way stands t start from (to + 1) agents s now
cut_more way stands t start from to agents s now last within at plain cut = record {
  ended = cut.ended;
  order = let o = cut.order in omega (arith, o);
  inner = λ i d l m. ⊎_elim
      (λ (e : i ≡ to).
      let P : ℕ → Type 0 = λ k. is_barrier_line (get_or t.lines k d).what ≡ false in
      subst P (sym e) (ap (λ (x : Line). is_barrier_line x.what) (get_any t.lines to d no_line within ∙ sym at) ∙ plain))
      (λ (k : i < to). cut.inner i d l k)
      (equal_or_less i to (omega (arith, m)));
}

-- nothing is done yet
pub ended_begun : {A : Type 0} (way : Way A) (stands : Standing A) (t : Trace) (start : ShelfView) (agents : List A) (s : State) (now : ShelfView) → HasDone way stands t start 0 agents s now → HasEnded way stands t start 0 agents s now
ended_begun way stands t start agents s now done = record { done = done; none = nil_from_length done.seg (let c = done.counted in omega (arith, c)) }

-- the last line ends the last segment
pub all_cut : {A : Type 0} (way : Way A) (stands : Standing A) (t : Trace) (start : ShelfView) (sound : IsSound t) (from : ℕ) (agents : List A) (s : State) (now : ShelfView)
    → HasCut way stands t start from (length t.lines) agents s now → HasDone way stands t start (length t.lines) agents s now
all_cut way stands t start sound from agents s now cut =
    let P : ℕ → Type 0 = λ k. HasDone way stands t start k agents s now in
    let some = sound.ended.some in
    ⊎_elim
    (λ (e : from ≡ length t.lines). subst P e cut.ended.done)
    (λ (l : from < length t.lines).
    absurd (false≢true (sym (cut.inner (length t.lines - 1) no_line (omega (arith, l)) (omega (arith, some))) ∙ last_closes t no_line sound)))
    (equal_or_less from (length t.lines) cut.order)
