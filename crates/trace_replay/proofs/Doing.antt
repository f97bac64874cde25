-- One line more of a trace.
use Rattle.std.proofs.Common.{ℕ, ◌≡◌, ◌≤◌, ◌<◌, ◌+◌, ◌-◌, ◌∷◌, [], ◌∙◌, Bool, true, false, cond, List, length, get_or, take, drop, drop-cons, add-one, sym, ap, refl, subst, arith}
use Rattle.std.proofs.lemmas.Bool.{false≢true}
use Rattle.std.proofs.lemmas.List.{take_more, get_or_default}
use Rattle.spie_base.specs.declared.Sig.{Sig}
use Rattle.trace_format.specs.declared.Line.{Line}
use Rattle.trace_format.specs.declared.Trace.{Trace}
use Rattle.trace_format.specs.declared.What.{What}
use Rattle.trace_format.specs.declared.What.TheVariants as what
use Rattle.trace_format.specs.declared.limits.TheConstants.{MOST_RECORDS}
use Rattle.trace_format.specs.Sound.{IsSound, AreTimed, FitsClock, AreArchivedOnce, FitsOnce, archived_after, is_recording, records, clock_after as clock_by}
use Rattle.router_account.specs.Shelves.{ShelfView}
use Rattle.trace_history.specs.History.{Event, recorded, rotated, archived, watched, ticked, queried, ended, IsEventOf, clock, clock_after}
use Rattle.trace_replay.specs.declared.state.State.{State}
use Rattle.trace_replay.specs.Agents.{Standing}
use Rattle.trace_replay.specs.Loop.{HasDone, Proceeds}
use Rattle.trace_replay.specs.Segments.{filled, archived_by, archived_in, is_barrier_line, count_by, record_count, no_line, number_at}
use Rattle.trace_replay.specs.Standing.{Way, Fits, IsNext, Does, Closes}
use Rattle.trace_replay.proofs.Filled.{moment_of, event_split, length_filled, clock_filled}
use Rattle.trace_replay.proofs.RowCounts.{records_filled}

no_barrier : {X : Type 0} → true ≡ false → X
no_barrier e = absurd (false≢true (sym e))

pub archived_same : (sigs : List Sig) (w : What) (e : Event) (earlier : List ℕ) → is_barrier_line w ≡ false → IsEventOf sigs w e → archived_by e earlier ≡ archived_after earlier w
archived_same sigs (what.Archive router) (archived r put kept) earlier b a = ap (λ (x : ℕ). x ∷ earlier) a
archived_same sigs (what.Archive router) e earlier b a = absurd a
archived_same sigs (what.Fwd router packet) (recorded hop page) earlier b a = refl
archived_same sigs (what.Fwd router packet) e earlier b a = absurd a
archived_same sigs (what.Xf router kind old new) (recorded hop page) earlier b a = refl
archived_same sigs (what.Xf router kind old new) e earlier b a = absurd a
archived_same sigs (what.Rotate router) (rotated r page) earlier b a = refl
archived_same sigs (what.Rotate router) e earlier b a = absurd a
archived_same sigs (what.Watch router packet) (watched r sig w) earlier b a = refl
archived_same sigs (what.Watch router packet) e earlier b a = absurd a
archived_same sigs (what.Tick time) e earlier b a = no_barrier b
archived_same sigs (what.Query router packet time) e earlier b a = no_barrier b
archived_same sigs what.End e earlier b a = no_barrier b

none_after : (w : What) (earlier : List ℕ) → is_barrier_line w ≡ true → archived_after earlier w ≡ []
none_after (what.Tick time) earlier b = refl
none_after (what.Query router packet time) earlier b = refl
none_after what.End earlier b = refl
none_after (what.Archive router) earlier b = absurd (false≢true b)
none_after (what.Fwd router packet) earlier b = absurd (false≢true b)
none_after (what.Xf router kind old new) earlier b = absurd (false≢true b)
none_after (what.Rotate router) earlier b = absurd (false≢true b)
none_after (what.Watch router packet) earlier b = absurd (false≢true b)

minus_one : (i : ℕ) → (i + 1) - 1 ≡ i
minus_one i = omega arith

-- the clock is that of the lines
clock_same : (sigs : List Sig) (w : What) (e : Event) (c : ℕ) → IsEventOf sigs w e → clock_after e c ≡ clock_by c w
clock_same sigs (what.Tick time) (ticked t left) c a = a
clock_same sigs (what.Tick time) e c a = absurd a
clock_same sigs (what.Fwd router packet) (recorded hop page) c a = refl
clock_same sigs (what.Fwd router packet) e c a = absurd a
clock_same sigs (what.Xf router kind old new) (recorded hop page) c a = refl
clock_same sigs (what.Xf router kind old new) e c a = absurd a
clock_same sigs (what.Rotate router) (rotated r page) c a = refl
clock_same sigs (what.Rotate router) e c a = absurd a
clock_same sigs (what.Watch router packet) (watched r sig w) c a = refl
clock_same sigs (what.Watch router packet) e c a = absurd a
clock_same sigs (what.Archive router) (archived r put kept) c a = refl
clock_same sigs (what.Archive router) e c a = absurd a
clock_same sigs (what.Query router packet time) (queried query left) c a = refl
clock_same sigs (what.Query router packet time) e c a = absurd a
clock_same sigs what.End (ended left) c a = refl
clock_same sigs what.End e c a = absurd a

pub clock_within : (w : What) (c : ℕ) → is_barrier_line w ≡ false → clock_by c w ≡ c
clock_within (what.Tick time) c b = no_barrier b
clock_within (what.Query router packet time) c b = no_barrier b
clock_within what.End c b = no_barrier b
clock_within (what.Archive router) c b = refl
clock_within (what.Fwd router packet) c b = refl
clock_within (what.Xf router kind old new) c b = refl
clock_within (what.Rotate router) c b = refl
clock_within (what.Watch router packet) c b = refl

-- an event of a line that records is a record
pub count_same : (sigs : List Sig) (w : What) (e : Event) → IsEventOf sigs w e → count_by e ≡ cond (is_recording w) 1 0
count_same sigs (what.Fwd router packet) (recorded hop page) a = refl
count_same sigs (what.Fwd router packet) e a = absurd a
count_same sigs (what.Xf router kind old new) (recorded hop page) a = refl
count_same sigs (what.Xf router kind old new) e a = absurd a
count_same sigs (what.Rotate router) (rotated r page) a = refl
count_same sigs (what.Rotate router) e a = absurd a
count_same sigs (what.Watch router packet) (watched r sig w) a = refl
count_same sigs (what.Watch router packet) e a = absurd a
count_same sigs (what.Archive router) (archived r put kept) a = refl
count_same sigs (what.Archive router) e a = absurd a
count_same sigs (what.Tick time) (ticked t left) a = refl
count_same sigs (what.Tick time) e a = absurd a
count_same sigs (what.Query router packet time) (queried query left) a = refl
count_same sigs (what.Query router packet time) e a = absurd a
count_same sigs what.End (ended left) a = refl
count_same sigs what.End e a = absurd a

one_record : (b : Bool) (x : Line) (more : List Line) → length (cond b (x ∷ more) more) ≡ cond b 1 0 + length more
one_record true x more = omega arith
one_record false x more = omega arith

pub records_more : (x : Line) (xs : List Line) → length (records (x ∷ xs)) ≡ cond (is_recording x.what) 1 0 + length (records xs)
records_more x xs = one_record (is_recording x.what) x (records xs)

drop_at : (lines : List Line) (i : ℕ) (d : Line) → i < length lines → drop i lines ≡ get_or lines i d ∷ drop (i + 1) lines
drop_at lines i d l = drop-cons lines i d l ∙ ap (λ k. get_or lines i d ∷ drop k lines) (sym (add-one i))

module _ {A : Type 0} (way : Way A) (stands : Standing A) (t : Trace) (start : ShelfView) (sound : IsSound t) (i : ℕ) (d : Line) (agents : List A) (s : State) (now : ShelfView)
    (within : i < length t.lines) (done : HasDone way stands t start i agents s now) where
  abbrev this : Line
  this = get_or t.lines i d

  abbrev rest : List Line
  rest = drop (i + 1) t.lines

  timed_at : FitsClock s.clock this.what × AreTimed (clock_by s.clock this.what) rest
  timed_at = let P : List Line → Type 0 = λ ls. AreTimed s.clock ls in subst P (drop_at t.lines i d within) done.timed

  once_at : FitsOnce (archived_in done.seg) this.what × AreArchivedOnce (archived_after (archived_in done.seg) this.what) rest
  once_at = let P : List Line → Type 0 = λ ls. AreArchivedOnce (archived_in done.seg) ls in subst P (drop_at t.lines i d within) done.once

  few_at : (record_count done.seg + record_count done.history) + (cond (is_recording this.what) 1 0 + length (records rest)) ≤ MOST_RECORDS
  few_at =
      let e = ap (λ (ls : List Line). length (records ls)) (drop_at t.lines i d within) ∙ records_more this rest in
      let l = done.few_records in omega (arith, e, l)

  pub fits_at : Fits t done.history done.seg s this
  fits_at = record {
    within = sound.within i d within;
    timed = timed_at.0;
    time = sound.times i d within;
    once = once_at.0;
    few = let a = done.counted in let b = sound.few in omega (arith, a, b, within);
    there = let a = done.counted in omega (arith, a, within);
    place = ap (λ k. number_at t.lines k) done.counted ∙ ap (λ (x : Line). x.number) (get_or_default t.lines i no_line d within);
    few_records = λ recording.
        let l = few_at in
        let N : Bool → ℕ = λ b. cond b 1 0 in
        let e = ap N recording in omega (arith, l, e);
  }

  pub ready_at : IsNext way stands t this agents s now
  ready_at = (start, done.history, done.seg, done.stood, fits_at)

  pub done_within : (agents' : List A) (s' : State) (now' : ShelfView) → is_barrier_line this.what ≡ false → Does way stands t this agents agents' s s' now now' → HasDone way stands t start (i + 1) agents' s' now'
  done_within agents' s' now' inner does =
      let next = does start done.history done.seg done.stood fits_at in
      let same : s'.clock ≡ s.clock = next.2.clock_is ∙ sym done.stood.clock_is in
      let T : ℕ → Type 0 = λ c. AreTimed c rest in
      let O : List ℕ → Type 0 = λ rs. AreArchivedOnce rs rest in
      record {
        history = done.history;
        seg = moment_of this.number next.0 ∷ done.seg;
        lines_are = λ f. (take i t.lines, this, take_more t.lines i d within, refl, event_split t.sigs f this.what next.0 next.1, done.lines_are f);
        counted = let a = done.counted in omega (arith, a);
        few_records = let l = few_at in let e = count_same t.sigs this.what next.0 next.1 in omega (arith, l, e);
        stood = next.2;
        timed = subst T (clock_within this.what s.clock inner ∙ sym same) timed_at.1;
        once = subst O (sym (archived_same t.sigs this.what next.0 (archived_in done.seg) inner next.1)) once_at.1;
        closed = λ e l b. no_barrier (sym b ∙ ap (λ k. is_barrier_line (get_or t.lines k e).what) (minus_one i) ∙ ap (λ (x : Line). is_barrier_line x.what) (get_or_default t.lines i e d within) ∙ inner);
      }

  pub done_closing : (agents' : List A) (s' : State) (now' : ShelfView) → is_barrier_line this.what ≡ true → Closes way stands t this agents agents' s s' now now' → HasDone way stands t start (i + 1) agents' s' now'
  done_closing agents' s' now' barrier closes =
      let next = closes start done.history done.seg done.stood fits_at in
      let F = filled next.0 done.seg done.history in
      let e : s'.clock ≡ clock_by s.clock this.what =
      next.3.clock_is ∙ clock_same t.sigs this.what next.1 (clock F) next.2
      ∙ ap (λ c. clock_by c this.what) (clock_filled next.0 done.seg done.history done.stood.ordered.inner ∙ sym done.stood.clock_is) in
      let T : ℕ → Type 0 = λ c. AreTimed c rest in
      let O : List ℕ → Type 0 = λ rs. AreArchivedOnce rs rest in
      record {
        history = moment_of this.number next.1 ∷ F;
        seg = [];
        lines_are = λ f. (take i t.lines, this, take_more t.lines i d within, refl, next.2, done.lines_are next.0);
        counted = let a = done.counted in let b = length_filled next.0 done.seg done.history in omega (arith, a, b);
        few_records = let l = few_at in let e = count_same t.sigs this.what next.1 next.2 in let n = records_filled next.0 done.seg done.history in omega (arith, l, e, n);
        stood = next.3;
        timed = subst T (sym e) timed_at.1;
        once = subst O (none_after this.what (archived_in done.seg) barrier) once_at.1;
        closed = λ e l b. refl;
      }

-- the same of a line that stands there
pub proceeds_within : {A : Type 0} (way : Way A) (stands : Standing A) (t : Trace) (line : Line) (before after : List A) (old new : State) (was now : ShelfView) → is_barrier_line line.what ≡ false → Does way stands t line before after old new was now → Proceeds way stands t line before after old new was now
proceeds_within way stands t line before after old new was now inner does start i d sound within is done =
    let P : Line → Type 0 = λ x. is_barrier_line x.what ≡ false in
    let Q : Line → Type 0 = λ x. Does way stands t x before after old new was now in
    done_within way stands t start sound i d before old was within done after new now (subst P is inner) (subst Q is does)

pub proceeds_closing : {A : Type 0} (way : Way A) (stands : Standing A) (t : Trace) (line : Line) (before after : List A) (old new : State) (was now : ShelfView) → is_barrier_line line.what ≡ true → Closes way stands t line before after old new was now → Proceeds way stands t line before after old new was now
proceeds_closing way stands t line before after old new was now barrier closes start i d sound within is done =
    let P : Line → Type 0 = λ x. is_barrier_line x.what ≡ true in
    let Q : Line → Type 0 = λ x. Closes way stands t x before after old new was now in
    done_closing way stands t start sound i d before old was within done after new now (subst P is barrier) (subst Q is closes)
