-- Jobs with the lines that are their turn have their shares.
use Rattle.std.proofs.Common.{◌≡◌, ℕ, suc, ◌+◌, ◌%◌, ◌==◌, ◌<◌, ◌≤◌, Bool, cond, true, false, List, [], ◌∷◌, length, get_or, sym, ap, ◌∙◌, subst, arith}
use Rattle.std.specs.Prelude.{All}
use Rattle.std.proofs.lemmas.List.Elements.{All-nil, All-cons, All-head, All-tail, All-append}
use Rattle.trace_format.specs.Sound.{IsWithin, IsSound, is_recording}
use Rattle.trace_format.specs.declared.Line.{Line}
use Rattle.trace_format.specs.declared.Trace.{Trace}
use Rattle.trace_history.specs.Routers.{count}
use Rattle.trace_workers.specs.declared.jobs.Job.{Job}
use Rattle.trace_workers.specs.Dealing.{AreRoomy, HaveTurns}
use Rattle.trace_workers.specs.Jobs.{AreShares}
use Rattle.trace_workers.specs.Records.{no_line, line_at, IsRecordAt, turns_of, lines_between, record_places, segment_places}
use Rattle.trace_workers.proofs.Segments.{length_between, at_between}

-- what holds of all items holds of a worker's turns
one_turn : {A : Type 0} (P : A → Type 0) (b : Bool) (x : A) → P x → All P (cond b (x ∷ []) [])
one_turn P true x h = All-cons P x [] h (All-nil P)
one_turn P false x h = All-nil P

all_turns : {A : Type 0} (P : A → Type 0) (W w from : ℕ) (xs : List A) → All P xs → All P (turns_of W w from xs)
all_turns P W w from [] h = All-nil P
all_turns P W w from (x ∷ xs) h = All-append P (cond (from % W == w) (x ∷ []) []) (turns_of W w (from + 1) xs) (one_turn P (from % W == w) x (All-head P x xs h)) (all_turns P W w (from + 1) xs (All-tail P x xs h))

-- the place of a line, where that is a record line
one_place : (t : Trace) (place : ℕ) (b : Bool) → is_recording (line_at t.lines place).what ≡ b → place < length t.lines → IsWithin (count t) (length t.sigs) (line_at t.lines place).what → All (IsRecordAt t) (cond b (place ∷ []) [])
one_place t place true is small named = All-cons (IsRecordAt t) place [] (record { within = small; recording = is; named = named }) (All-nil (IsRecordAt t))
one_place t place false is small named = All-nil (IsRecordAt t)

all_places : (t : Trace) (xs : List Line) (from : ℕ) → ((i : ℕ) → i < length xs → get_or xs i no_line ≡ line_at t.lines (from + i)) → from + length xs ≤ length t.lines
    → All (λ (line : Line). IsWithin (count t) (length t.sigs) line.what) t.lines → All (IsRecordAt t) (record_places from xs)
all_places t [] from h le within = All-nil (IsRecordAt t)
all_places t (x ∷ xs) from h le within =
    let e : from ≡ from + 0 = omega arith in
    let small : from < length t.lines = omega arith in
    let here : x ≡ line_at t.lines from = h 0 (omega arith) ∙ ap (line_at t.lines) (sym e) in
    All-append (IsRecordAt t) (cond (is_recording x.what) (from ∷ []) []) (record_places (from + 1) xs)
    (one_place t from (is_recording x.what) (ap (λ (l : Line). is_recording l.what) (sym here)) small (within from no_line small))
    (all_places t xs (from + 1) (λ i lt. let s : from + suc i ≡ (from + 1) + i = omega arith in h (suc i) (omega arith) ∙ ap (line_at t.lines) s) (omega arith) within)

pub records_of : (t : Trace) (from to : ℕ) → from ≤ to → to ≤ length t.lines → All (λ (line : Line). IsWithin (count t) (length t.sigs) line.what) t.lines → All (IsRecordAt t) (segment_places t.lines from to)
records_of t from to begins ends within =
    let n = length_between from to t.lines begins ends in
    all_places t (lines_between t.lines from to) from (λ i small. at_between from to i t.lines no_line small) (omega arith) within

pub shares_of : (t : Trace) (from to : ℕ) (old jobs : List Job) → from ≤ to → to ≤ length t.lines → IsSound t → HaveTurns t.lines from to old → AreRoomy old jobs → AreShares t from to jobs
shares_of t from to old jobs begins ends sound turns roomy = let many = roomy.many in record {
  each = λ w d lt.
      let low : w < length old = omega arith in
      let now = roomy.each w d low in
      let mine = ap (λ (v : _). v.items) now.places ∙ turns.places w d low in
      record {
        turns = mine ∙ ap (λ n. turns_of n w 0 (segment_places t.lines from to)) (sym many);
        records = subst (All (IsRecordAt t)) (sym mine) (all_turns (IsRecordAt t) (length old) w 0 (segment_places t.lines from to) (records_of t from to begins ends sound.within));
        none = now.pages ∙ turns.pages w d low;
        room = now.room;
      };
}
