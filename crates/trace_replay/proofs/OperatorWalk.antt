-- The operator goes over the lines of a segment.
use Rattle.std.proofs.Common.{ℕ, ◌≡◌, ◌<◌, ◌+◌, ◌∷◌, [], ◌++◌, ◌∙◌, Bool, true, false, cond, not, List, length, get_or, take, drop, drop-cons, add-one, sym, ap, refl, subst, arith, append-nil}
use Rattle.std.specs.List.{filter}
use Rattle.std.proofs.lemmas.Bool.{false≢true}
use Rattle.std.proofs.lemmas.List.{take_more}
use Rattle.std.proofs.lemmas.List.Elements.{filter-append}
use Rattle.trace_format.specs.declared.Line.{Line}
use Rattle.trace_format.specs.declared.Trace.{Trace}
use Rattle.trace_format.specs.declared.What.{What}
use Rattle.trace_format.specs.declared.What.TheVariants as what
use Rattle.trace_format.specs.Sound.{AreArchivedOnce, FitsOnce, archived_after, is_recording}
use Rattle.router_account.specs.Shelves.{ShelfView}
use Rattle.trace_history.specs.History.{History, IsHistoryOf}
use Rattle.trace_replay.specs.declared.state.Answer.{Answer}
use Rattle.trace_replay.specs.Merging.{operations}
use Rattle.trace_replay.specs.Operating.{Besides, Reads, FitsBeside, MayOperate, DoesBeside, FitsOperator, HasOperated, OperatesFrom, IsAtLine}
use Rattle.trace_replay.specs.Segments.{archived_in}
use Rattle.trace_replay.proofs.Doing.{archived_same}
use Rattle.trace_replay.proofs.Filled.{moment_of}

archived_record : (w : What) (earlier : List ℕ) → is_recording w ≡ true → archived_after earlier w ≡ earlier
archived_record (what.Fwd router packet) earlier b = refl
archived_record (what.Xf router kind old new) earlier b = refl
archived_record (what.Archive router) earlier b = absurd (false≢true b)
archived_record (what.Rotate router) earlier b = absurd (false≢true b)
archived_record (what.Watch router packet) earlier b = absurd (false≢true b)
archived_record (what.Tick time) earlier b = absurd (false≢true b)
archived_record (what.Query router packet time) earlier b = absurd (false≢true b)
archived_record what.End earlier b = absurd (false≢true b)

drop_at : (lines : List Line) (i : ℕ) (d : Line) → i < length lines → drop i lines ≡ get_or lines i d ∷ drop (i + 1) lines
drop_at lines i d l = drop-cons lines i d l ∙ ap (λ k. get_or lines i d ∷ drop k lines) (sym (add-one i))

operations_more : (lines : List Line) (i : ℕ) (d : Line) (b : Bool) → i < length lines → is_recording (get_or lines i d).what ≡ b
    → operations (take (i + 1) lines) ≡ operations (take i lines) ++ cond (not b) (get_or lines i d ∷ []) []
operations_more lines i d b l is =
    let p : Line → Bool = λ line. not (is_recording line.what) in
    let x = get_or lines i d in
    ap (filter p) (take_more lines i d l) ∙ filter-append p (take i lines) (x ∷ []) ∙ ap (λ c. operations (take i lines) ++ cond (not c) (x ∷ []) []) is

module _ {A V : Type 0} (besides : Besides A V) (reads : Reads A) (t : Trace) (start : ShelfView) (history : History) (aways : ℕ → V) (lines : List Line) (i : ℕ) (d : Line)
    (agents : List A) (time : ℕ) (answers : List Answer) (now : ShelfView) (fits : FitsOperator t history lines)
    (done : HasOperated besides reads t start history aways lines i agents time answers now) (within : i < length lines) where
  abbrev this : Line
  this = get_or lines i d

  once_at : FitsOnce (archived_in done.ops) this.what × AreArchivedOnce (archived_after (archived_in done.ops) this.what) (drop (i + 1) lines)
  once_at = let P : List Line → Type 0 = λ ls. AreArchivedOnce (archived_in done.ops) ls in subst P (drop_at lines i d within) done.once

  pub fits_at : FitsBeside t history done.ops this
  fits_at = record {
    within = fits.within i d within;
    once = once_at.0;
    few = let a = done.counted in let b = fits.few in omega (arith, a, b, within);
  }

  pub past_record : is_recording this.what ≡ true → HasOperated besides reads t start history aways lines (i + 1) agents time answers now
  past_record is =
      let P : List Line → Type 0 = λ ls. IsHistoryOf t.sigs ls done.ops in
      let O : List ℕ → Type 0 = λ rs. AreArchivedOnce rs (drop (i + 1) lines) in
      record {
        ops = done.ops;
        lines_are = subst P (sym (operations_more lines i d true within is ∙ append-nil (operations (take i lines)))) done.lines_are;
        counted = let a = done.counted in omega (arith, a);
        once = subst O (archived_record this.what (archived_in done.ops) is) once_at.1;
        stood = done.stood;
      }

  pub past_operation : (after : List A) (more : List Answer) (then : ShelfView) → is_recording this.what ≡ false → DoesBeside besides reads t this agents after time answers more now then
      → HasOperated besides reads t start history aways lines (i + 1) after time more then
  past_operation after more then is does =
      let next = does start history aways done.ops done.stood fits_at in
      let O : List ℕ → Type 0 = λ rs. AreArchivedOnce rs (drop (i + 1) lines) in
      record {
        ops = moment_of this.number next.0 ∷ done.ops;
        lines_are = (operations (take i lines), this, operations_more lines i d false within is, refl, next.1, done.lines_are);
        counted = let a = done.counted in omega (arith, a);
        once = subst O (sym (archived_same t.sigs this.what next.0 (archived_in done.ops) (fits.inner i d within) next.1)) once_at.1;
        stood = next.2;
      }

-- the same of a line that stands there
module _ {A V : Type 0} (besides : Besides A V) (reads : Reads A) (t : Trace) (lines : List Line) (i : ℕ) (d line : Line) (within : i < length lines) (is : line ≡ get_or lines i d) where
  pub comes_past : (agents : List A) (time : ℕ) (answers : List Answer) (now : ShelfView) → is_recording line.what ≡ true → OperatesFrom besides reads t lines i (i + 1) agents agents time answers answers now now
  comes_past agents time answers now recording start history aways fits done =
      let P : Line → Type 0 = λ x. is_recording x.what ≡ true in
      past_record besides reads t start history aways lines i d agents time answers now fits done within (subst P is recording)

  pub comes_on : (before after : List A) (time : ℕ) (given more : List Answer) (was now : ShelfView) → is_recording line.what ≡ false → DoesBeside besides reads t line before after time given more was now
      → OperatesFrom besides reads t lines i (i + 1) before after time given more was now
  comes_on before after time given more was now recording does start history aways fits done =
      let P : Line → Type 0 = λ x. is_recording x.what ≡ false in
      let Q : Line → Type 0 = λ x. DoesBeside besides reads t x before after time given more was now in
      past_operation besides reads t start history aways lines i d before time given was fits done within after more now (subst P is recording) (subst Q is does)

  -- and may be done
  pub may_operate : (agents : List A) (time : ℕ) (answers : List Answer) (now : ShelfView) → IsAtLine besides reads t lines i agents time answers now → MayOperate besides reads t line agents time answers now
  may_operate agents time answers now (start, history, aways, fits, done) =
      let P : Line → Type 0 = λ x. FitsBeside t history done.ops x in
      (start, history, aways, done.ops, done.stood, subst P (sym is) (fits_at besides reads t start history aways lines i d agents time answers now fits done within))

-- one line after another
pub operates_on : {A V : Type 0} (besides : Besides A V) (reads : Reads A) (t : Trace) (lines : List Line) (from i : ℕ) (a b c : List A) (time : ℕ) (x y z : List Answer) (u v w : ShelfView)
    → OperatesFrom besides reads t lines from i a b time x y u v → OperatesFrom besides reads t lines i (i + 1) b c time y z v w → OperatesFrom besides reads t lines from (i + 1) a c time x z u w
operates_on besides reads t lines from i a b c time x y z u v w one two start history aways fits done = two start history aways fits (one start history aways fits done)

pub still_at : {A V : Type 0} (besides : Besides A V) (reads : Reads A) (t : Trace) (lines : List Line) (i : ℕ) (a b : List A) (time : ℕ) (x y : List Answer) (u v : ShelfView)
    → IsAtLine besides reads t lines 0 a time x u → OperatesFrom besides reads t lines 0 i a b time x y u v → IsAtLine besides reads t lines i b time y v
still_at besides reads t lines i a b time x y u v (start, history, aways, fits, done) on = (start, history, aways, fits, on start history aways fits done)
