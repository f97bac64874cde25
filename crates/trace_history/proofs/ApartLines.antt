-- Lines in whose segments records stand alone, and their histories.
use Rattle.std.proofs.Common.{◌≡◌, ℕ, true, false, ◌∷◌, [], ◌++◌, ◌⊎◌, ◌∙◌, sym, refl, subst, inl, inr, ⊎_elim, List, append-nil}
use Rattle.std.proofs.lemmas.Bool.{false≢true}
use Rattle.spie_base.specs.declared.Sig.{Sig}
use Rattle.trace_format.specs.declared.Line.{Line}
use Rattle.trace_format.specs.declared.What.{What}
use Rattle.trace_format.specs.declared.What.TheVariants.{Fwd, Xf, Rotate, Archive, Watch, Tick, Query, End}
use Rattle.trace_history.specs.History.{Event, recorded, rotated, archived, watched, ticked, queried, ended, Moment, History, IsEventOf, IsHistoryOf}
use Rattle.trace_history.specs.Receipts.{receipts, segment}
use Rattle.trace_history.specs.Apart.{AreApart, AreLinesApart, AreQuiet, FitsApart, IsApart, IsQuiet, Stood, none_stood, stood_after}
use Rattle.trace_history.specs.Laws.{ApartLinesAreApart}

-- what stands in a segment is at most what was noted of it, and not both
record Tells (stood : Stood) (seg : History) : Type 0 where
  records : stood.records ≡ false → receipts seg ≡ []
  others : stood.others ≡ false → AreQuiet seg
  apart : (stood.records ≡ false) ⊎ (stood.others ≡ false)

abbrev stood_by : Stood → List Line → Stood
stood_by stood [] = stood
stood_by stood (line ∷ more) = stood_by (stood_after stood line.what) more

-- the last line
apart_last : (stood : Stood) (before : List Line) (last : Line) → AreLinesApart stood (before ++ last ∷ []) → AreLinesApart stood before × FitsApart (stood_by stood before) last.what
apart_last stood [] last are = (tt, are.0)
apart_last stood (line ∷ before) last are = let rest = apart_last (stood_after stood line.what) before last are.1 in ((are.0, rest.0), rest.1)

stood_last : (stood : Stood) (before : List Line) (last : Line) → stood_by stood (before ++ last ∷ []) ≡ stood_after (stood_by stood before) last.what
stood_last stood [] last = refl
stood_last stood (line ∷ before) last = stood_last (stood_after stood line.what) before last

tells_none : Tells none_stood []
tells_none = record { records = λ e. refl; others = λ e. tt; apart = inl refl }

-- one line more of a segment
tells_record : (stood : Stood) (seg : History) (moment : Moment) → stood.others ≡ false → IsQuiet moment.event → Tells stood seg → Tells (record stood { records = true }) (moment ∷ seg)
tells_record stood seg moment none quiet t = record { records = λ e. absurd (false≢true (sym e)); others = λ e. (t.others e, quiet); apart = inr none }

tells_other : (stood : Stood) (seg : History) (line : ℕ) (d : Event) → stood.records ≡ false → receipts (record { line = line; event = d } ∷ seg) ≡ receipts seg ++ [] → Tells stood seg → Tells (record stood { others = true }) (record { line = line; event = d } ∷ seg)
tells_other stood seg line d none is t = record { records = λ e. is ∙ append-nil (receipts seg) ∙ t.records none; others = λ e. absurd (false≢true (sym e)); apart = inl none }

tells_next : (sigs : List Sig) (stood : Stood) (history : History) (line : ℕ) (w : What) (d : Event) → IsEventOf sigs w d → FitsApart stood w → Tells stood (segment history) → Tells (stood_after stood w) (segment (record { line = line; event = d } ∷ history))
tells_next sigs stood history line (Fwd router packet) (recorded hop page) is fits tells = tells_record stood (segment history) (record { line = line; event = recorded hop page }) fits tt tells
tells_next sigs stood history line (Fwd router packet) (rotated r page) is fits tells = absurd is
tells_next sigs stood history line (Fwd router packet) (archived r put kept) is fits tells = absurd is
tells_next sigs stood history line (Fwd router packet) (watched r sig answer) is fits tells = absurd is
tells_next sigs stood history line (Fwd router packet) (ticked t left) is fits tells = absurd is
tells_next sigs stood history line (Fwd router packet) (queried query left) is fits tells = absurd is
tells_next sigs stood history line (Fwd router packet) (ended left) is fits tells = absurd is
tells_next sigs stood history line (Xf router kind old new) (recorded hop page) is fits tells = tells_record stood (segment history) (record { line = line; event = recorded hop page }) fits tt tells
tells_next sigs stood history line (Xf router kind old new) (rotated r page) is fits tells = absurd is
tells_next sigs stood history line (Xf router kind old new) (archived r put kept) is fits tells = absurd is
tells_next sigs stood history line (Xf router kind old new) (watched r sig answer) is fits tells = absurd is
tells_next sigs stood history line (Xf router kind old new) (ticked t left) is fits tells = absurd is
tells_next sigs stood history line (Xf router kind old new) (queried query left) is fits tells = absurd is
tells_next sigs stood history line (Xf router kind old new) (ended left) is fits tells = absurd is
tells_next sigs stood history line (Rotate router) (recorded hop page) is fits tells = absurd is
tells_next sigs stood history line (Rotate router) (rotated r page) is fits tells = tells_other stood (segment history) line (rotated r page) fits refl tells
tells_next sigs stood history line (Rotate router) (archived r put kept) is fits tells = absurd is
tells_next sigs stood history line (Rotate router) (watched r sig answer) is fits tells = absurd is
tells_next sigs stood history line (Rotate router) (ticked t left) is fits tells = absurd is
tells_next sigs stood history line (Rotate router) (queried query left) is fits tells = absurd is
tells_next sigs stood history line (Rotate router) (ended left) is fits tells = absurd is
tells_next sigs stood history line (Archive router) (recorded hop page) is fits tells = absurd is
tells_next sigs stood history line (Archive router) (rotated r page) is fits tells = absurd is
tells_next sigs stood history line (Archive router) (archived r put kept) is fits tells = record { records = λ e. append-nil (receipts (segment history)) ∙ tells.records e; others = λ e. (tells.others e, tt); apart = tells.apart }
tells_next sigs stood history line (Archive router) (watched r sig answer) is fits tells = absurd is
tells_next sigs stood history line (Archive router) (ticked t left) is fits tells = absurd is
tells_next sigs stood history line (Archive router) (queried query left) is fits tells = absurd is
tells_next sigs stood history line (Archive router) (ended left) is fits tells = absurd is
tells_next sigs stood history line (Watch router packet) (recorded hop page) is fits tells = absurd is
tells_next sigs stood history line (Watch router packet) (rotated r page) is fits tells = absurd is
tells_next sigs stood history line (Watch router packet) (archived r put kept) is fits tells = absurd is
tells_next sigs stood history line (Watch router packet) (watched r sig answer) is fits tells = tells_other stood (segment history) line (watched r sig answer) fits refl tells
tells_next sigs stood history line (Watch router packet) (ticked t left) is fits tells = absurd is
tells_next sigs stood history line (Watch router packet) (queried query left) is fits tells = absurd is
tells_next sigs stood history line (Watch router packet) (ended left) is fits tells = absurd is
tells_next sigs stood history line (Tick time) (recorded hop page) is fits tells = absurd is
tells_next sigs stood history line (Tick time) (rotated r page) is fits tells = absurd is
tells_next sigs stood history line (Tick time) (archived r put kept) is fits tells = absurd is
tells_next sigs stood history line (Tick time) (watched r sig answer) is fits tells = absurd is
tells_next sigs stood history line (Tick time) (ticked t left) is fits tells = tells_none
tells_next sigs stood history line (Tick time) (queried query left) is fits tells = absurd is
tells_next sigs stood history line (Tick time) (ended left) is fits tells = absurd is
tells_next sigs stood history line (Query router packet time) (recorded hop page) is fits tells = absurd is
tells_next sigs stood history line (Query router packet time) (rotated r page) is fits tells = absurd is
tells_next sigs stood history line (Query router packet time) (archived r put kept) is fits tells = absurd is
tells_next sigs stood history line (Query router packet time) (watched r sig answer) is fits tells = absurd is
tells_next sigs stood history line (Query router packet time) (ticked t left) is fits tells = absurd is
tells_next sigs stood history line (Query router packet time) (queried query left) is fits tells = tells_none
tells_next sigs stood history line (Query router packet time) (ended left) is fits tells = absurd is
tells_next sigs stood history line End (recorded hop page) is fits tells = absurd is
tells_next sigs stood history line End (rotated r page) is fits tells = absurd is
tells_next sigs stood history line End (archived r put kept) is fits tells = absurd is
tells_next sigs stood history line End (watched r sig answer) is fits tells = absurd is
tells_next sigs stood history line End (ticked t left) is fits tells = absurd is
tells_next sigs stood history line End (queried query left) is fits tells = absurd is
tells_next sigs stood history line End (ended left) is fits tells = tells_none

tells_apart : (stood : Stood) (seg : History) → Tells stood seg → IsApart seg
tells_apart stood seg t = ⊎_elim (λ e. inl (t.records e)) (λ e. inr (t.others e)) t.apart

record IsTold (lines : List Line) (history : History) : Type 0 where
  apart : AreApart history
  tells : Tells (stood_by none_stood lines) (segment history)

told : (sigs : List Sig) (history : History) (lines : List Line) → AreLinesApart none_stood lines → IsHistoryOf sigs lines history → IsTold lines history
told sigs [] lines are is =
    let T : List Line → Type 0 = λ ls. Tells (stood_by none_stood ls) [] in
    record { apart = tt; tells = subst T (sym is) tells_none }
told sigs (moment ∷ history) lines are (before, last, lines_are, number, event, rest) =
    let A : List Line → Type 0 = λ ls. AreLinesApart none_stood ls in
    let split = apart_last none_stood before last (subst A lines_are are) in
    let t = told sigs history before split.0 rest in
    let S : List Line → Type 0 = λ ls. Tells (stood_by none_stood ls) (segment (moment ∷ history)) in
    let Z : Stood → Type 0 = λ s. Tells s (segment (moment ∷ history)) in
    record {
      apart = (t.apart, λ e. tells_apart (stood_by none_stood before) (segment history) t.tells);
      tells = subst S (sym lines_are) (subst Z (sym (stood_last none_stood before last)) (tells_next sigs (stood_by none_stood before) history moment.line last.what moment.event event split.1 t.tells));
    }

pub apart_lines : ApartLinesAreApart
apart_lines sigs lines history are is = (told sigs history lines are is).apart
