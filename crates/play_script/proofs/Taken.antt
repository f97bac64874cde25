-- What the reading of a line gives.
use Rattle.std.proofs.Common.{ℕ, ◌≡◌, ◌≤◌, List, ◌∷◌, length, refl, ap, sym, ◌∙◌, Result, Ok, Err, Bool, true, false, cond, nat_lt}
use Rattle.spie_base.proofs.Bounds.{is_past, within, is_within}
use Rattle.trace_format.specs.Limits.{most_line_bytes}
use Rattle.line_text.specs.Language.{how_many}
use Rattle.line_text.specs.Reading.{LineMeets}
use Rattle.line_text.specs.Text.{fields}
use Rattle.trace_format.specs.declared.refused.WhyRefused.{WhyRefused}
use Rattle.trace_format.specs.declared.refused.WhyRefused.TheVariants as why
use Rattle.play_script.proofs.Again.{IsNarrow, spelled_reads, taken}
use Rattle.play_script.proofs.Meets.{known_at, Reason, Meets, fields_meet}
use Rattle.play_script.specs.Before.{Known, known_of, script_of}
use Rattle.play_script.specs.Fault.{FieldsBreak, IsBad, refusals}
use Rattle.play_script.specs.Reading.{grown, line_at, read_line, reader}
use Rattle.play_script.specs.Said.{Said}
use Rattle.play_script.specs.Said as said
use Rattle.play_script.specs.Script.{IsLine, scripts}
use Rattle.play_script.specs.Spelling.{Spells}
use Rattle.play_script.specs.Words.{stage_of, may_come, is_over}
use Rattle.play_script.specs.declared.script.PlayScript.{PlayScript}
use Rattle.play_script.specs.declared.words.Stage.{Stage}

pub grown_known : (before : List Said) (s : Said) → grown (known_of before) s ≡ known_of (s ∷ before)
unfolding grown
grown_known before said.Version = refl
grown_known before (said.Core passes shape) = refl
grown_known before (said.Does step) = refl
grown_known before said.End = refl

-- a field that is refused belongs to a line that says nothing
not_refused : (known : Known) (far : PlayScript) (s : Said) (b : Bool) → cond b (Err why.TooMany) (Ok (grown known s)) ≡ Err why.Field → ⊥
not_refused known far s true e = absurd (cc)
not_refused known far s false e = absurd (cc)

says_nothing : (here : Stage) (read : ℕ) (far : PlayScript) (fields : List (List ℕ)) → IsNarrow far → line_at here (known_at here read far) fields ≡ Err why.Field → (s : Said) → may_come here s ≡ true → Spells far s fields → ⊥
says_nothing here read far fields narrow e s m sp = not_refused (known_at here read far) far s _ (sym (spelled_reads here read far s fields narrow m sp) ∙ e)

-- what the fields break
broken : (here : Stage) (read : ℕ) (far : PlayScript) (fields : List (List ℕ)) (y : WhyRefused) → IsNarrow far → line_at here (known_at here read far) fields ≡ Err y → Reason here far fields y → FieldsBreak here far fields y
broken here read far fields why.Word narrow e w = w
broken here read far fields why.Fields narrow e w = w
broken here read far fields why.Field narrow e w = record { form = w.form; has_word = w.has_word; count = w.count; nothing = says_nothing here read far fields narrow e }
broken here read far fields why.TooMany narrow e w = w
broken here read far fields _ narrow e w = w

as_bad : (before : List Said) (line : List ℕ) (y : WhyRefused) → length line ≤ most_line_bytes → FieldsBreak (stage_of before) (script_of before) (fields line) y → IsBad before line y
as_bad before line why.Length short b = absurd b
as_bad before line y short b = (short, b)

short_meets : (before : List Said) (line : List ℕ) (r : Result Known WhyRefused) → IsNarrow (script_of before) → length line ≤ most_line_bytes → line_at (stage_of before) (known_of before) (fields line) ≡ r → Meets (stage_of before) (script_of before) (known_of before) (fields line) r → LineMeets scripts refusals reader before line r
short_meets before line (Ok new) narrow short e m = (m.said, record { short = short; comes = m.comes; spelled = m.spelled; fits = m.fits }, m.grows ∙ grown_known before m.said)
short_meets before line (Err y) narrow short e m = as_bad before line y short (broken (stage_of before) (how_many before) (script_of before) (fields line) y narrow e m)

line_meets_by : (before : List Said) (line : List ℕ) (b : Bool) → IsNarrow (script_of before) → is_over (stage_of before) ≡ false → nat_lt most_line_bytes (length line) ≡ b → LineMeets scripts refusals reader before line (cond b (Err why.Length) (line_at (stage_of before) (known_of before) (fields line)))
line_meets_by before line true narrow o e = is_past most_line_bytes (length line) e
line_meets_by before line false narrow o e = short_meets before line _ narrow (is_within most_line_bytes (length line) e) refl (fields_meet (stage_of before) (how_many before) (script_of before) (fields line) o)

pub line_meets : (before : List Said) (line : List ℕ) → IsNarrow (script_of before) → is_over (stage_of before) ≡ false → LineMeets scripts refusals reader before line (read_line (known_of before) line)
unfolding read_line
line_meets before line narrow o = line_meets_by before line _ narrow o refl

-- a line is read as what it says
pub line_again : (before : List Said) (line : List ℕ) (s : Said) → IsNarrow (script_of before) → IsLine before line s → read_line (known_of before) line ≡ Ok (known_of (s ∷ before))
unfolding read_line
line_again before line s narrow l =
    let t : nat_lt most_line_bytes (length line) ≡ false = within most_line_bytes (length line) l.short in
    let r : line_at (stage_of before) (known_of before) (fields line) ≡ taken (known_of before) (script_of before) s = spelled_reads (stage_of before) (how_many before) (script_of before) s (fields line) narrow l.comes l.spelled in
    rw (t, r, l.fits) (ap (λ v. Ok v) (grown_known before s))
