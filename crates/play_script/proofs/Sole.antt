-- A text with a fault is refused with it.
use Rattle.std.proofs.Common.{ℕ, ◌≡◌, ◌≤◌, ◌<◌, List, length, refl, ap, ◌∙◌, Result, Ok, Err, false}
use Rattle.spie_base.proofs.Bounds.{past, within}
use Rattle.trace_format.specs.Limits.{most_line_bytes}
use Rattle.line_text.specs.Language.{how_many}
use Rattle.line_text.specs.Text.{fields}
use Rattle.trace_format.specs.declared.refused.WhyRefused.{WhyRefused}
use Rattle.trace_format.specs.declared.refused.WhyRefused.TheVariants as why
use Rattle.play_script.proofs.Again.{IsNarrow, spelled_reads}
use Rattle.play_script.proofs.Meets.{known_at, Meets, fields_meet}
use Rattle.play_script.proofs.Wording.{formed, one_form}
use Rattle.play_script.specs.Before.{Known, known_of, script_of}
use Rattle.play_script.specs.Fault.{Form, HasWord, HasNoWord, IsMiscounted, IsMisformed, IsOneTooMany, FieldsBreak, IsBad, arity}
use Rattle.play_script.specs.Reading.{line_at, read_line}
use Rattle.play_script.specs.Said.{Said}
use Rattle.play_script.specs.Words.{stage_of, is_over}
use Rattle.play_script.specs.declared.script.PlayScript.{PlayScript}
use Rattle.play_script.specs.declared.words.Stage.{Stage}

no_word_reads : (here : Stage) (far : PlayScript) (known : Known) (parts : List (List ℕ)) (r : Result Known WhyRefused) → HasNoWord here parts → Meets here far known parts r → r ≡ Err why.Word
no_word_reads here far known parts (Ok new) h m = let f = formed here far m.said parts m.comes m.spelled in absurd (h f.form f.has_word)
no_word_reads here far known parts (Err why.Word) h m = refl
no_word_reads here far known parts (Err why.Fields) h m = absurd (h m.form m.has_word)
no_word_reads here far known parts (Err why.Field) h m = absurd (h m.form m.has_word)
no_word_reads here far known parts (Err why.TooMany) h m = let f = formed here far m.said parts m.comes m.spelled in absurd (h f.form f.has_word)
no_word_reads here far known parts (Err _) h m = absurd m

-- two counts of one line's fields
same_count : (here : Stage) (parts : List (List ℕ)) (f g : Form) → HasWord here f parts → HasWord here g parts → length parts ≡ arity g → length parts ≡ arity f
same_count here parts f g p q c = c ∙ ap arity (one_form here g f parts q p)

miscounted_reads : (here : Stage) (far : PlayScript) (known : Known) (parts : List (List ℕ)) (r : Result Known WhyRefused) → IsMiscounted here parts → Meets here far known parts r → r ≡ Err why.Fields
miscounted_reads here far known parts (Ok new) h m = let f = formed here far m.said parts m.comes m.spelled in absurd (h.other (same_count here parts h.form f.form h.has_word f.has_word f.count))
miscounted_reads here far known parts (Err why.Word) h m = absurd (m h.form h.has_word)
miscounted_reads here far known parts (Err why.Fields) h m = refl
miscounted_reads here far known parts (Err why.Field) h m = absurd (h.other (same_count here parts h.form m.form h.has_word m.has_word m.count))
miscounted_reads here far known parts (Err why.TooMany) h m = let f = formed here far m.said parts m.comes m.spelled in absurd (h.other (same_count here parts h.form f.form h.has_word f.has_word f.count))
miscounted_reads here far known parts (Err _) h m = absurd m

misformed_reads : (here : Stage) (far : PlayScript) (known : Known) (parts : List (List ℕ)) (r : Result Known WhyRefused) → IsMisformed here far parts → Meets here far known parts r → r ≡ Err why.Field
misformed_reads here far known parts (Ok new) h m = absurd (h.nothing m.said m.comes m.spelled)
misformed_reads here far known parts (Err why.Word) h m = absurd (m h.form h.has_word)
misformed_reads here far known parts (Err why.Fields) h m = absurd (m.other (same_count here parts m.form h.form m.has_word h.has_word h.count))
misformed_reads here far known parts (Err why.Field) h m = refl
misformed_reads here far known parts (Err why.TooMany) h m = absurd (h.nothing m.said m.comes m.spelled)
misformed_reads here far known parts (Err _) h m = absurd m

too_many_reads : (here : Stage) (read : ℕ) (far : PlayScript) (parts : List (List ℕ)) → IsNarrow far → IsOneTooMany here far parts → line_at here (known_at here read far) parts ≡ Err why.TooMany
too_many_reads here read far parts narrow h = spelled_reads here read far h.said parts narrow h.comes h.spelled ∙ (rw h.over refl)

fields_read : (here : Stage) (read : ℕ) (far : PlayScript) (parts : List (List ℕ)) (y : WhyRefused) → IsNarrow far → is_over here ≡ false → FieldsBreak here far parts y → line_at here (known_at here read far) parts ≡ Err y
fields_read here read far parts why.Word narrow o h = no_word_reads here far (known_at here read far) parts _ h (fields_meet here read far parts o)
fields_read here read far parts why.Fields narrow o h = miscounted_reads here far (known_at here read far) parts _ h (fields_meet here read far parts o)
fields_read here read far parts why.Field narrow o h = misformed_reads here far (known_at here read far) parts _ h (fields_meet here read far parts o)
fields_read here read far parts why.TooMany narrow o h = too_many_reads here read far parts narrow h
fields_read here read far parts _ narrow o h = absurd h

too_wide : (known : Known) (text : List ℕ) → most_line_bytes < length text → read_line known text ≡ Err why.Length
unfolding read_line
too_wide known text h = rw (past most_line_bytes (length text) h) refl

short_reads : (before : List Said) (text : List ℕ) (y : WhyRefused) → IsNarrow (script_of before) → is_over (stage_of before) ≡ false → (length text ≤ most_line_bytes) × FieldsBreak (stage_of before) (script_of before) (fields text) y → read_line (known_of before) text ≡ Err y
unfolding read_line
short_reads before text y narrow o h = rw (within most_line_bytes (length text) h.0) (fields_read (stage_of before) (how_many before) (script_of before) (fields text) y narrow o h.1)

pub line_sole : (before : List Said) (text : List ℕ) (y : WhyRefused) → IsNarrow (script_of before) → is_over (stage_of before) ≡ false → IsBad before text y → read_line (known_of before) text ≡ Err y
line_sole before text why.Length narrow o h = too_wide (known_of before) text h
line_sole before text y narrow o h = short_reads before text y narrow o h
