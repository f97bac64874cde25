-- A text with a fault is refused with it.
use Rattle.std.proofs.Common.{ℕ, ◌≡◌, ◌≢◌, ◌≤◌, ◌<◌, inl, inr, List, [], ◌∷◌, length, refl, ap, sym, ◌∙◌, subst, Result, Ok, Err, Bool, true, false, cond}
use Rattle.std.specs.declared.option.Option.{Option}
use Rattle.std.specs.declared.option.Option.TheVariants.{None, Some}
use Rattle.spie_base.proofs.Bounds.{past, within}
use Rattle.trace_format.specs.declared.refused.WhyRefused.{WhyRefused}
use Rattle.trace_format.specs.declared.refused.WhyRefused.TheVariants as why
use Rattle.trace_format.specs.declared.words.Word.{Word}
use Rattle.trace_format.specs.Before.{Known, known_of, form_in}
use Rattle.trace_format.specs.Fault.{HasWord, HasNoWord, IsBad, IsRefused}
use Rattle.trace_format.specs.Reading.{read_line, line_by, by_fields, by_word, word_of, accept, judged}
use Rattle.trace_format.specs.Spelling.{Spells, SpellsLink}
use Rattle.trace_format.specs.declared.version.Form.{Form}
use Rattle.trace_format.specs.Table.{first_broken}
use Rattle.line_text.specs.Text.{fields}
use Rattle.trace_format.specs.Words.{word_said, may_come, word_text, arity}
use Rattle.trace_format.specs.Said.{Said}
use Rattle.trace_format.specs.Said as said
use Rattle.trace_format.proofs.FieldForms.{word_ok, word_again}
use Rattle.trace_format.proofs.LineForms.{Trouble, line_accepted, line_err}
use Rattle.trace_format.proofs.Again.{spelled_reads}
use Rattle.trace_format.specs.declared.limits.TheConstants.{MOST_LINE_BYTES}

link_count : (has : Bool) (a b : List ℕ) (d : ℕ) (parts : List (List ℕ)) → SpellsLink has a b d parts → length parts ≡ cond has 4 3
link_count false a b d parts s = ap length s.0
link_count true a b d parts s = ap length s.0

spelled_count : (form : Form) (s : Said) (parts : List (List ℕ)) → Spells form s parts → length parts ≡ arity form (word_said s)
spelled_count form (said.Version v) parts s = ap length s
spelled_count form (said.Shape r) parts s = ap length s.1
spelled_count form (said.Router a b) parts s = ap length s.0
spelled_count form (said.Link a b d) parts s = link_count form.has_delays a b d parts s
spelled_count form (said.Pages a k n l) parts s = ap length s.0
spelled_count form said.Begin parts s = ap length s
spelled_count form (said.Packet a) parts s = ap length s.1
spelled_count form (said.Fwd a b) parts s = ap length s.0
spelled_count form (said.Xf a b c d) parts s = ap length s.0
spelled_count form (said.Rotate a) parts s = ap length s.0
spelled_count form (said.Archive a) parts s = ap length s.0
spelled_count form (said.Watch a b) parts s = ap length s.0
spelled_count form (said.Tick a) parts s = ap length s.0
spelled_count form (said.Query a b c) parts s = ap length s.0
spelled_count form said.End parts s = ap length s

counted : (known : Known) (parts : List (List ℕ)) (st : HasWord (form_in known) known.stage parts) → length (word_text st.w ∷ st.more) ≡ length parts
counted known parts st = ap length (sym st.are)

at_parts : (known : Known) (parts : List (List ℕ)) (st : HasWord (form_in known) known.stage parts) (s : Said) → Spells (form_in known) s (word_text st.w ∷ st.more) → Spells (form_in known) s parts
at_parts known parts st s sp =
    let Q : List (List ℕ) → Type 0 = λ z. Spells (form_in known) s z in
    subst Q (sym st.are) sp

begun_reads : (known : Known) (parts : List (List ℕ)) (st : HasWord (form_in known) known.stage parts) → by_fields known parts ≡ line_by known st.w st.more
begun_reads known parts st = rw (st.are, word_again st.w, st.comes) refl

abbrev ErrK : WhyRefused → Result Known WhyRefused
ErrK y = Err y

fields_by : (known : Known) (parts : List (List ℕ)) (st : HasWord (form_in known) known.stage parts) (y : WhyRefused) → (length parts ≢ arity (form_in known) st.w) → Trouble known st.w st.more y → ErrK y ≡ Err why.Fields
fields_by known parts st y n (inl p) = ap (λ v. ErrK v) p.0
fields_by known parts st y n (inr (inl p)) = absurd (n (sym (counted known parts st) ∙ p.1))
fields_by known parts st y n (inr (inr j)) = absurd (n (spelled_count (form_in known) j.said parts (at_parts known parts st j.said j.spelled) ∙ ap (arity (form_in known)) j.word))

mis_by : (known : Known) (parts : List (List ℕ)) (st : HasWord (form_in known) known.stage parts) → (length parts ≢ arity (form_in known) st.w) → (r : Result Known WhyRefused) → line_by known st.w st.more ≡ r → r ≡ Err why.Fields
mis_by known parts st n (Ok new) e = let s = line_accepted known new st.w st.more e in absurd (n (spelled_count (form_in known) s.said parts (at_parts known parts st s.said s.spelled) ∙ ap (arity (form_in known)) s.word))
mis_by known parts st n (Err y) e = fields_by known parts st y n (line_err known st.w st.more y e)

field_by : (known : Known) (parts : List (List ℕ)) (st : HasWord (form_in known) known.stage parts) (y : WhyRefused) → length parts ≡ arity (form_in known) st.w → ((s : Said) → Spells (form_in known) s parts → ⊥) → Trouble known st.w st.more y → ErrK y ≡ Err why.Field
field_by known parts st y c none (inl p) = absurd (p.1 (counted known parts st ∙ c))
field_by known parts st y c none (inr (inl p)) = ap (λ v. ErrK v) p.0
field_by known parts st y c none (inr (inr j)) = absurd (none j.said (at_parts known parts st j.said j.spelled))

form_by : (known : Known) (parts : List (List ℕ)) (st : HasWord (form_in known) known.stage parts) → length parts ≡ arity (form_in known) st.w → ((s : Said) → Spells (form_in known) s parts → ⊥) → (r : Result Known WhyRefused) → line_by known st.w st.more ≡ r → r ≡ Err why.Field
form_by known parts st c none (Ok new) e = let s = line_accepted known new st.w st.more e in absurd (none s.said (at_parts known parts st s.said s.spelled))
form_by known parts st c none (Err y) e = field_by known parts st y c none (line_err known st.w st.more y e)

no_word_at : (known : Known) (f : List ℕ) (w : Word) (rest : List (List ℕ)) (b : Bool) → word_of f ≡ Some w → may_come (form_in known) known.stage w ≡ b → HasNoWord (form_in known) known.stage (f ∷ rest) → cond b (line_by known w rest) (Err why.Word) ≡ Err why.Word
no_word_at known f w rest true is m h = absurd (h (record { w = w; more = rest; are = ap (λ z. z ∷ rest) (word_ok f w is); comes = m }))
no_word_at known f w rest false is m h = refl

no_word_by : (known : Known) (f : List ℕ) (found : Option Word) (rest : List (List ℕ)) → word_of f ≡ found → HasNoWord (form_in known) known.stage (f ∷ rest) → by_word known found rest ≡ Err why.Word
no_word_by known f None rest is h = refl
no_word_by known f (Some w) rest is h = no_word_at known f w rest _ is refl h

no_word : (known : Known) (parts : List (List ℕ)) → HasNoWord (form_in known) known.stage parts → by_fields known parts ≡ Err why.Word
no_word known [] h = refl
no_word known (f ∷ rest) h = no_word_by known f _ rest refl h

by_short : (known : Known) (text : List ℕ) (y : WhyRefused) → length text ≤ MOST_LINE_BYTES → by_fields known (fields text) ≡ Err y → read_line known text ≡ Err y
unfolding read_line
by_short known text y h e = rw (within MOST_LINE_BYTES (length text) h) e

too_wide : (known : Known) (text : List ℕ) → MOST_LINE_BYTES < length text → read_line known text ≡ Err why.Length
unfolding read_line
too_wide known text h = rw (past MOST_LINE_BYTES (length text) h) refl

accept_refuses : (known : Known) (s : Said) (y : WhyRefused) → first_broken known s ≡ Some y → accept known s ≡ Err y
unfolding accept judged
accept_refuses known s y e = rw e refl

refused_sole : (before : List Said) (text : List ℕ) (y : WhyRefused) → (length text ≤ MOST_LINE_BYTES) × IsRefused before (fields text) y → read_line (known_of before) text ≡ Err y
refused_sole before text y r = by_short (known_of before) text y r.0 (spelled_reads (known_of before) r.1.said (fields text) r.1.spelled ∙ (rw r.1.comes (accept_refuses (known_of before) r.1.said y r.1.first)))

pub line_sole : (before : List Said) (text : List ℕ) (y : WhyRefused) → IsBad before text y → read_line (known_of before) text ≡ Err y
line_sole before text why.TooLong r = refused_sole before text why.TooLong r
line_sole before text why.After r = refused_sole before text why.After r
line_sole before text why.Ending r = refused_sole before text why.Ending r
line_sole before text why.Length r = too_wide (known_of before) text r
line_sole before text why.Word r = by_short (known_of before) text why.Word r.0 (no_word (known_of before) (fields text) r.1)
line_sole before text why.Fields r = by_short (known_of before) text why.Fields r.0 (begun_reads (known_of before) (fields text) r.1.begun ∙ mis_by (known_of before) (fields text) r.1.begun r.1.other _ refl)
line_sole before text why.Field r = by_short (known_of before) text why.Field r.0 (begun_reads (known_of before) (fields text) r.1.begun ∙ form_by (known_of before) (fields text) r.1.begun r.1.count r.1.nothing _ refl)
line_sole before text why.DoubleName r = refused_sole before text why.DoubleName r
line_sole before text why.NoName r = refused_sole before text why.NoName r
line_sole before text why.SelfLink r = refused_sole before text why.SelfLink r
line_sole before text why.DoubleLink r = refused_sole before text why.DoubleLink r
line_sole before text why.NoRouter r = refused_sole before text why.NoRouter r
line_sole before text why.TooMany r = refused_sole before text why.TooMany r
line_sole before text why.Short r = refused_sole before text why.Short r
line_sole before text why.Version r = refused_sole before text why.Version r
line_sole before text why.HeaderLength r = refused_sole before text why.HeaderLength r
line_sole before text why.TotalLength r = refused_sole before text why.TotalLength r
line_sole before text why.Checksum r = refused_sole before text why.Checksum r
line_sole before text why.NoPacket r = refused_sole before text why.NoPacket r
line_sole before text why.Kind r = refused_sole before text why.Kind r
line_sole before text why.Clock r = refused_sole before text why.Clock r
line_sole before text why.Twice r = refused_sole before text why.Twice r
