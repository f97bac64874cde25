-- What the reading of a line's fields gives: what they say, or the first rule that they break.
use Rattle.std.proofs.Common.{ℕ, ◌≡◌, ◌≢◌, ◌^◌, List, [], ◌∷◌, length, refl, ap, sym, ◌∙◌, subst, arith, Result, Ok, Err, Bool, true, false, cond, nat_le, lit<}
use Rattle.std.specs.Fmt.{decimal}
use Rattle.std.specs.Prelude.{codes}
use Rattle.std.specs.Str.{bytes_eq}
use Rattle.std.specs.declared.option.Option.{Option}
use Rattle.std.specs.declared.option.Option.TheVariants.{None, Some}
use Rattle.gate_core.specs.declared.steps.Act.{Act}
use Rattle.gate_core.specs.declared.steps.Act.TheVariants as act
use Rattle.gate_core.specs.declared.steps.Actor.{Actor}
use Rattle.gate_core.specs.declared.steps.Step.{Step}
use Rattle.spie_base.specs.declared.types.PageShape.{PageShape}
use Rattle.trace_format.proofs.FieldForms.{IsNumber, bound, number_meets}
use Rattle.line_text.proofs.Fields.{same}
use Rattle.play_script.specs.Limits.{most_steps}
use Rattle.line_text.specs.Answers.{◌>>=◌}
use Rattle.trace_format.specs.Reading.{number}
use Rattle.trace_format.specs.declared.refused.WhyRefused.{WhyRefused}
use Rattle.trace_format.specs.declared.refused.WhyRefused.TheVariants as why
use Rattle.play_script.proofs.Fields.{IsBelow, below_meets, sig_meets, actor_meets, IsSpelled, shape_meets}
use Rattle.play_script.proofs.Wording.{word_ok, none_at_version, other_version, none_at_core, other_core, none_at_steps, other_end, other_step}
use Rattle.play_script.specs.Before.{Known}
use Rattle.play_script.specs.Fault as form
use Rattle.play_script.specs.Fault.{Form, HasWord, HasNoWord, IsMiscounted, IsOneTooMany, arity}
use Rattle.play_script.specs.Reading.{below, sig_of, actor_in, shape_in, alone_in, enter_in, slot_in, probe_fields, probe_in, act_in, step_of, step_in, word_of, grown, version_rest, version_line, core_fields, core_rest, core_line, pushed, by_word, end_line, step_line, line_at}
use Rattle.play_script.specs.Said.{Said}
use Rattle.play_script.specs.Said as said
use Rattle.play_script.specs.Script.{is_over_limit}
use Rattle.play_script.specs.Spelling.{Spells, SpellsAct, IsActor, IsSig}
use Rattle.gate_core.specs.Core.{may_do}
use Rattle.play_script.specs.Words as words
use Rattle.play_script.specs.Words.{word_text, may_come, is_over}
use Rattle.play_script.specs.declared.script.PlayScript.{PlayScript}
use Rattle.play_script.specs.declared.words.Stage.{Stage}
use Rattle.play_script.specs.declared.words.Stage.TheVariants as stage
use Rattle.play_script.specs.declared.words.Word.{Word}
use Rattle.play_script.specs.declared.words.Word.TheVariants as word
use Rattle.gate_core.specs.declared.limits.TheConstants.{MOST_PASSES, SLOTS}

-- ---- an act

-- the act is spelled so, or the fields are too few or too many, or one is not of its form
abbrev pub ActMeets : List ℕ → PageShape → Word → List (List ℕ) → Result Act WhyRefused → Type 0
ActMeets who shape w rest (Ok a) = SpellsAct shape a (word_text w ∷ rest) × (length (who ∷ word_text w ∷ rest) ≡ words.arity w)
ActMeets who shape w rest (Err why.Fields) = length (who ∷ word_text w ∷ rest) ≢ words.arity w
ActMeets who shape w rest (Err why.Field) = length (who ∷ word_text w ∷ rest) ≡ words.arity w
ActMeets who shape w rest (Err _) = ⊥

act_meets : (who : List ℕ) (shape : PageShape) (w : Word) (rest : List (List ℕ)) → ActMeets who shape w rest (act_in (2 ^ shape.n) w rest)
unfolding act_in alone_in enter_in slot_in probe_in probe_fields
act_meets who shape word.Look [] = (refl, refl)
act_meets who shape word.Look (a ∷ more) = λ q. omega arith
act_meets who shape word.Enter [] = λ q. omega arith
act_meets who shape word.Enter (a ∷ []) = bound (λ sig. IsSig a sig) (λ r. ActMeets who shape word.Enter (a ∷ []) r) (sig_of a) (λ sig. Ok (act.Enter sig)) (sig_meets a) (λ sig h. ((a, refl, h), refl)) refl
act_meets who shape word.Enter (a ∷ b ∷ more) = λ q. omega arith
act_meets who shape word.Set [] = (refl, refl)
act_meets who shape word.Set (a ∷ more) = λ q. omega arith
act_meets who shape word.Leave [] = (refl, refl)
act_meets who shape word.Leave (a ∷ more) = λ q. omega arith
act_meets who shape word.Seal [] = (refl, refl)
act_meets who shape word.Seal (a ∷ more) = λ q. omega arith
act_meets who shape word.Settle [] = λ q. omega arith
act_meets who shape word.Settle (a ∷ []) = bound (λ n. IsBelow a SLOTS n) (λ r. ActMeets who shape word.Settle (a ∷ []) r) (below a SLOTS) (λ n. Ok (act.Settle n)) (below_meets a SLOTS) (λ n h. ((ap (λ z. codes "settle" ∷ z ∷ []) h.is, h.under), refl)) refl
act_meets who shape word.Settle (a ∷ b ∷ more) = λ q. omega arith
act_meets who shape word.Drain [] = λ q. omega arith
act_meets who shape word.Drain (a ∷ []) = bound (λ n. IsBelow a SLOTS n) (λ r. ActMeets who shape word.Drain (a ∷ []) r) (below a SLOTS) (λ n. Ok (act.Drain n)) (below_meets a SLOTS) (λ n h. ((ap (λ z. codes "drain" ∷ z ∷ []) h.is, h.under), refl)) refl
act_meets who shape word.Drain (a ∷ b ∷ more) = λ q. omega arith
act_meets who shape word.Open [] = λ q. omega arith
act_meets who shape word.Open (a ∷ []) = bound (λ n. IsBelow a SLOTS n) (λ r. ActMeets who shape word.Open (a ∷ []) r) (below a SLOTS) (λ n. Ok (act.Open n)) (below_meets a SLOTS) (λ n h. ((ap (λ z. codes "open" ∷ z ∷ []) h.is, h.under), refl)) refl
act_meets who shape word.Open (a ∷ b ∷ more) = λ q. omega arith
act_meets who shape word.Point [] = (refl, refl)
act_meets who shape word.Point (a ∷ more) = λ q. omega arith
act_meets who shape word.Probe [] = λ q. omega arith
act_meets who shape word.Probe (a ∷ []) = λ q. omega arith
act_meets who shape word.Probe (a ∷ b ∷ []) =
    bound (λ n. IsBelow a SLOTS n) (λ r. ActMeets who shape word.Probe (a ∷ b ∷ []) r) (below a SLOTS) (λ n. below b (2 ^ shape.n) >>= (λ m. Ok (act.Probe n m))) (below_meets a SLOTS) (λ n h.
    bound (λ m. IsBelow b (2 ^ shape.n) m) (λ r. ActMeets who shape word.Probe (a ∷ b ∷ []) r) (below b (2 ^ shape.n)) (λ m. Ok (act.Probe n m)) (below_meets b (2 ^ shape.n)) (λ m g.
    ((ap (λ z. codes "probe" ∷ z ∷ b ∷ []) h.is ∙ ap (λ z. codes "probe" ∷ decimal n ∷ z ∷ []) g.is, h.under, g.under), refl)) refl) refl
act_meets who shape word.Probe (a ∷ b ∷ c ∷ more) = λ q. omega arith

-- ---- a step

abbrev pub StepMeets : PlayScript → List ℕ → Word → List (List ℕ) → Result Step WhyRefused → Type 0
StepMeets far who w rest (Ok step) = Spells far (said.Does step) (who ∷ word_text w ∷ rest)
StepMeets far who w rest (Err why.Fields) = length (who ∷ word_text w ∷ rest) ≢ words.arity w
StepMeets far who w rest (Err why.Field) = length (who ∷ word_text w ∷ rest) ≡ words.arity w
StepMeets far who w rest (Err _) = ⊥

allowed : (far : PlayScript) (who : List ℕ) (w : Word) (rest : List (List ℕ)) (a : Act) (one : Actor) (b : Bool) → may_do one a ≡ b → IsActor far.passes one who → SpellsAct far.shape a (word_text w ∷ rest) → length (who ∷ word_text w ∷ rest) ≡ words.arity w → StepMeets far who w rest (cond b (Ok (record { actor = one; act = a })) (Err why.Field))
allowed far who w rest a one true m is sp count = (who, word_text w ∷ rest, refl, is, sp, m)
allowed far who w rest a one false m is sp count = count

by_act : (far : PlayScript) (who : List ℕ) (w : Word) (rest : List (List ℕ)) (r : Result Act WhyRefused) → ActMeets who far.shape w rest r → StepMeets far who w rest (r >>= (λ a. actor_in far.passes who >>= (λ one. step_of one a)))
unfolding step_of
by_act far who w rest (Ok a) h = bound (λ one. IsActor far.passes one who) (λ r. StepMeets far who w rest r) (actor_in far.passes who) (λ one. step_of one a) (actor_meets far.passes who) (λ one is. allowed far who w rest a one _ refl is h.0 h.1) h.1
by_act far who w rest (Err why.Fields) h = h
by_act far who w rest (Err why.Field) h = h
by_act far who w rest (Err _) h = h

step_meets : (far : PlayScript) (who : List ℕ) (w : Word) (rest : List (List ℕ)) → StepMeets far who w rest (step_in far.passes (2 ^ far.shape.n) who w rest)
unfolding step_in
step_meets far who w rest = by_act far who w rest (act_in (2 ^ far.shape.n) w rest) (act_meets who far.shape w rest)

-- ---- a line

-- what is known where the lines go and say so far
abbrev pub known_at : Stage → ℕ → PlayScript → Known
known_at here read far = record { stage = here; read = read; passes = far.passes; shape = far.shape; positions = 2 ^ far.shape.n; steps = far.steps }

-- a line that was taken
pub record Taken (here : Stage) (far : PlayScript) (known : Known) (fields : List (List ℕ)) (new : Known) : Type 0 where
  pub said : Said
  pub comes : may_come here said ≡ true
  pub spelled : Spells far said fields
  pub fits : is_over_limit far said ≡ false
  pub grows : new ≡ grown known said

-- the right number of fields
pub record IsCounted (here : Stage) (fields : List (List ℕ)) : Type 0 where
  pub form : Form
  pub has_word : HasWord here form fields
  pub count : length fields ≡ arity form

abbrev pub Reason : Stage → PlayScript → List (List ℕ) → WhyRefused → Type 0
Reason here far fields why.Word = HasNoWord here fields
Reason here far fields why.Fields = IsMiscounted here fields
Reason here far fields why.Field = IsCounted here fields
Reason here far fields why.TooMany = IsOneTooMany here far fields
Reason here far fields _ = ⊥

abbrev pub Meets : Stage → PlayScript → Known → List (List ℕ) → Result Known WhyRefused → Type 0
Meets here far known fields (Ok new) = Taken here far known fields new
Meets here far known fields (Err y) = Reason here far fields y

-- the first line
version_by : (far : PlayScript) (known : Known) (w v : List ℕ) (b : Bool) → w ≡ codes "spie-play" → bytes_eq v (codes "1") ≡ b → Meets stage.Version far known (w ∷ v ∷ []) (cond b (Ok (grown known said.Version)) (Err why.Field))
version_by far known w v true is e = record { said = said.Version; comes = refl; spelled = ap (λ z. z ∷ v ∷ []) is ∙ ap (λ z. codes "spie-play" ∷ z ∷ []) (same v (codes "1") e); fits = refl; grows = refl }
version_by far known w v false is e = record { form = form.Version; has_word = (v ∷ [], ap (λ z. z ∷ v ∷ []) is); count = refl }

version_rest_meets : (far : PlayScript) (known : Known) (w : List ℕ) (rest : List (List ℕ)) → w ≡ codes "spie-play" → Meets stage.Version far known (w ∷ rest) (version_rest known rest)
unfolding version_rest
version_rest_meets far known w [] is = record { form = form.Version; has_word = ([], ap (λ z. z ∷ []) is); other = λ q. omega arith }
version_rest_meets far known w (v ∷ []) is = version_by far known w v _ is refl
version_rest_meets far known w (v ∷ x ∷ xs) is = record { form = form.Version; has_word = (v ∷ x ∷ xs, ap (λ z. z ∷ v ∷ x ∷ xs) is); other = λ q. omega arith }

version_line_by : (far : PlayScript) (known : Known) (w : List ℕ) (rest : List (List ℕ)) (b : Bool) → bytes_eq w (codes "spie-play") ≡ b → Meets stage.Version far known (w ∷ rest) (cond b (version_rest known rest) (Err why.Word))
version_line_by far known w rest true e = version_rest_meets far known w rest (same w (codes "spie-play") e)
version_line_by far known w rest false e = λ f h. other_version w rest e f h

version_meets : (far : PlayScript) (known : Known) (fields : List (List ℕ)) → Meets stage.Version far known fields (version_line known fields)
unfolding version_line
version_meets far known [] = λ f h. none_at_version f h
version_meets far known (w ∷ rest) = version_line_by far known w rest _ refl

-- the second line
core_is : (w p k n base : List ℕ) (passes : ℕ) (shape : PageShape) → w ≡ codes "core" → p ≡ decimal passes → IsSpelled k n base shape → w ∷ p ∷ k ∷ n ∷ base ∷ [] ≡ codes "core" ∷ decimal passes ∷ decimal shape.k ∷ decimal shape.n ∷ base ∷ []
core_is w p k n base passes shape is e s =
    ap (λ z. z ∷ p ∷ k ∷ n ∷ base ∷ []) is
    ∙ ap (λ z. codes "core" ∷ z ∷ k ∷ n ∷ base ∷ []) e
    ∙ ap (λ z. codes "core" ∷ decimal passes ∷ z ∷ n ∷ base ∷ []) s.k_is
    ∙ ap (λ z. codes "core" ∷ decimal passes ∷ decimal shape.k ∷ z ∷ base ∷ []) s.n_is

core_fields_meet : (far : PlayScript) (known : Known) (w p k n base : List ℕ) → w ≡ codes "core" → Meets stage.Core far known (w ∷ p ∷ k ∷ n ∷ base ∷ []) (core_fields known p k n base)
unfolding core_fields
core_fields_meet far known w p k n base is =
    let counted : IsCounted stage.Core (w ∷ p ∷ k ∷ n ∷ base ∷ []) = record { form = form.Core; has_word = (p ∷ k ∷ n ∷ base ∷ [], ap (λ z. z ∷ p ∷ k ∷ n ∷ base ∷ []) is); count = refl } in
    bound (λ v. IsNumber p 1 MOST_PASSES v) (λ r. Meets stage.Core far known (w ∷ p ∷ k ∷ n ∷ base ∷ []) r) (number p 1 MOST_PASSES) (λ v. shape_in k n base >>= (λ shape. Ok (grown known (said.Core v shape)))) (number_meets p 1 MOST_PASSES (lit< tt)) (λ v h.
    bound (λ shape. IsSpelled k n base shape) (λ r. Meets stage.Core far known (w ∷ p ∷ k ∷ n ∷ base ∷ []) r) (shape_in k n base) (λ shape. Ok (grown known (said.Core v shape))) (shape_meets k n base) (λ shape s.
    record { said = said.Core v shape; comes = refl; spelled = (base, core_is w p k n base v shape is h.is s, h.low, h.high, s.in_range, s.base_is, s.router); fits = refl; grows = refl }) counted) counted

core_miscount : (far : PlayScript) (known : Known) (w : List ℕ) (rest : List (List ℕ)) → w ≡ codes "core" → (length (w ∷ rest) ≢ 5) → Meets stage.Core far known (w ∷ rest) (Err why.Fields)
core_miscount far known w rest is n = record { form = form.Core; has_word = (rest, ap (λ z. z ∷ rest) is); other = n }

core_rest_meets : (far : PlayScript) (known : Known) (w : List ℕ) (rest : List (List ℕ)) → w ≡ codes "core" → Meets stage.Core far known (w ∷ rest) (core_rest known rest)
unfolding core_rest
core_rest_meets far known w [] is = core_miscount far known w [] is (λ q. omega arith)
core_rest_meets far known w (a ∷ []) is = core_miscount far known w (a ∷ []) is (λ q. omega arith)
core_rest_meets far known w (a ∷ b ∷ []) is = core_miscount far known w (a ∷ b ∷ []) is (λ q. omega arith)
core_rest_meets far known w (a ∷ b ∷ c ∷ []) is = core_miscount far known w (a ∷ b ∷ c ∷ []) is (λ q. omega arith)
core_rest_meets far known w (a ∷ b ∷ c ∷ d ∷ []) is = core_fields_meet far known w a b c d is
core_rest_meets far known w (a ∷ b ∷ c ∷ d ∷ x ∷ xs) is = core_miscount far known w (a ∷ b ∷ c ∷ d ∷ x ∷ xs) is (λ q. omega arith)

core_line_by : (far : PlayScript) (known : Known) (w : List ℕ) (rest : List (List ℕ)) (b : Bool) → bytes_eq w (codes "core") ≡ b → Meets stage.Core far known (w ∷ rest) (cond b (core_rest known rest) (Err why.Word))
core_line_by far known w rest true e = core_rest_meets far known w rest (same w (codes "core") e)
core_line_by far known w rest false e = λ f h. other_core w rest e f h

core_meets : (far : PlayScript) (known : Known) (fields : List (List ℕ)) → Meets stage.Core far known fields (core_line known fields)
unfolding core_line
core_meets far known [] = λ f h. none_at_core f h
core_meets far known (w ∷ rest) = core_line_by far known w rest _ refl

-- a step's line
pushed_by : (far : PlayScript) (known : Known) (who : List ℕ) (w : Word) (rest : List (List ℕ)) (step : Step) (b : Bool) → nat_le most_steps (length far.steps) ≡ b → Spells far (said.Does step) (who ∷ word_text w ∷ rest) → Meets stage.Steps far known (who ∷ word_text w ∷ rest) (cond b (Err why.TooMany) (Ok (grown known (said.Does step))))
pushed_by far known who w rest step true e sp = record { said = said.Does step; comes = refl; spelled = sp; over = e }
pushed_by far known who w rest step false e sp = record { said = said.Does step; comes = refl; spelled = sp; fits = e; grows = refl }

by_step : (far : PlayScript) (read : ℕ) (who : List ℕ) (w : Word) (rest : List (List ℕ)) (r : Result Step WhyRefused) → StepMeets far who w rest r → Meets stage.Steps far (known_at stage.Steps read far) (who ∷ word_text w ∷ rest) (r >>= (λ step. pushed (known_at stage.Steps read far) step))
unfolding pushed
by_step far read who w rest (Ok step) h = pushed_by far (known_at stage.Steps read far) who w rest step _ refl h
by_step far read who w rest (Err why.Fields) h = record { form = form.Does w; has_word = (who, rest, refl); other = h }
by_step far read who w rest (Err why.Field) h = record { form = form.Does w; has_word = (who, rest, refl); count = h }
by_step far read who w rest (Err _) h = absurd h

by_word_meets : (far : PlayScript) (read : ℕ) (who f : List ℕ) (found : Option Word) (rest : List (List ℕ)) → word_of f ≡ found → Meets stage.Steps far (known_at stage.Steps read far) (who ∷ f ∷ rest) (by_word (known_at stage.Steps read far) who found rest)
unfolding by_word
by_word_meets far read who f None rest e = λ g h. other_step who f rest e g h
by_word_meets far read who f (Some w) rest e =
    let P : List ℕ → Type 0 = λ z. Meets stage.Steps far (known_at stage.Steps read far) (who ∷ z ∷ rest) (step_in far.passes (2 ^ far.shape.n) who w rest >>= (λ step. pushed (known_at stage.Steps read far) step)) in
    subst P (sym (word_ok f w e)) (by_step far read who w rest _ (step_meets far who w rest))

end_by : (far : PlayScript) (known : Known) (w : List ℕ) (b : Bool) → bytes_eq w (codes "end") ≡ b → Meets stage.Steps far known (w ∷ []) (cond b (Ok (grown known said.End)) (Err why.Word))
end_by far known w true e = record { said = said.End; comes = refl; spelled = ap (λ z. z ∷ []) (same w (codes "end") e); fits = refl; grows = refl }
end_by far known w false e = λ f h. other_end w e f h

step_line_meets : (far : PlayScript) (read : ℕ) (fields : List (List ℕ)) → Meets stage.Steps far (known_at stage.Steps read far) fields (step_line (known_at stage.Steps read far) fields)
unfolding step_line end_line
step_line_meets far read [] = λ f h. none_at_steps f h
step_line_meets far read (w ∷ []) = end_by far (known_at stage.Steps read far) w _ refl
step_line_meets far read (who ∷ f ∷ rest) = by_word_meets far read who f _ rest refl

pub fields_meet : (here : Stage) (read : ℕ) (far : PlayScript) (fields : List (List ℕ)) → is_over here ≡ false → Meets here far (known_at here read far) fields (line_at here (known_at here read far) fields)
unfolding line_at
fields_meet stage.Version read far fields o = version_meets far (known_at stage.Version read far) fields
fields_meet stage.Core read far fields o = core_meets far (known_at stage.Core read far) fields
fields_meet stage.Steps read far fields o = step_line_meets far read fields
fields_meet stage.Over read far fields o = absurd (cc)
