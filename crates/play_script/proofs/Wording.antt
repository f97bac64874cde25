-- The words of a script's lines, and the forms that they begin.
use Rattle.std.proofs.Common.{ℕ, ◌≡◌, List, [], ◌∷◌, length, refl, ap, sym, ◌∙◌, Bool, true, false, cond}
use Rattle.std.specs.Prelude.{codes}
use Rattle.std.specs.Str.{bytes_eq}
use Rattle.std.specs.declared.option.Option.{Option}
use Rattle.std.specs.declared.option.Option.TheVariants.{None, Some}
use Rattle.gate_core.specs.declared.steps.Act.{Act}
use Rattle.gate_core.specs.declared.steps.Act.TheVariants as act
use Rattle.spie_base.specs.declared.types.PageShape.{PageShape}
use Rattle.line_text.proofs.Fields.{same, not_same}
use Rattle.play_script.specs.Fault as form
use Rattle.play_script.specs.Fault.{Form, HasWord, arity}
use Rattle.play_script.specs.Reading.{word_of}
use Rattle.play_script.specs.Said.{Said}
use Rattle.play_script.specs.Said as said
use Rattle.play_script.specs.Spelling.{Spells, SpellsAct}
use Rattle.play_script.specs.Words as words
use Rattle.play_script.specs.Words.{word_text, word_done, may_come}
use Rattle.play_script.specs.declared.script.PlayScript.{PlayScript}
use Rattle.play_script.specs.declared.words.Stage.{Stage}
use Rattle.play_script.specs.declared.words.Stage.TheVariants as stage
use Rattle.play_script.specs.declared.words.Word.{Word}
use Rattle.play_script.specs.declared.words.Word.TheVariants as word

-- ---- the word of a step

a_word : (field : List ℕ) (v w : Word) → bytes_eq field (word_text v) ≡ true → Some v ≡ Some w → field ≡ word_text w
a_word field v w e f = let q : v ≡ w = cc in rw (← q) (same field (word_text v) e)

word_by : (field : List ℕ) (b : Bool) (v : Word) (rest : Option Word) (w : Word) → bytes_eq field (word_text v) ≡ b → (rest ≡ Some w → field ≡ word_text w) → cond b (Some v) rest ≡ Some w → field ≡ word_text w
word_by field true v rest w t more e = a_word field v w t e
word_by field false v rest w t more e = more e

no_word : (field : List ℕ) (w : Word) → None ≡ Some w → field ≡ word_text w
no_word field w e = absurd (cc)

pub word_ok : (field : List ℕ) (w : Word) → word_of field ≡ Some w → field ≡ word_text w
unfolding word_of
word_ok field w e = word_by field (bytes_eq field (word_text word.Set)) word.Set _ w refl (word_by field (bytes_eq field (word_text word.Look)) word.Look _ w refl (word_by field (bytes_eq field (word_text word.Enter)) word.Enter _ w refl (word_by field (bytes_eq field (word_text word.Leave)) word.Leave _ w refl (word_by field (bytes_eq field (word_text word.Probe)) word.Probe _ w refl (word_by field (bytes_eq field (word_text word.Drain)) word.Drain _ w refl (word_by field (bytes_eq field (word_text word.Settle)) word.Settle _ w refl (word_by field (bytes_eq field (word_text word.Seal)) word.Seal _ w refl (word_by field (bytes_eq field (word_text word.Open)) word.Open _ w refl (word_by field (bytes_eq field (word_text word.Point)) word.Point _ w refl (no_word field w)))))))))) e

-- each word is the one of its text
pub word_again : (w : Word) → word_of (word_text w) ≡ Some w
unfolding word_of
word_again word.Look = refl
word_again word.Enter = refl
word_again word.Set = refl
word_again word.Leave = refl
word_again word.Seal = refl
word_again word.Settle = refl
word_again word.Drain = refl
word_again word.Open = refl
word_again word.Point = refl
word_again word.Probe = refl

abbrev SomeIs : Word → Word → Type 0
SomeIs x y = let o : Option Word = Some x in o ≡ Some y

some_is : (x y : Word) → SomeIs x y → x ≡ y
some_is x y e = cc

one_word : (v w : Word) → word_text v ≡ word_text w → v ≡ w
one_word v w e = some_is v w (sym (word_again v) ∙ ap word_of e ∙ word_again w)

second : (a b c d : List ℕ) (xs ys : List (List ℕ)) → a ∷ b ∷ xs ≡ c ∷ d ∷ ys → b ≡ d
second a b c d xs ys e = cc

first : (a b : List ℕ) (xs ys : List (List ℕ)) → a ∷ xs ≡ b ∷ ys → a ≡ b
first a b xs ys e = cc

-- ---- fields of no form

pub none_at_version : (form : Form) → HasWord stage.Version form [] → ⊥
none_at_version form.Version h = let q = h.1 in absurd (cc)
none_at_version form.Core h = h
none_at_version (form.Does w) h = h
none_at_version form.End h = h

pub other_version : (w : List ℕ) (rest : List (List ℕ)) → bytes_eq w (codes "spie-play") ≡ false → (form : Form) → HasWord stage.Version form (w ∷ rest) → ⊥
other_version w rest e form.Version h = not_same w (codes "spie-play") e (first w (codes "spie-play") rest h.0 h.1)
other_version w rest e form.Core h = h
other_version w rest e (form.Does v) h = h
other_version w rest e form.End h = h

pub none_at_core : (form : Form) → HasWord stage.Core form [] → ⊥
none_at_core form.Version h = h
none_at_core form.Core h = let q = h.1 in absurd (cc)
none_at_core (form.Does w) h = h
none_at_core form.End h = h

pub other_core : (w : List ℕ) (rest : List (List ℕ)) → bytes_eq w (codes "core") ≡ false → (form : Form) → HasWord stage.Core form (w ∷ rest) → ⊥
other_core w rest e form.Version h = h
other_core w rest e form.Core h = not_same w (codes "core") e (first w (codes "core") rest h.0 h.1)
other_core w rest e (form.Does v) h = h
other_core w rest e form.End h = h

pub none_at_steps : (form : Form) → HasWord stage.Steps form [] → ⊥
none_at_steps form.Version h = h
none_at_steps form.Core h = h
none_at_steps (form.Does w) h = let q = h.2 in absurd (cc)
none_at_steps form.End h = absurd (cc)

pub other_end : (w : List ℕ) → bytes_eq w (codes "end") ≡ false → (form : Form) → HasWord stage.Steps form (w ∷ []) → ⊥
other_end w e form.Version h = h
other_end w e form.Core h = h
other_end w e (form.Does v) h = let q = h.2 in absurd (cc)
other_end w e form.End h = not_same w (codes "end") e (first w (codes "end") [] [] h)

no_such : (f : List ℕ) (v : Word) → word_of f ≡ None → f ≡ word_text v → ⊥
no_such f v e is = let q : None ≡ Some v = sym e ∙ ap word_of is ∙ word_again v in absurd (cc)

pub other_step : (who f : List ℕ) (rest : List (List ℕ)) → word_of f ≡ None → (form : Form) → HasWord stage.Steps form (who ∷ f ∷ rest) → ⊥
other_step who f rest e form.Version h = h
other_step who f rest e form.Core h = h
other_step who f rest e (form.Does v) h = no_such f v e (second who f h.0 (word_text v) rest h.1 h.2)
other_step who f rest e form.End h = absurd (cc)

-- ---- a form is the only one

two_steps : (fields : List (List ℕ)) (v w : Word) (a b : List ℕ) (xs ys : List (List ℕ)) → fields ≡ a ∷ word_text v ∷ xs → fields ≡ b ∷ word_text w ∷ ys → v ≡ w
two_steps fields v w a b xs ys p q = one_word v w (second a (word_text v) b (word_text w) xs ys (sym p ∙ q))

at_version : (f : Form) (fields : List (List ℕ)) → HasWord stage.Version f fields → f ≡ form.Version
at_version form.Version fields p = refl
at_version form.Core fields p = absurd p
at_version (form.Does w) fields p = absurd p
at_version form.End fields p = absurd p

at_core : (f : Form) (fields : List (List ℕ)) → HasWord stage.Core f fields → f ≡ form.Core
at_core form.Version fields p = absurd p
at_core form.Core fields p = refl
at_core (form.Does w) fields p = absurd p
at_core form.End fields p = absurd p

at_steps : (f g : Form) (fields : List (List ℕ)) → HasWord stage.Steps f fields → HasWord stage.Steps g fields → f ≡ g
at_steps form.Version g fields p q = absurd p
at_steps form.Core g fields p q = absurd p
at_steps (form.Does v) form.Version fields p q = absurd q
at_steps (form.Does v) form.Core fields p q = absurd q
at_steps (form.Does v) (form.Does w) fields p q = ap (λ z. form.Does z) (two_steps fields v w p.0 q.0 p.1 q.1 p.2 q.2)
at_steps (form.Does v) form.End fields p q = let a = p.2 in absurd (cc)
at_steps form.End form.Version fields p q = absurd q
at_steps form.End form.Core fields p q = absurd q
at_steps form.End (form.Does w) fields p q = let b = q.2 in absurd (cc)
at_steps form.End form.End fields p q = refl

never_over : (f : Form) (fields : List (List ℕ)) → HasWord stage.Over f fields → ⊥
never_over form.Version fields p = p
never_over form.Core fields p = p
never_over (form.Does w) fields p = p
never_over form.End fields p = p

pub one_form : (here : Stage) (f g : Form) (fields : List (List ℕ)) → HasWord here f fields → HasWord here g fields → f ≡ g
one_form stage.Version f g fields p q = at_version f fields p ∙ sym (at_version g fields q)
one_form stage.Core f g fields p q = at_core f fields p ∙ sym (at_core g fields q)
one_form stage.Steps f g fields p q = at_steps f g fields p q
one_form stage.Over f g fields p q = absurd (never_over f fields p)

-- ---- a line that says something has a form

act_count : (shape : PageShape) (a : Act) (fields : List (List ℕ)) → SpellsAct shape a fields → (rest : List (List ℕ)) × (fields ≡ word_text (word_done a) ∷ rest) × (length (word_text (word_done a) ∷ word_text (word_done a) ∷ rest) ≡ words.arity (word_done a))
act_count shape act.Look fields s = ([], s, refl)
act_count shape (act.Enter sig) fields s = (s.0 ∷ [], s.1, refl)
act_count shape act.Set fields s = ([], s, refl)
act_count shape act.Leave fields s = ([], s, refl)
act_count shape act.Seal fields s = ([], s, refl)
act_count shape (act.Settle slot) fields s = (_, s.0, refl)
act_count shape (act.Drain slot) fields s = (_, s.0, refl)
act_count shape (act.Open slot) fields s = (_, s.0, refl)
act_count shape act.Point fields s = ([], s, refl)
act_count shape (act.Probe slot at) fields s = (_, s.0, refl)

-- the form of a line's fields, and how many they are
pub record Formed (here : Stage) (fields : List (List ℕ)) : Type 0 where
  pub form : Form
  pub has_word : HasWord here form fields
  pub count : length fields ≡ arity form

pub formed : (here : Stage) (far : PlayScript) (s : Said) (fields : List (List ℕ)) → may_come here s ≡ true → Spells far s fields → Formed here fields
formed stage.Version far said.Version fields m s = record { form = form.Version; has_word = (_, s); count = ap length s }
formed stage.Core far (said.Core passes shape) fields m s = record { form = form.Core; has_word = (_, s.1); count = ap length s.1 }
formed stage.Steps far (said.Does step) fields m s =
    let a = act_count far.shape step.act s.1 s.4 in
    let are : fields ≡ s.0 ∷ word_text (word_done step.act) ∷ a.0 = s.2 ∙ ap (λ z. s.0 ∷ z) a.1 in
    record { form = form.Does (word_done step.act); has_word = (s.0, a.0, are); count = ap length are ∙ a.2 }
formed stage.Steps far said.End fields m s = record { form = form.End; has_word = s; count = ap length s }
formed here far s fields m sp = absurd (cc)
