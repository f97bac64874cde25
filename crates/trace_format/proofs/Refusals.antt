-- Why a line was refused.
use Rattle.std.proofs.Common.{ℕ, ◌≡◌, List, [], ◌∷◌, refl, ap, sym, ◌∙◌, Result, Ok, Err, Bool, true, false, cond, ◌⊎◌, inl, inr}
use Rattle.std.specs.declared.option.Option.{Option}
use Rattle.std.specs.declared.option.Option.TheVariants.{None, Some}
use Rattle.trace_format.specs.Before.{Known, form_in}
use Rattle.trace_format.specs.Fault.{HasWord, HasNoWord}
use Rattle.trace_format.specs.Reading.{judged, grown, accept, line_by, by_fields, by_word, word_of, judged_by}
use Rattle.trace_format.specs.Table.{first_broken}
use Rattle.trace_format.specs.Words.{word_text, may_come}
use Rattle.line_text.specs.Answers.{◌>>=◌}
use Rattle.trace_format.specs.Said.{Said}
use Rattle.trace_format.proofs.FieldForms.{word_ok, word_again}
use Rattle.trace_format.proofs.LineForms.{Trouble, line_err}
use Rattle.trace_format.specs.declared.words.Word.{Word}
use Rattle.trace_format.specs.declared.refused.WhyRefused.{WhyRefused}
use Rattle.trace_format.specs.declared.refused.WhyRefused.TheVariants as why

abbrev ErrIs : WhyRefused → WhyRefused → Type 0
ErrIs x y = let r : Result Known WhyRefused = Err x in r ≡ Err y

first_same : (f : List ℕ) (rest : List (List ℕ)) (g : List ℕ) (more : List (List ℕ)) → f ∷ rest ≡ g ∷ more → f ≡ g
first_same f rest g more e = cc

abbrev SomeWord : Word → Word → Type 0
SomeWord x y = let z : Option Word = Some x in z ≡ Some y

some_word : (x y : Word) → SomeWord x y → x ≡ y
some_word x y e = cc

true_false : (b : Bool) → b ≡ true → b ≡ false → ⊥
true_false true t f = absurd (cc)
true_false false t f = absurd (cc)

-- a known word that may stand, and what is wrong behind it
pub record Behind (known : Known) (parts : List (List ℕ)) (y : WhyRefused) : Type 0 where
  pub begun : HasWord (form_in known) known.stage parts
  pub trouble : Trouble known begun.w begun.more y

abbrev pub PartsTrouble : Known → List (List ℕ) → WhyRefused → Type 0
PartsTrouble known parts y = ((y ≡ why.Word) × HasNoWord (form_in known) known.stage parts) ⊎ Behind known parts y

word_is : (y : WhyRefused) → ErrIs why.Word y → y ≡ why.Word
word_is y e = let q : why.Word ≡ y = cc in sym q

-- the word of fields that begin with one
begun_word : (known : Known) (f : List ℕ) (rest : List (List ℕ)) (st : HasWord (form_in known) known.stage (f ∷ rest)) → word_of f ≡ Some st.w
begun_word known f rest st = let q : f ≡ word_text st.w = first_same f rest (word_text st.w) st.more st.are in rw q (word_again st.w)

none_begun : (known : Known) (f : List ℕ) (rest : List (List ℕ)) → word_of f ≡ None → HasWord (form_in known) known.stage (f ∷ rest) → ⊥
none_begun known f rest is st = let q = sym is ∙ begun_word known f rest st in absurd (cc)

no_more : (known : Known) (f : List ℕ) (w : Word) (rest : List (List ℕ)) → word_of f ≡ Some w → may_come (form_in known) known.stage w ≡ false → HasWord (form_in known) known.stage (f ∷ rest) → ⊥
no_more known f w rest is m st =
    let q : SomeWord w st.w = sym is ∙ begun_word known f rest st in
    let r : w ≡ st.w = some_word w st.w q in
    let t : may_come (form_in known) known.stage w ≡ true = rw r st.comes in
    absurd (true_false (may_come (form_in known) known.stage w) t m)

no_part : (known : Known) → HasWord (form_in known) known.stage [] → ⊥
no_part known st = let q = st.are in absurd (cc)

begun_by : (known : Known) (f : List ℕ) (w : Word) (rest : List (List ℕ)) (y : WhyRefused) (b : Bool) → word_of f ≡ Some w → may_come (form_in known) known.stage w ≡ b → cond b (line_by known w rest) (Err why.Word) ≡ Err y → PartsTrouble known (f ∷ rest) y
begun_by known f w rest y true is m e = inr (record { begun = record { w = w; more = rest; are = ap (λ z. z ∷ rest) (word_ok f w is); comes = m }; trouble = line_err known w rest y e })
begun_by known f w rest y false is m e = inl (word_is y e, λ st. no_more known f w rest is m st)

by_word_err : (known : Known) (f : List ℕ) (found : Option Word) (rest : List (List ℕ)) (y : WhyRefused) → word_of f ≡ found → by_word known found rest ≡ Err y → PartsTrouble known (f ∷ rest) y
by_word_err known f None rest y is e = inl (word_is y e, λ st. none_begun known f rest is st)
by_word_err known f (Some w) rest y is e = begun_by known f w rest y _ is refl e

pub fields_err : (known : Known) (parts : List (List ℕ)) (y : WhyRefused) → by_fields known parts ≡ Err y → PartsTrouble known parts y
fields_err known [] y e = inl (word_is y e, λ st. no_part known st)
fields_err known (f ∷ rest) y e = by_word_err known f _ rest y refl e

-- rules on what a line says
judged_err : (o : Option WhyRefused) (y : WhyRefused) → judged_by o ≡ Err y → o ≡ Some y
judged_err None y e = absurd (cc)
judged_err (Some v) y e = let q : v ≡ y = cc in rw q refl

accept_err_by : (known : Known) (s : Said) (j : Result (Unit {0}) WhyRefused) (y : WhyRefused) → (j >>= (λ fits. Ok (grown known s))) ≡ Err y → j ≡ Err y
accept_err_by known s (Ok u) y e = absurd (cc)
accept_err_by known s (Err v) y e = let q : v ≡ y = cc in rw q refl

pub accept_err : (known : Known) (s : Said) (y : WhyRefused) → accept known s ≡ Err y → first_broken known s ≡ Some y
unfolding accept judged
accept_err known s y e = judged_err (first_broken known s) y (accept_err_by known s (judged_by (first_broken known s)) y e)
