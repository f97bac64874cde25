-- A reader that gives what reading gives answers exactly the texts and the faults of its language.
use Rattle.std.proofs.Common.{ℕ, ◌≡◌, List, Result, Ok, Err, IfOk, IfSome}
use Rattle.std.specs.declared.option.Option.{Option}
use Rattle.std.specs.declared.option.Option.TheVariants.{None, Some}
use Rattle.line_text.proofs.Readings.{TextMeets, text_meets, text_is_read, fault_is_read}
use Rattle.line_text.specs.Answers.{Fails, Gives, IsReadAs, RefusedWith}
use Rattle.line_text.specs.Language.{Grammar, Refusals, IsText, IsFault}
use Rattle.line_text.specs.Reading.{Reader, read_text, ReadsLines}

module _ {S K W V F E : Type 0} (g : Grammar S V) (f : Refusals S W F) (r : Reader S K W V) (Fit : List S → Type 0) (law : ReadsLines g f r Fit) (fault_in : E → Option F) (text : List ℕ) where
  met : (read : Result V F) → read_text f r g.most_bytes text ≡ read → TextMeets g f text read
  met read e = rw (← e) (text_meets g f r Fit law text)

  pub is_text : (answer : Result V E) → Gives fault_in (λ value. value) answer (read_text f r g.most_bytes text) → IfOk answer (λ value. IsText g text value)
  is_text (Ok value) h = met (Ok value) h
  is_text (Err e) h = tt

  faulty : (end : Option F) → Fails end (read_text f r g.most_bytes text) → IfSome end (λ fault. IsFault g f text fault)
  faulty None h = tt
  faulty (Some fault) h = met (Err fault) h

  pub is_fault : (answer : Result V E) → Gives fault_in (λ value. value) answer (read_text f r g.most_bytes text) → RefusedWith fault_in answer (λ fault. IsFault g f text fault)
  is_fault (Ok value) h = tt
  is_fault (Err e) h = faulty (fault_in e) h

  pub each_text : (answer : Result V E) → Gives fault_in (λ value. value) answer (read_text f r g.most_bytes text) → (value : V) → IsText g text value → IsReadAs fault_in answer (Ok value)
  each_text answer h value t = rw (← text_is_read g f r Fit law text value t) h

  pub each_fault : (answer : Result V E) → Gives fault_in (λ value. value) answer (read_text f r g.most_bytes text) → (fault : F) → IsFault g f text fault → IsReadAs fault_in answer (Err fault)
  each_fault answer h fault t = rw (← fault_is_read g f r Fit law text fault t) h
