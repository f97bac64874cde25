-- Texts of lines, one after another.
use Rattle.std.proofs.Common.{◌≡◌, ◌∙◌, ℕ, List, [], ◌∷◌, ◌++◌, sym, ap, append_assoc, append-nil}
use Rattle.std.proofs.lemmas.Grind.{flat_map-append}
use Rattle.trace_format.specs.Said.{Said}
use Rattle.made_trace.specs.Lines.{lines_text, said_line}

pub text_append : (a b : List Said) → lines_text (a ++ b) ≡ lines_text a ++ lines_text b
text_append a b = flat_map-append said_line a b

-- one line more
pub text_last : (out : List ℕ) (a : List Said) (s : Said) → (out ++ lines_text a) ++ said_line s ≡ out ++ lines_text (a ++ s ∷ [])
text_last out a s =
    append_assoc out (lines_text a) (said_line s)
    ∙ ap (λ (t : List ℕ). out ++ t) (ap (λ (t : List ℕ). lines_text a ++ t) (sym (append-nil (said_line s))) ∙ sym (text_append a (s ∷ [])))

-- some lines more
pub text_more : (out : List ℕ) (a b : List Said) → (out ++ lines_text a) ++ lines_text b ≡ out ++ lines_text (a ++ b)
text_more out a b = append_assoc out (lines_text a) (lines_text b) ∙ ap (λ (t : List ℕ). out ++ t) (sym (text_append a b))
