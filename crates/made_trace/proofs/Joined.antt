-- Fields that are joined to a line, and lines that are joined to a text, are cut again.
use Rattle.std.proofs.Common.{ℕ, ◌≡◌, ◌∙◌, List, [], ◌∷◌, refl, ap, append_assoc, append-nil, Bool, true, false, not, ◌&&◌, ◌==◌}
use Rattle.std.proofs.lemmas.List.Elements.{All-append, All-cons, All-nil}
use Rattle.std.proofs.lemmas.List.Splits.{slice_split_at, slice_split_none}
use Rattle.std.specs.List.{flat_map}
use Rattle.spie_base.proofs.Booleans.{both_held}
use Rattle.line_text.proofs.Fields.{cut_line}
use Rattle.line_text.specs.Fields.{LeavesOut}
use Rattle.line_text.specs.Text.{fields, lines}
use Rattle.line_text.specs.Writing.{spaced}
use Rattle.trace_format.specs.Said.{Said}
use Rattle.made_trace.specs.Lines.{joined, line_of, lines_text}

-- none of these texts has this byte
abbrev pub AllLeave : (byte : ℕ) → List (List ℕ) → Type 0
AllLeave byte [] = Unit {0}
AllLeave byte (f ∷ more) = LeavesOut byte f × AllLeave byte more

pub fields_joined : (f : List ℕ) (more : List (List ℕ)) → AllLeave 32 (f ∷ more) → fields (joined (f ∷ more)) ≡ f ∷ more
fields_joined f [] h = ap fields (append-nil f) ∙ slice_split_none (λ b. b == 32) f h.0
fields_joined f (g ∷ more) h = slice_split_at (λ b. b == 32) f 32 (joined (g ∷ more)) h.0 refl ∙ ap (λ (z : List (List ℕ)). f ∷ z) (fields_joined g more h.1)

spaced_leave : (more : List (List ℕ)) → AllLeave 10 more → LeavesOut 10 (flat_map spaced more)
spaced_leave [] h = All-nil (λ x. (x == 10) ≡ false)
spaced_leave (f ∷ more) h =
    let P : ℕ → Type 0 = λ x. (x == 10) ≡ false in
    All-append P (32 ∷ f) (flat_map spaced more) (All-cons P 32 f refl h.0) (spaced_leave more h.1)

pub joined_leave : (f : List ℕ) (more : List (List ℕ)) → AllLeave 10 (f ∷ more) → LeavesOut 10 (joined (f ∷ more))
joined_leave f more h = All-append (λ x. (x == 10) ≡ false) f (flat_map spaced more) h.0 (spaced_leave more h.1)

pub line_cut : (s : Said) (more : List Said) → LeavesOut 10 (line_of s) → lines (lines_text (s ∷ more)) ≡ line_of s ∷ lines (lines_text more)
line_cut s more h = ap lines (append_assoc (line_of s) (10 ∷ []) (lines_text more)) ∙ cut_line (line_of s) (lines_text more) h

-- ---- texts that are written out

abbrev pub is_without : (byte : ℕ) → List ℕ → Bool
is_without byte [] = true
is_without byte (b ∷ more) = not (b == byte) && is_without byte more

not_held : (b : Bool) → not b ≡ true → b ≡ false
not_held true e = absurd (cc)
not_held false e = refl

pub plain_leaves : (byte : ℕ) (text : List ℕ) → is_without byte text ≡ true → LeavesOut byte text
plain_leaves byte [] e = All-nil (λ x. (x == byte) ≡ false)
plain_leaves byte (b ∷ more) e =
    let h = both_held (not (b == byte)) (is_without byte more) e in
    All-cons (λ x. (x == byte) ≡ false) b more (not_held (b == byte) h.0) (plain_leaves byte more h.1)
