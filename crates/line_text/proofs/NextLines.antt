-- One line after another.
use Rattle.std.proofs.Common.{ℕ, ◌≡◌, List, [], ◌∷◌, refl, rules, Err, true, false, cond}
use Rattle.line_text.proofs.Parts.{Parts, some_part}
use Rattle.line_text.specs.Language.{Refusals}
use Rattle.line_text.specs.Reading.{Reader, refused, then_read, read_lines}
use Rattle.line_text.specs.Text.{lines, HasCut}

module _ {S K W V F : Type 0} (f : Refusals S W F) (r : Reader S K W V) where
  next_line : (known : K) (line : List ℕ) (rest : List (List ℕ)) → Parts rest → read_lines f r known (line ∷ rest) ≡ cond (r.is_over known) (Err (refused f r known f.after)) (then_read f r known (r.read_line known line) (λ new. read_lines f r new rest))
  unfolding read_lines
  next_line known line [] p = absurd (search (p.are, rules))
  next_line known line (next ∷ more) p = refl

  pub read_over : (known : K) (text line after : List ℕ) → HasCut 10 text line after → r.is_over known ≡ true → read_lines f r known (lines text) ≡ Err (refused f r known f.after)
  read_over known text line after h over = rw (h.cut, next_line known line (lines after) (some_part after), over) refl

  pub read_bad : (known : K) (text line after : List ℕ) (rule : W) → HasCut 10 text line after → r.is_over known ≡ false → r.read_line known line ≡ Err rule → read_lines f r known (lines text) ≡ Err (refused f r known rule)
  read_bad known text line after rule h over bad = rw (h.cut, next_line known line (lines after) (some_part after), over, bad) refl
