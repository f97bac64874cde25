-- Passes of a column that are all alike.
use Rattle.std.proofs.Common.{◌≡◌, List, [], ◌∷◌, ◌++◌, All, length, length-append, get_or, sym, ap, ◌∙◌, arith}
use Rattle.std.proofs.Math.Seq.{get_or-append_seam}
use Rattle.std.proofs.lemmas.List.{get_or_append_left}
use Rattle.page_gate.specs.Held.{PassHeld}

-- the last of a list whose items are alike, and the rest
pub last_alike : (p one : PassHeld) (xs ys : List PassHeld) → ys ≡ xs ++ one ∷ [] → All (λ q. q ≡ p) ys → one ≡ p
last_alike p one xs ys e all = sym (get_or-append_seam xs one [] p) ∙ ap (λ zs. get_or zs (length xs) p) (sym e) ∙ all (length xs) p (let a = ap length e in let b = length-append xs (one ∷ []) in omega arith)

pub rest_alike : (p one : PassHeld) (xs ys : List PassHeld) → ys ≡ xs ++ one ∷ [] → All (λ q. q ≡ p) ys → All (λ q. q ≡ p) xs
rest_alike p one xs ys e all k d lt = sym (get_or_append_left xs (one ∷ []) d k lt) ∙ ap (λ zs. get_or zs k d) (sym e) ∙ all k d (let a = ap length e in let b = length-append xs (one ∷ []) in omega arith)
