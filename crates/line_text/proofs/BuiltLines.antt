-- A line that was built in room behind a text.
use Rattle.std.proofs.Common.{ℕ, ◌≡◌, ◌+◌, ◌≤◌, List, ◌++◌, length, take, ap, ◌∙◌, append_assoc, take-take, length-append, arith}
use Rattle.std.proofs.Math.Seq.{take-append_seam, take-append-add}
use Rattle.std.proofs.lemmas.List.{take-append-le}

-- what stands in front, and as much of the room as the line took
pub cut_room : (start n most : ℕ) (text zeros room post rest line : List ℕ) → start ≡ length text → start + n ≤ most → n ≤ length room → take n room ≡ line → take (start + n) (take most (take start (text ++ zeros) ++ (room ++ post) ++ rest)) ≡ text ++ line
cut_room start n most text zeros room post rest line front within short is =
    let inner : take n ((room ++ post) ++ rest) ≡ line =
    take-append-le n (room ++ post) rest (omega (arith, length-append room post, short)) ∙ take-append-le n room post short ∙ is in
    take-take (start + n) most (take start (text ++ zeros) ++ (room ++ post) ++ rest) within
    ∙ rw front
    (ap (λ before. take (length text + n) (before ++ (room ++ post) ++ rest)) (take-append_seam text zeros)
    ∙ ap (take (length text + n)) (append_assoc text (room ++ post) rest)
    ∙ take-append-add text ((room ++ post) ++ rest) n
    ∙ ap (λ back. text ++ back) inner)
