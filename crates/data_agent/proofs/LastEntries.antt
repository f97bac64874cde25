-- The last entry of a pass tells below which page all of its entries are.
use Rattle.std.proofs.Common.{ℕ, ◌≡◌, ◌≤◌, ◌<◌, ◌∷◌, [], ◌∙◌, List, Some, None, length, get_or, ap, refl, arith}
use mathlib.Core.Option.{some}
use Rattle.spie_base.proofs.Membership.{has_none}
use Rattle.spie_base.specs.declared.Entry.{Entry}
use Rattle.gate_core.specs.Invariant.{IsRising}
use Rattle.gate_core.proofs.Runs.{at_place}
use Rattle.page_gate.specs.Lasts.{last_from, last_of}
use Rattle.data_agent.specs.Beside.{AreBelow}

last_place : (d x : Entry) (xs : List Entry) → get_or (x ∷ xs) (length xs) d ≡ last_from x xs
last_place d x [] = refl
last_place d x (y ∷ ys) = last_place d y ys

pub below_last : (floor page : ℕ) (es : List Entry) (last : Entry) → IsRising floor es → last_of es ≡ Some last → last.page.number < page → AreBelow page es
below_last floor page [] last rise is lt = λ entry has. absurd (has_none entry has)
below_last floor page (x ∷ xs) last rise is lt = λ entry (i, near, at).
    let behind : i ≤ length xs = omega arith in
    let same : last_from x xs ≡ last = cc in
    let end : get_or (x ∷ xs) (length xs) entry ≡ last = last_place entry x xs ∙ same in
    let le : entry.page.number ≤ last.page.number = rise.ordered i (length xs) entry last behind
    (at_place (x ∷ xs) i entry near ∙ ap (λ (e : Entry). some e) at) (at_place (x ∷ xs) (length xs) entry (omega arith) ∙ ap (λ (e : Entry). some e) end) in
    omega arith

pub below_none : (page : ℕ) (es : List Entry) → last_of es ≡ None → AreBelow page es
below_none page [] is = λ entry has. absurd (has_none entry has)
below_none page (x ∷ xs) is = λ entry has. cc
