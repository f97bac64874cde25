-- Answers and the numbers of their lines.
use Rattle.std.proofs.Common.{ℕ, zero, suc, ◌≡◌, ◌<◌, ◌+◌, ◌∷◌, [], ◌++◌, ◌∙◌, List, length, map, take, get_or, sym, ap, refl, arith, length-append, length-take-le}
use Rattle.std.specs.List.{flat_map}
use Rattle.std.proofs.lemmas.List.{take_more, map-append, flat_map_more}
use Rattle.report_text.specs.declared.Item.{Item}
use Rattle.trace_format.specs.declared.Line.{Line}
use Rattle.trace_history.specs.History.{History}
use Rattle.trace_replay.specs.declared.state.Answer.{Answer}
use Rattle.trace_replay.specs.Segments.{Splits, Pending, answer_of, item_by, numbered, number_at, pending_items, pending_of}

abbrev pub pending : (line : ℕ) → Answer → Pending
pending line answer = record { line = line; answer = answer }

-- one answer more
pub numbered_push : (lines : List Line) (place n : ℕ) (answers : List Answer) (answer : Answer) → length answers ≡ n
    → numbered lines place (answers ++ answer ∷ []) ≡ numbered lines place answers ++ pending (number_at lines (place + n)) answer ∷ []
numbered_push lines place n [] answer e =
    let same : place ≡ place + n = omega (arith, e) in ap (λ k. pending (number_at lines k) answer ∷ []) same
numbered_push lines place zero (x ∷ xs) answer e = absurd (omega (arith, e))
numbered_push lines place (suc n) (x ∷ xs) answer e =
    let same : (place + 1) + n ≡ place + suc n = omega arith in
    ap (λ (ps : List Pending). pending (number_at lines place) x ∷ ps)
    (numbered_push lines (place + 1) n xs answer (omega (arith, e)) ∙ ap (λ k. numbered lines (place + 1) xs ++ pending (number_at lines k) answer ∷ []) same)

pub numbered_length : (lines : List Line) (place : ℕ) (answers : List Answer) → length (numbered lines place answers) ≡ length answers
numbered_length lines place [] = refl
numbered_length lines place (x ∷ xs) = let e = numbered_length lines (place + 1) xs in omega (arith, e)

-- the answers alone
pub answers_back : (lines : List Line) (place : ℕ) (answers : List Answer) → map (λ (x : Pending). x.answer) (numbered lines place answers) ≡ answers
answers_back lines place [] = refl
answers_back lines place (x ∷ xs) = ap (λ (ys : List Answer). x ∷ ys) (answers_back lines (place + 1) xs)

pub pending_length : (seg : History) → length (pending_of seg) ≡ length seg
pending_length [] = refl
pending_length (moment ∷ seg) =
    let e = length-append (pending_of seg) (pending moment.line (answer_of moment.event) ∷ []) in let l = pending_length seg in omega (arith, e, l)

pub numbered_more : (lines : List Line) (place i : ℕ) (answers : List Answer) (d : Answer) → i < length answers
    → numbered lines place (take (i + 1) answers) ≡ numbered lines place (take i answers) ++ pending (number_at lines (place + i)) (get_or answers i d) ∷ []
numbered_more lines place i answers d l =
    ap (numbered lines place) (take_more answers i d l) ∙ numbered_push lines place i (take i answers) (get_or answers i d) (length-take-le i answers (omega (arith, l)))

-- the lines of one answer more
pub lines_more : (text : Item → List ℕ) (f : Splits) (lines : List Line) (place i : ℕ) (answers : List Answer) (d : Answer) (old before after : List ℕ) → i < length answers
    → before ≡ old ++ flat_map text (pending_items f (numbered lines place (take i answers)))
    → after ≡ before ++ text (item_by f (number_at lines (place + i)) (get_or answers i d))
    → after ≡ old ++ flat_map text (pending_items f (numbered lines place (take (i + 1) answers)))
lines_more text f lines place i answers d old before after l e1 e2 =
    let had = numbered lines place (take i answers) in
    let item = item_by f (number_at lines (place + i)) (get_or answers i d) in
    e2 ∙ ap (λ xs. xs ++ text item) e1 ∙ flat_map_more text old (pending_items f had) item
    ∙ ap (λ (xs : List Item). old ++ flat_map text xs) (sym (map-append (λ (x : Pending). item_by f x.line x.answer) had (pending (number_at lines (place + i)) (get_or answers i d) ∷ [])))
    ∙ ap (λ (xs : List Pending). old ++ flat_map text (pending_items f xs)) (sym (numbered_more lines place i answers d l))
