-- The lines of a trace from one place on and before another.
use Rattle.std.proofs.Common.{ℕ, ◌≡◌, ◌≤◌, ◌<◌, ◌+◌, ◌-◌, ◌∷◌, [], ◌++◌, ◌∙◌, false, List, length, get_or, take, drop, sym, ap, refl, subst, arith, length-append, append_assoc}
use Rattle.std.specs.List.{Contains}
use Rattle.std.proofs.lemmas.List.{drop-take, drop-append-le, take-take, take-append-drop, length-take-le}
use Rattle.std.proofs.lemmas.List.Elements.{filter-append, Contains-append_left, Contains-append_right}
use Rattle.spie_base.proofs.Membership.{has_first, has_later}
use Rattle.spie_base.specs.declared.Sig.{Sig}
use Rattle.trace_format.specs.declared.Line.{Line}
use Rattle.trace_format.specs.Sound.{AreTimed, AreArchivedOnce, is_recording, records}
use Rattle.trace_history.specs.History.{History, IsHistoryOf}
use Rattle.trace_workers.proofs.Segments.{at_between, length_between}
use Rattle.trace_replay.specs.Segments.{archived_in, is_barrier_line, record_count}
use Rattle.trace_replay.proofs.Doing.{archived_same, count_same, clock_within, records_more}

-- ---- plain lists

less_by : (n m : ℕ) → n ≤ m → n + (m - n) ≡ m
less_by n m l = omega arith

between_is : {X : Type 0} (from to : ℕ) (xs : List X) → from ≤ to → to ≤ length xs → take (to - from) (drop from xs) ≡ drop from (take to xs)
between_is from to xs l m = sym (drop-take from (to - from) xs) ∙ ap (λ (k : ℕ). drop from (take k xs)) (less_by from to l)

-- what stands before them, and they
pub before_between : {X : Type 0} (from to : ℕ) (xs : List X) → from ≤ to → to ≤ length xs → take from xs ++ take (to - from) (drop from xs) ≡ take to xs
before_between from to xs l m =
    ap (λ (ys : List _). ys ++ take (to - from) (drop from xs)) (sym (take-take from to xs l))
    ∙ ap (λ (ys : List _). take from (take to xs) ++ ys) (between_is from to xs l m) ∙ take-append-drop from (take to xs)

-- they, and what stands behind them
pub between_behind : {X : Type 0} (from to : ℕ) (xs : List X) → from ≤ to → to ≤ length xs → drop from xs ≡ take (to - from) (drop from xs) ++ drop to xs
between_behind from to xs l m =
    let n = length-take-le to xs m in
    ap (λ (ys : List _). drop from ys) (sym (take-append-drop to xs)) ∙ drop-append-le from (take to xs) (drop to xs) (omega (arith, n, l))
    ∙ ap (λ (ys : List _). ys ++ drop to xs) (sym (between_is from to xs l m))

-- what holds of each of them by its place
pub each_between : {X : Type 0} (P : X → Type 0) (from to : ℕ) (xs : List X) → from ≤ to → to ≤ length xs → ((i : ℕ) (d : X) → from ≤ i → i < to → P (get_or xs i d))
    → (x : X) → Contains (take (to - from) (drop from xs)) x → P x
each_between P from to xs l m each x h =
    let k = h.0 in
    let n = length_between from to xs l m in
    let in_it : k < length (take (to - from) (drop from xs)) = h.1 in
    let at = at_between from to k xs x in_it in
    subst P (sym at ∙ h.2) (each (from + k) x (omega arith) (omega (arith, in_it, n, l)))

last_has : {X : Type 0} (xs : List X) (y : X) → Contains (xs ++ y ∷ []) y
last_has xs y = Contains-append_right xs (y ∷ []) y (has_first y [])

-- ---- a segment's lines

none_push : {X : Type 0} {Y : Type 0} (xs : List X) (x : X) → [] ≡ xs ++ x ∷ [] → Y
none_push xs x e = let n = length-append xs (x ∷ []) in let m = ap length e in absurd (omega (arith, n, m))

-- no lines have no moments
pub none_of_none : (sigs : List Sig) (seg : History) → IsHistoryOf sigs [] seg → seg ≡ []
none_of_none sigs [] h = refl
none_of_none sigs (moment ∷ seg) h = none_push h.0 h.1 h.2

pub length_history : (sigs : List Sig) (lines : List Line) (seg : History) → IsHistoryOf sigs lines seg → length seg ≡ length lines
length_history sigs lines [] h = sym (ap length h)
length_history sigs lines (moment ∷ seg) (before, last, is, number, answers, more) =
    let ih = length_history sigs before seg more in
    let n = ap length is ∙ length-append before (last ∷ []) in omega (arith, ih, n)

-- so many of them are records
pub records_append : (xs ys : List Line) → length (records (xs ++ ys)) ≡ length (records xs) + length (records ys)
records_append xs ys = ap length (filter-append (λ (line : Line). is_recording line.what) xs ys) ∙ length-append (records xs) (records ys)

pub records_history : (sigs : List Sig) (lines : List Line) (seg : History) → IsHistoryOf sigs lines seg → record_count seg ≡ length (records lines)
records_history sigs lines [] h = ap (λ (ls : List Line). length (records ls)) (sym h)
records_history sigs lines (moment ∷ seg) (before, last, is, number, answers, more) =
    let ih = records_history sigs before seg more in
    let n = ap (λ (ls : List Line). length (records ls)) is ∙ records_append before (last ∷ []) ∙ ap (λ (k : ℕ). length (records before) + k) (records_more last []) in
    let c = count_same sigs last.what moment.event answers in omega (arith, ih, n, c)

-- lines within a segment leave the clock
pub timed_behind : (clock : ℕ) (xs ys : List Line) → ((x : Line) → Contains xs x → is_barrier_line x.what ≡ false) → AreTimed clock (xs ++ ys) → AreTimed clock ys
timed_behind clock [] ys inner timed = timed
timed_behind clock (x ∷ xs) ys inner timed =
    let P : ℕ → Type 0 = λ c. AreTimed c (xs ++ ys) in
    timed_behind clock xs ys (λ y h. inner y (has_later x xs y h)) (subst P (clock_within x.what clock (inner x (has_first x xs))) timed.1)

-- and a router's archival is its first in the segment
pub once_before : (earlier : List ℕ) (xs ys : List Line) → AreArchivedOnce earlier (xs ++ ys) → AreArchivedOnce earlier xs
once_before earlier [] ys once = tt
once_before earlier (x ∷ xs) ys once = (once.0, once_before _ xs ys once.1)

pub once_behind : (sigs : List Sig) (xs ys : List Line) (seg : History) → IsHistoryOf sigs xs seg → ((x : Line) → Contains xs x → is_barrier_line x.what ≡ false)
    → AreArchivedOnce [] (xs ++ ys) → AreArchivedOnce (archived_in seg) ys
once_behind sigs xs ys [] h inner once = let P : List Line → Type 0 = λ ls. AreArchivedOnce [] (ls ++ ys) in subst P h once
once_behind sigs xs ys (moment ∷ seg) (before, last, is, number, answers, more) inner once =
    let P : List Line → Type 0 = λ ls. AreArchivedOnce [] ls in
    let I : List Line → Type 0 = λ ls. (x : Line) → Contains ls x → is_barrier_line x.what ≡ false in
    let all = subst I is inner in
    let start = subst P (ap (λ (ls : List Line). ls ++ ys) is ∙ append_assoc before (last ∷ []) ys) once in
    let at = once_behind sigs before (last ∷ ys) seg more (λ x h. all x (Contains-append_left before (last ∷ []) x h)) start in
    let O : List ℕ → Type 0 = λ rs. AreArchivedOnce rs ys in
    subst O (sym (archived_same sigs last.what moment.event (archived_in seg) (all last (last_has before last)) answers)) at.1
