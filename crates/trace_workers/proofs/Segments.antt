-- The record lines of a segment, by their places.
use Rattle.std.proofs.Common.{◌≡◌, ℕ, suc, ◌+◌, ◌-◌, ◌<◌, ◌≤◌, Bool, cond, true, false, List, [], ◌∷◌, ◌++◌, length, take, drop, get_or, sym, refl, ap, ap₂, ◌∙◌, append_assoc, arith}
use Rattle.std.proofs.lemmas.List.{length-take, length-take-le, length-drop, get_or-drop, get_or-take, take_more}
use Rattle.trace_format.specs.Sound.{is_recording, records}
use Rattle.trace_format.specs.declared.Line.{Line}
use Rattle.trace_workers.specs.Records.{no_line, line_at, lines_at, lines_between, record_places, segment_places}
use Rattle.trace_workers.specs.Laws.{PlacesAreOfRecords}

-- ---- items between two places

pub length_between : {X : Type 0} (from to : ℕ) (xs : List X) → from ≤ to → to ≤ length xs → length (take (to - from) (drop from xs)) ≡ to - from
length_between from to xs l m = length-take-le (to - from) (drop from xs) (let n = length-drop from xs in omega (arith, n, l, m))

pub at_between : {X : Type 0} (from to i : ℕ) (xs : List X) (d : X) → i < length (take (to - from) (drop from xs)) → get_or (take (to - from) (drop from xs)) i d ≡ get_or xs (from + i) d
at_between from to i xs d small = get_or-take (to - from) (drop from xs) i d (let n = length-take (to - from) (drop from xs) in omega (arith, n, small)) ∙ get_or-drop from xs i d

-- ---- a line more

pub places-append : (from : ℕ) (xs ys : List Line) → record_places from (xs ++ ys) ≡ record_places from xs ++ record_places (from + length xs) ys
places-append from [] ys = let e : from ≡ from + 0 = omega arith in ap (λ n. record_places n ys) e
places-append from (x ∷ xs) ys =
    let e : (from + 1) + length xs ≡ from + length (x ∷ xs) = omega arith in
    ap (λ zs. cond (is_recording x.what) (from ∷ []) [] ++ zs) (places-append (from + 1) xs ys ∙ ap (λ n. record_places (from + 1) xs ++ record_places n ys) e)
    ∙ sym (append_assoc (cond (is_recording x.what) (from ∷ []) []) (record_places (from + 1) xs) (record_places (from + length (x ∷ xs)) ys))

pub between_more : (lines : List Line) (from to : ℕ) → from ≤ to → to < length lines → lines_between lines from (to + 1) ≡ lines_between lines from to ++ line_at lines to ∷ []
between_more lines from to le small =
    let l = length-drop from lines in
    let next : (to + 1) - from ≡ (to - from) + 1 = omega arith in
    let at : from + (to - from) ≡ to = omega arith in
    ap (λ n. take n (drop from lines)) next ∙ take_more (drop from lines) (to - from) no_line (omega arith)
    ∙ ap (λ (x : Line). lines_between lines from to ++ x ∷ []) (get_or-drop from lines (to - from) no_line ∙ ap (line_at lines) at)

place_there : (b : Bool) (p : ℕ) → cond b (p ∷ []) [] ++ [] ≡ cond b (p ∷ []) []
place_there true p = refl
place_there false p = refl

pub segment_more : (lines : List Line) (from to : ℕ) → from ≤ to → to < length lines → segment_places lines from (to + 1) ≡ segment_places lines from to ++ cond (is_recording (line_at lines to).what) (to ∷ []) []
segment_more lines from to le small =
    ap (record_places from) (between_more lines from to le small) ∙ places-append from (lines_between lines from to) (line_at lines to ∷ [])
    ∙ ap (λ n. segment_places lines from to ++ record_places n (line_at lines to ∷ [])) (let n = length_between from to lines le (omega arith) in let e : from + length (lines_between lines from to) ≡ to = omega (arith, n) in e)
    ∙ ap (λ zs. segment_places lines from to ++ zs) (place_there (is_recording (line_at lines to).what) to)

-- ---- the lines there

found_one : (b : Bool) (lines xs : List Line) (from : ℕ) (x : Line) → line_at lines from ≡ x → lines_at lines (record_places (from + 1) xs) ≡ records xs
    → lines_at lines (cond b (from ∷ []) [] ++ record_places (from + 1) xs) ≡ cond b (x ∷ records xs) (records xs)
found_one true lines xs from x e r = ap₂ (λ (y : Line) (ys : List Line). y ∷ ys) e r
found_one false lines xs from x e r = r

found : (lines xs : List Line) (from : ℕ) → ((i : ℕ) → i < length xs → get_or xs i no_line ≡ line_at lines (from + i)) → lines_at lines (record_places from xs) ≡ records xs
found lines [] from h = refl
found lines (x ∷ xs) from h = found_one (is_recording x.what) lines xs from x
    (let e : from ≡ from + 0 = omega arith in ap (line_at lines) e ∙ sym (h 0 (omega arith)))
    (found lines xs (from + 1) (λ i small. let e : from + suc i ≡ (from + 1) + i = omega arith in h (suc i) (omega arith) ∙ ap (line_at lines) e))

pub places_are_of_records : PlacesAreOfRecords
places_are_of_records lines from to le = found lines (lines_between lines from to) from (λ i small. at_between from to i lines no_line small)
