-- The rows with a key stand together where rows are in order of their keys.
use Rattle.std.proofs.Common.{ℕ, suc, ◌≡◌, ◌≤◌, ◌<◌, ◌+◌, ◌-◌, ◌∙◌, ◌∷◌, [], ◌++◌, List, length, filter, get_or, take, drop, cond, Bool, true, false, min, sym, ap, refl, arith, append-nil}
use Rattle.std.proofs.lemmas.Bool.{eq-eqb, ne_eqb}
use Rattle.std.proofs.lemmas.List.{get_or-drop, get_or-take, length-drop, length-take, take-append-drop}
use Rattle.std.proofs.lemmas.List.Elements.{filter-append}
use Rattle.packet_signature.specs.declared.Row.{Row}
use Rattle.used_pages.specs.UsedPages.{has_key}

keeps_none : (p : Row → Bool) (xs : List Row) → ((k : ℕ) (d : Row) → k < length xs → p (get_or xs k d) ≡ false) → filter p xs ≡ []
keeps_none p [] none = refl
keeps_none p (x ∷ xs) none = ap (λ b. cond b (x ∷ filter p xs) (filter p xs)) (none 0 x (omega arith)) ∙ keeps_none p xs (λ k d lt. none (suc k) d (omega (arith, lt)))

keeps_all : (p : Row → Bool) (xs : List Row) → ((k : ℕ) (d : Row) → k < length xs → p (get_or xs k d) ≡ true) → filter p xs ≡ xs
keeps_all p [] each = refl
keeps_all p (x ∷ xs) each = ap (λ b. cond b (x ∷ filter p xs) (filter p xs)) (each 0 x (omega arith)) ∙ ap (λ ys. x ∷ ys) (keeps_all p xs (λ k d lt. each (suc k) d (omega (arith, lt))))

-- of rows of which the first i have smaller keys, and the next n this key and no others
pub keyed_part : (key : ℕ) (xs : List Row) (i n : ℕ) → i ≤ length xs → n ≤ length (drop i xs)
    → ((k : ℕ) (d : Row) → k < i → (get_or xs k d).key < key) → ((k : ℕ) (d : Row) → i ≤ k → k < length xs → key ≤ (get_or xs k d).key)
    → ((k : ℕ) (d : Row) → k < n → (get_or (drop i xs) k d).key ≤ key) → ((k : ℕ) (d : Row) → n ≤ k → k < length (drop i xs) → key < (get_or (drop i xs) k d).key)
    → take n (drop i xs) ≡ filter (has_key key) xs
keyed_part key xs i n few less below above equal past =
    let p : Row → Bool = has_key key in
    let rest : List Row = drop i xs in
    let size : length rest ≡ length xs - i = length-drop i xs in
    let front : filter p (take i xs) ≡ [] = keeps_none p (take i xs) (λ k d lt.
    let len : length (take i xs) ≡ min i (length xs) = length-take i xs in
    let short : k < i = omega (arith, lt, len) in
    ap (λ (r : Row). p r) (get_or-take i xs k d short) ∙ ne_eqb (get_or xs k d).key key (λ e. let b = below k d short in omega (arith, b, e))) in
    let mid : filter p (take n rest) ≡ take n rest = keeps_all p (take n rest) (λ k d lt.
    let len : length (take n rest) ≡ min n (length rest) = length-take n rest in
    let short : k < n = omega (arith, lt, len) in
    ap (λ (r : Row). p r) (get_or-take n rest k d short)
    ∙ eq-eqb (get_or rest k d).key key
    (let a = equal k d short in let b = above (i + k) d (omega arith) (omega (arith, short, less, size, few)) in let e : (get_or rest k d).key ≡ (get_or xs (i + k) d).key = ap (λ (r : Row). r.key) (get_or-drop i xs k d) in omega (arith, a, b, e))) in
    let tail : filter p (drop n rest) ≡ [] = keeps_none p (drop n rest) (λ k d lt.
    let len : length (drop n rest) ≡ length rest - n = length-drop n rest in
    ap (λ (r : Row). p r) (get_or-drop n rest k d)
    ∙ ne_eqb (get_or rest (n + k) d).key key (λ e. let a = past (n + k) d (omega arith) (omega (arith, lt, len)) in omega (arith, a, e))) in
    sym (ap (filter p) (sym (take-append-drop i xs)) ∙ filter-append p (take i xs) rest ∙ ap (λ ys. ys ++ filter p rest) front
    ∙ ap (filter p) (sym (take-append-drop n rest)) ∙ filter-append p (take n rest) (drop n rest) ∙ ap (λ ys. ys ++ filter p (drop n rest)) mid ∙ ap (λ ys. take n rest ++ ys) tail ∙ append-nil (take n rest))
