-- Whose turn is whose.
use Rattle.std.proofs.Common.{◌≡◌, ℕ, zero, suc, ◌+◌, ◌-◌, ◌%◌, ◌/◌, ◌*◌, ◌<◌, ◌≤◌, ◌==◌, Bool, true, false, cond, List, [], ◌∷◌, ◌++◌, length, map, sym, refl, ap, ap₂, subst, ◌∙◌, append_assoc, add-one, arith}
use Rattle.std.proofs.Math.Nat.{mul-le-mul_right, mod-add-div', lt_of_not-le, add-mul, add_comm}
use Rattle.std.proofs.lemmas.Bool.{eq-eqb, eqb-true, true≢false}
use Rattle.std.proofs.lemmas.Nat.{mod-mul-add}
use Rattle.trace_workers.specs.Records.{turns_of}

pub turns-append : {A : Type 0} (W w from : ℕ) (xs ys : List A) → turns_of W w from (xs ++ ys) ≡ turns_of W w from xs ++ turns_of W w (from + length xs) ys
turns-append W w from [] ys = let e : from ≡ from + 0 = omega arith in ap (λ n. turns_of W w n ys) e
turns-append W w from (x ∷ xs) ys =
    let e : (from + 1) + length xs ≡ from + length (x ∷ xs) = omega arith in
    ap (λ zs. cond (from % W == w) (x ∷ []) [] ++ zs) (turns-append W w (from + 1) xs ys ∙ ap (λ n. turns_of W w (from + 1) xs ++ turns_of W w n ys) e)
    ∙ sym (append_assoc (cond (from % W == w) (x ∷ []) []) (turns_of W w (from + 1) xs) (turns_of W w (from + length (x ∷ xs)) ys))

map-cond : {A B : Type 0} (f : A → B) (b : Bool) (x : A) (xs : List A) → map f (cond b (x ∷ []) [] ++ xs) ≡ cond b (f x ∷ []) [] ++ map f xs
map-cond f true x xs = refl
map-cond f false x xs = refl

pub turns-map : {A B : Type 0} (f : A → B) (W w from : ℕ) (xs : List A) → map f (turns_of W w from xs) ≡ turns_of W w from (map f xs)
turns-map f W w from [] = refl
turns-map f W w from (x ∷ xs) = map-cond f (from % W == w) x (turns_of W w (from + 1) xs) ∙ ap (λ zs. cond (from % W == w) (f x ∷ []) [] ++ zs) (turns-map f W w (from + 1) xs)

-- how many numbers below a bound are this worker's
abbrev pub turn_count : (W worker bound : ℕ) → ℕ
turn_count W w zero = 0
turn_count W w (suc n) = turn_count W w n + cond (n % W == w) 1 0

pub count_more : (W w n : ℕ) → turn_count W w (n + 1) ≡ turn_count W w n + cond (n % W == w) 1 0
count_more W w n = ap (turn_count W w) (add-one n)

length-cond : {A : Type 0} (b : Bool) (x : A) (xs : List A) → length (cond b (x ∷ []) [] ++ xs) ≡ cond b 1 0 + length xs
length-cond true x xs = omega arith
length-cond false x xs = omega arith

pub length-turns_from : {A : Type 0} (W w from : ℕ) (xs : List A) → length (turns_of W w from xs) + turn_count W w from ≡ turn_count W w (from + length xs)
length-turns_from W w from [] = let e : from ≡ from + 0 = omega arith in let s = ap (turn_count W w) e in omega (arith, s)
length-turns_from W w from (x ∷ xs) =
    let c = length-cond (from % W == w) x (turns_of W w (from + 1) xs) in
    let m = count_more W w from in
    let h = length-turns_from W w (from + 1) xs in
    let e : (from + 1) + length xs ≡ from + length (x ∷ xs) = omega arith in
    let s : length (turns_of W w from (x ∷ xs)) + turn_count W w from ≡ turn_count W w ((from + 1) + length xs) = omega (arith, c, m, h) in
    s ∙ ap (turn_count W w) e

pub length-turns : {A : Type 0} (W w : ℕ) (xs : List A) → length (turns_of W w 0 xs) ≡ turn_count W w (length xs)
length-turns W w xs = let h = length-turns_from W w 0 xs in let e : 0 + length xs ≡ length xs = omega arith in let s = ap (turn_count W w) e in omega (arith, h, s)

-- a product that is not too large
low_factor : (a b W : ℕ) → a * W < b * W + W → a ≤ b
low_factor a b W small =
    let not_more : (b + 1 ≤ a) → ⊥ = λ h. let m = mul-le-mul_right W h in let d = add-mul b 1 W in omega arith in
    let l = lt_of_not-le not_more in omega arith

-- how far the count is from a quotient
record IsCount (W w n c : ℕ) : Type 0 where
  pub low : c * W + w < n + W
  pub high : n ≤ c * W + w

count_step : (W w n c : ℕ) → w < W → IsCount W w n c → (b : Bool) → (n % W == w) ≡ b → IsCount W w (n + 1) (c + cond b 1 0)
count_step W w n c lt was true is =
    let m : n % W ≡ w = eqb-true (n % W) w is in
    let q = mod-add-div' n W in
    let more = low_factor (n / W) c W (let h = was.high in omega arith) in
    let less = low_factor c (n / W) W (let l = was.low in omega arith) in
    let same : n / W ≡ c = omega arith in
    let e : n ≡ c * W + w = sym q ∙ ap₂ (λ x y. x + y * W) m same ∙ add_comm w (c * W) in
    let d = add-mul c 1 W in
    record { low = omega arith; high = omega arith }
count_step W w n c lt was false is =
    let other : n ≡ c * W + w → ⊥ = λ e. let m : n % W ≡ w = ap (λ x. x % W) e ∙ mod-mul-add c W w lt in true≢false (sym (eq-eqb (n % W) w m) ∙ is) in
    let l = was.low in let h = was.high in
    record { low = omega arith; high = omega arith }

counted : (W w n : ℕ) → w < W → IsCount W w n (turn_count W w n)
counted W w zero lt = record { low = omega arith; high = omega arith }
counted W w (suc n) lt = subst (λ m. IsCount W w m (turn_count W w (suc n))) (add-one n) (count_step W w n (turn_count W w n) lt (counted W w n lt) (n % W == w) refl)

-- number n is the worker's record number n / W
pub count_at : (W w n : ℕ) → w < W → n % W ≡ w → turn_count W w n ≡ n / W
count_at W w n lt m =
    let was = counted W w n lt in
    let q = mod-add-div' n W in
    let more = low_factor (n / W) (turn_count W w n) W (let h = was.high in omega arith) in
    let less = low_factor (turn_count W w n) (n / W) W (let l = was.low in omega arith) in omega arith

count_rises : (W w n k : ℕ) → turn_count W w n ≤ turn_count W w (n + k)
count_rises W w n zero = let e : n ≡ n + 0 = omega arith in let s = ap (turn_count W w) e in omega (arith, s)
count_rises W w n (suc k) = let h = count_rises W w n k in let m = count_more W w (n + k) in
    let e : turn_count W w (n + suc k) ≡ turn_count W w ((n + k) + 1) = ap (turn_count W w) (omega arith) in omega arith

pub count_above : (W w j n : ℕ) → w < W → j < n → j % W ≡ w → j / W < turn_count W w n
count_above W w j n lt small m =
    let here = count_at W w j lt m in
    let next = count_more W w j in
    let once : turn_count W w (j + 1) ≡ turn_count W w j + 1 = next ∙ ap (λ (b : Bool). turn_count W w j + cond b 1 0) (eq-eqb (j % W) w m) in
    let rise = count_rises W w (j + 1) (n - (j + 1)) in
    let e : turn_count W w ((j + 1) + (n - (j + 1))) ≡ turn_count W w n = ap (turn_count W w) (omega arith) in omega arith
