-- A field that is read is the field that was spelled, and what was spelled is read again.
use Rattle.std.proofs.Common.{◌≡◌, ℕ, zero, suc, ◌+◌, ◌*◌, ◌^◌, ◌<◌, ◌≤◌, Bool, true, false, cond, leb, ◌&&◌, List, [], ◌∷◌, ◌++◌, length, All, get_or, take, drop, Result, Ok, Err, refl, sym, ap, subst, ◌∙◌, append_assoc, arith, inl, inr}
use Rattle.std.specs.Int.{w16, w32, w64, from_be_bytes, to_be_bytes}
use Rattle.std.specs.List.{flat_map}
use Rattle.std.proofs.lemmas.Bool.{cases_lt, leb-true, le-leb}
use Rattle.std.proofs.lemmas.List.{take_at, drop_at, take-append-drop, length-append, length-take, length-take-le, length-drop, get_or-drop, get_or-take, get_or_past, nil_from_length}
use Rattle.std.proofs.lemmas.List.Elements.{All-nil, All-cons, All-head, All-tail}
use Rattle.std.proofs.lemmas.List.Concat.{flat_map-cons}
use Rattle.std.proofs.lemmas.Nat.{be_bytes_2, be_bytes_4, be_bytes_8}
use Rattle.byteorder.specs.Endian.{big_number, big_bytes}
use Rattle.byteorder.specs.Numbers.{big_from-take, big_from-lt, big_number-reads_back, length-bytes_high_first}
use Rattle.spie_base.proofs.Booleans.{both_held}
use Rattle.archive_record.specs.Reading.{◌>>=◌, number_in, bytes_in, first_words, words_in}

abbrev pub IsBytes : List ℕ → Type 0
IsBytes bytes = (i : ℕ) → get_or bytes i 0 < 256

pub IsBytes-drop : (n : ℕ) (bytes : List ℕ) → IsBytes bytes → IsBytes (drop n bytes)
IsBytes-drop n bytes h i = rw get_or-drop (h (n + i))

pub IsBytes-take : (n : ℕ) (bytes : List ℕ) → IsBytes bytes → IsBytes (take n bytes)
IsBytes-take n bytes h i =
    elim (cases_lt i n) [
      | inl lt ↦ rw (get_or-take n bytes i 0 lt) (h i)
      | inr le ↦ rw (get_or_past (take n bytes) i 0 (omega (arith, length-take n bytes))) (omega arith)
    ]

-- the value of a step that did not stop
pub bind_ok : {A B : Type 0} (r : Result A ℕ) (f : A → Result B ℕ) (y : B) → (r >>= f) ≡ Ok y → (x : A) × (r ≡ Ok x) × (f x ≡ Ok y)
bind_ok (Ok x) f y e = (x, refl, e)
bind_ok (Err left) f y e = absurd cc

-- a test that was passed
pub guard_ok : {A : Type 0} (b : Bool) (left : ℕ) (x y : A) → cond b (Ok x) (Err left) ≡ Ok y → (b ≡ true) × (x ≡ y)
guard_ok true left x y e = (refl, cc)
guard_ok false left x y e = absurd cc

abbrev done : {A : Type 0} → A → Result A ℕ
done x = Ok x

pub ok_is : {A : Type 0} (x y : A) → done x ≡ done y → x ≡ y
ok_is x y e = cc

-- what a reader took from the front
pub record Takes (bytes text rest : List ℕ) : Type 0 where
  pub parts : bytes ≡ text ++ rest
  pub rest_fits : IsBytes rest

pub Takes-then : (a x b y c : List ℕ) → Takes a x b → Takes b y c → Takes a (x ++ y) c
Takes-then a x b y c p q = record { parts = p.parts ∙ ap (λ (t : List ℕ). x ++ t) q.parts ∙ sym (append_assoc x y c); rest_fits = q.rest_fits }

-- ---- numbers

-- the bytes of the number that n bytes make are those bytes
pub record IsWide (n : ℕ) : Type 0 where
  pub back : (bytes : List ℕ) → n ≤ length bytes → IsBytes bytes → big_bytes n (big_number n bytes) ≡ take n bytes

pub wide1 : IsWide 1
wide1 = record { back = one }
  where
    one : (bytes : List ℕ) → 1 ≤ length bytes → IsBytes bytes → big_bytes 1 (big_number 1 bytes) ≡ take 1 bytes
    one [] long fits = absurd (omega (arith, long))
    one (b ∷ bytes) long fits = ap (λ (x : ℕ). x ∷ []) (omega (arith, fits 0))

pub wide2 : IsWide 2
wide2 = record {
  back = λ bytes long fits. be_bytes_2 (take 2 bytes) (big_number 2 bytes) (length-take-le 2 bytes long) (IsBytes-take 2 bytes fits)
      (sym (big_from-take 0 2 2 bytes (omega arith)) ∙ (let e : big_number 2 (take 2 bytes) ≡ from_be_bytes w16 (take 2 bytes) = omega arith in e));
}

pub wide4 : IsWide 4
wide4 = record {
  back = λ bytes long fits. be_bytes_4 (take 4 bytes) (big_number 4 bytes) (length-take-le 4 bytes long) (IsBytes-take 4 bytes fits)
      (sym (big_from-take 0 4 4 bytes (omega arith)) ∙ (let e : big_number 4 (take 4 bytes) ≡ from_be_bytes w32 (take 4 bytes) = omega arith in e));
}

pub wide8 : IsWide 8
wide8 = record {
  back = λ bytes long fits. be_bytes_8 (take 8 bytes) (big_number 8 bytes) (length-take-le 8 bytes long) (IsBytes-take 8 bytes fits)
      (sym (big_from-take 0 8 8 bytes (omega arith)) ∙ (let e : big_number 8 (take 8 bytes) ≡ from_be_bytes w64 (take 8 bytes) = omega arith in e));
}

pub record TakesNumber (n low high : ℕ) (bytes : List ℕ) (x : ℕ × List ℕ) : Type 0 where
  pub takes : Takes bytes (big_bytes n x.0) x.1
  pub above : low ≤ x.0
  pub below : x.0 ≤ high

pub number_takes : (n low high : ℕ) → IsWide n → (bytes : List ℕ) (x : ℕ × List ℕ) → IsBytes bytes → number_in n low high bytes ≡ Ok x → TakesNumber n low high bytes x
number_takes n low high wide bytes x fits e =
    let g = guard_ok (leb n (length bytes) && (leb low (big_number n bytes) && leb (big_number n bytes) high)) (length bytes) (big_number n bytes, drop n bytes) x e in
    let both = both_held (leb n (length bytes)) (leb low (big_number n bytes) && leb (big_number n bytes) high) g.0 in
    let within = both_held (leb low (big_number n bytes)) (leb (big_number n bytes) high) both.1 in
    let long : n ≤ length bytes = leb-true _ _ both.0 in
    let parts : bytes ≡ big_bytes n (big_number n bytes) ++ drop n bytes = rw (wide.back bytes long fits) (sym (take-append-drop n bytes)) in
    subst (λ (y : ℕ × List ℕ). TakesNumber n low high bytes y) g.1 (record { takes = record { parts = parts; rest_fits = IsBytes-drop n bytes fits }; above = leb-true _ _ within.0; below = leb-true _ _ within.1 })

pub number_again : (n low high x : ℕ) (rest : List ℕ) → low ≤ x → x ≤ high → x < 256 ^ n → number_in n low high (big_bytes n x ++ rest) ≡ Ok (x, rest)
number_again n low high x rest above below fits =
    let len : length (big_bytes n x) ≡ n = length-bytes_high_first n x in
    let long : leb n (length (big_bytes n x ++ rest)) ≡ true = le-leb _ _ (omega (arith, len, length-append (big_bytes n x) rest)) in
    rw (long, big_number-reads_back n x rest fits, le-leb low x above, le-leb x high below, drop_at (big_bytes n x) rest n len) refl

-- ---- bytes

pub record TakesBytes (n : ℕ) (bytes : List ℕ) (x : List ℕ × List ℕ) : Type 0 where
  pub takes : Takes bytes x.0 x.1
  pub len : length x.0 ≡ n
  pub fits : IsBytes x.0

pub bytes_take : (n : ℕ) (bytes : List ℕ) (x : List ℕ × List ℕ) → IsBytes bytes → bytes_in n bytes ≡ Ok x → TakesBytes n bytes x
bytes_take n bytes x fits e =
    let g = guard_ok (leb n (length bytes)) (length bytes) (take n bytes, drop n bytes) x e in
    let long : n ≤ length bytes = leb-true _ _ g.0 in
    subst (λ (y : List ℕ × List ℕ). TakesBytes n bytes y) g.1 (record { takes = record { parts = sym (take-append-drop n bytes); rest_fits = IsBytes-drop n bytes fits }; len = length-take-le n bytes long; fits = IsBytes-take n bytes fits })

pub bytes_again : (n : ℕ) (text rest : List ℕ) → length text ≡ n → bytes_in n (text ++ rest) ≡ Ok (text, rest)
bytes_again n text rest len =
    let long : leb n (length (text ++ rest)) ≡ true = le-leb _ _ (omega (arith, len, length-append text rest)) in
    rw (long, take_at text rest n len, drop_at text rest n len) refl

-- ---- words

words_spell : (count : ℕ) (bytes : List ℕ) → length bytes ≡ 8 * count → IsBytes bytes → flat_map (to_be_bytes w64) (first_words count bytes) ≡ bytes
words_spell zero bytes size fits = sym (nil_from_length bytes (omega (arith, size)))
words_spell (suc count) bytes size fits =
    flat_map-cons (to_be_bytes w64) (big_number 8 bytes) (first_words count (drop 8 bytes))
    ∙ ap (λ (t : List ℕ). big_bytes 8 (big_number 8 bytes) ++ t) (words_spell count (drop 8 bytes) (omega (arith, size, length-drop 8 bytes)) (IsBytes-drop 8 bytes fits))
    ∙ ap (λ (t : List ℕ). t ++ drop 8 bytes) (wide8.back bytes (omega (arith, size)) fits)
    ∙ take-append-drop 8 bytes

words_fit : (count : ℕ) (bytes : List ℕ) → IsBytes bytes → All (λ w. w < 2 ^ 64) (first_words count bytes)
words_fit zero bytes fits = All-nil (λ w. w < 2 ^ 64)
words_fit (suc count) bytes fits = All-cons (λ w. w < 2 ^ 64) (big_number 8 bytes) (first_words count (drop 8 bytes)) (big_from-lt 0 8 bytes fits) (words_fit count (drop 8 bytes) (IsBytes-drop 8 bytes fits))

words_len : (count : ℕ) (bytes : List ℕ) → length (first_words count bytes) ≡ count
words_len zero bytes = refl
words_len (suc count) bytes = ap suc (words_len count (drop 8 bytes))

pub record TakesWords (count : ℕ) (bytes : List ℕ) (x : List ℕ × List ℕ) : Type 0 where
  pub takes : Takes bytes (flat_map (to_be_bytes w64) x.0) x.1
  pub len : length x.0 ≡ count
  pub fits : All (λ w. w < 2 ^ 64) x.0

pub words_take : (count : ℕ) (bytes : List ℕ) (x : List ℕ × List ℕ) → IsBytes bytes → words_in count bytes ≡ Ok x → TakesWords count bytes x
words_take count bytes x fits e =
    let a = bind_ok (bytes_in (8 * count) bytes) (λ field. Ok (first_words count field.0, field.1)) x e in
    let t = bytes_take (8 * count) bytes a.0 fits a.1 in
    let takes : Takes bytes (flat_map (to_be_bytes w64) (first_words count a.0.0)) a.0.1 = subst (λ (text : List ℕ). Takes bytes text a.0.1) (sym (words_spell count a.0.0 t.len t.fits)) t.takes in
    subst (λ (y : List ℕ × List ℕ). TakesWords count bytes y) (ok_is (first_words count a.0.0, a.0.1) x a.2) (record { takes = takes; len = words_len count a.0.0; fits = words_fit count a.0.0 t.fits })

words_back : (words : List ℕ) → All (λ w. w < 2 ^ 64) words → first_words (length words) (flat_map (to_be_bytes w64) words) ≡ words
words_back [] fits = refl
words_back (w ∷ words) fits =
    ap (first_words (suc (length words))) (flat_map-cons (to_be_bytes w64) w words)
    ∙ ap (λ (n : ℕ). n ∷ first_words (length words) (flat_map (to_be_bytes w64) words)) (big_number-reads_back 8 w (flat_map (to_be_bytes w64) words) (All-head (λ w. w < 2 ^ 64) w words fits))
    ∙ ap (λ (ws : List ℕ). w ∷ ws) (words_back words (All-tail (λ w. w < 2 ^ 64) w words fits))

words_size : (words : List ℕ) → length (flat_map (to_be_bytes w64) words) ≡ 8 * length words
words_size [] = refl
words_size (w ∷ words) =
    let one : length (flat_map (to_be_bytes w64) (w ∷ words)) ≡ length (to_be_bytes w64 w ++ flat_map (to_be_bytes w64) words) = ap length (flat_map-cons (to_be_bytes w64) w words) in
    omega (arith, one, length-append (to_be_bytes w64 w) (flat_map (to_be_bytes w64) words), length-bytes_high_first 8 w, words_size words)

pub words_again : (count : ℕ) (words rest : List ℕ) → length words ≡ count → All (λ w. w < 2 ^ 64) words → words_in count (flat_map (to_be_bytes w64) words ++ rest) ≡ Ok (words, rest)
words_again count words rest len fits =
    rw (bytes_again (8 * count) (flat_map (to_be_bytes w64) words) rest (omega (arith, words_size words, len)), ← len, words_back words fits) refl
