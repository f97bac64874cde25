-- Hex digits without a capital letter are the lower-case text of their bytes.
use Rattle.std.proofs.Common.{ℕ, zero, suc, ◌≡◌, ◌+◌, ◌*◌, ◌/◌, ◌%◌, ◌<◌, List, [], ◌∷◌, length, refl, ap, arith, sym, ◌∙◌, inl, inr, MatchResult, Result, Ok, Err, Bool, true, false, not, cond, ◌&&◌, ◌==◌, nat_lt, slice_index}
use Rattle.std.proofs.lemmas.Bool.{and_parts, cases_lt, eqb-true}
use Rattle.std.proofs.lemmas.Bool.Decides.{nat_tests}
use Rattle.std.specs.Char.{is_ascii_uppercase}
use Rattle.std.specs.List.{list_all}
use Rattle.std.specs.declared.option.Option.{Option}
use Rattle.std.specs.declared.option.Option.TheVariants.{None, Some}
use Rattle.hex.proofs.HexLemmas.{decode_sized-ok, decode_sized-encode_lower}
use Rattle.hex.proofs.Pairs.{decode_sized-pairs}
use Rattle.hex.specs.Hex.{IsBytes, decode_pairs, decode_sized, digit_or_error, encode_lower, encode_with, hex_digit_value, lower_digits, ◌>>=◌}
use Rattle.hex.specs.declared.error.FromHexError.{FromHexError}
use Rattle.spie_base.proofs.Booleans.{both_held}

-- ---- one digit

-- the code of a lower-case digit
abbrev code_of : ℕ → ℕ
code_of d = cond (nat_lt d 10) (d + 48) (d + 87)

abbrev is_code : ℕ → Bool
is_code d = slice_index lower_digits d == code_of d

abbrev are_codes : ℕ → Bool
are_codes zero = true
are_codes (suc n) = is_code n && are_codes n

code_by : (d : ℕ) → is_code d ≡ true → slice_index lower_digits d ≡ code_of d
code_by d e = eqb-true (slice_index lower_digits d) (code_of d) e

codes_at : (n d : ℕ) → are_codes n ≡ true → d < n → is_code d ≡ true
codes_at zero d e lt = absurd (omega arith)
codes_at (suc n) d e lt =
    let parts = and_parts (is_code n) (are_codes n) e in
    elim (cases_lt d n) [
      | inl below ↦ codes_at n d parts.1 below
      | inr top ↦
          let is : d ≡ n = omega arith in
          rw is parts.0
    ]

lower_at : (d : ℕ) → d < 16 → slice_index lower_digits d ≡ code_of d
lower_at d lt = code_by d (codes_at 16 d refl lt)

small_letter : (c v : ℕ) → hex_digit_value c ≡ Some v → is_ascii_uppercase c ≡ false → (v < 16) × (c ≡ code_of v)
small_letter c v h low = (grind (arith), grind (arith, nat_tests))

digit_is : (c v : ℕ) → hex_digit_value c ≡ Some v → is_ascii_uppercase c ≡ false → (v < 16) × (c ≡ slice_index lower_digits v)
digit_is c v h low = let s = small_letter c v h low in (s.0, s.1 ∙ sym (lower_at v s.0))

code_is_small : (d : ℕ) → d < 16 → is_ascii_uppercase (code_of d) ≡ false
code_is_small d lt = grind (arith, nat_tests)

lower_is_small : (d : ℕ) → d < 16 → is_ascii_uppercase (slice_index lower_digits d) ≡ false
lower_is_small d lt = ap is_ascii_uppercase (lower_at d lt) ∙ code_is_small d lt

-- ---- all digits

-- the two digits of a byte, and the bytes of those behind them
record Paired (a b : ℕ) (rest : Result (List ℕ) FromHexError) (bytes : List ℕ) : Type 0 where
  high : ℕ
  low : ℕ
  more : List ℕ
  first : hex_digit_value a ≡ Some high
  second : hex_digit_value b ≡ Some low
  others : rest ≡ Ok more
  are : bytes ≡ (high * 16 + low) ∷ more

paired : (a b i j : ℕ) (x y : Option ℕ) (rest : Result (List ℕ) FromHexError) (bytes : List ℕ) → hex_digit_value a ≡ x → hex_digit_value b ≡ y
    → ((digit_or_error a i x >>= (λ h. digit_or_error b j y >>= (λ l. Ok (h * 16 + l)))) >>= (λ byte. rest >>= (λ bs. Ok (byte ∷ bs)))) ≡ Ok bytes → Paired a b rest bytes
paired a b i j (Some h) (Some l) (Ok more) bytes p q e = record { high = h; low = l; more = more; first = p; second = q; others = refl; are = cc }
paired a b i j (Some h) (Some l) (Err w) bytes p q e = absurd (cc)
paired a b i j (Some h) None rest bytes p q e = absurd (cc)
paired a b i j None y rest bytes p q e = absurd (cc)

abbrev small : ℕ → Bool
small c = not (is_ascii_uppercase c)

not_true : (b : Bool) → not b ≡ true → b ≡ false
not_true true h = absurd (cc)
not_true false h = refl

both_digits : (h l : ℕ) → h < 16 → l < 16 → ((h * 16 + l) / 16 ≡ h) × ((h * 16 + l) % 16 ≡ l)
both_digits h l p q = (omega (arith, p, q), omega (arith, p, q))

no_bytes : (bytes : List ℕ) → decode_pairs 0 [] ≡ Ok bytes → bytes ≡ []
unfolding decode_pairs
no_bytes [] e = refl
no_bytes (b ∷ more) e = absurd (cc)

pub spelled_lower : (i : ℕ) (s bytes : List ℕ) → decode_pairs i s ≡ Ok bytes → list_all small s ≡ true → s ≡ encode_lower bytes
unfolding decode_pairs encode_with
spelled_lower i [] bytes e low = rw (no_bytes bytes e) refl
spelled_lower i (a ∷ []) bytes e low = absurd (cc)
spelled_lower i (a ∷ b ∷ rest) bytes e low =
    let p = paired a b i (i + 1) (hex_digit_value a) (hex_digit_value b) (decode_pairs (i + 2) rest) bytes refl refl e in
    let l = both_held (small a) (list_all small (b ∷ rest)) low in
    let m = both_held (small b) (list_all small rest) l.1 in
    let x = digit_is a p.high p.first (not_true _ l.0) in
    let y = digit_is b p.low p.second (not_true _ m.0) in
    let d = both_digits p.high p.low x.0 y.0 in
    rw (p.are, d.0, d.1, ← x.1, ← y.1, ← spelled_lower (i + 2) rest p.more p.others m.1) refl

pub lower_is_lower : (bytes : List ℕ) → IsBytes bytes → list_all small (encode_lower bytes) ≡ true
unfolding encode_with
lower_is_lower [] h = refl
lower_is_lower (b ∷ rest) h =
    let fits : b < 256 = h 0 in
    rw (lower_is_small (b / 16) (omega (arith, fits)), lower_is_small (b % 16) (omega arith), lower_is_lower rest (λ k. h (suc k))) refl

-- ---- what was decoded into room

-- what the kit's decoding into room answers
abbrev pub Decoded : List ℕ → (n : ℕ) → Result (Unit {0}) FromHexError → List ℕ → Type 0
Decoded field n answer room = MatchResult (decode_sized field n) (λ bytes. (answer ≡ Ok tt) × (room ≡ bytes)) (λ e. answer ≡ Err e)

abbrev ok_unit : Result (Unit {0}) FromHexError
ok_unit = Ok tt

decoded_by : (d : Result (List ℕ) FromHexError) (answer : Result (Unit {0}) FromHexError) (room : List ℕ) → MatchResult d (λ bytes. (answer ≡ Ok tt) × (room ≡ bytes)) (λ e. answer ≡ Err e) → answer ≡ Ok tt → d ≡ Ok room
decoded_by (Ok bytes) answer room h e = ap (λ v. Ok v) (sym h.1)
decoded_by (Err w) answer room h e = let q : ok_unit ≡ Err w = sym e ∙ h in absurd (cc)

pub read_lower : (field : List ℕ) (n : ℕ) (answer : Result (Unit {0}) FromHexError) (room : List ℕ) → Decoded field n answer room → answer ≡ Ok tt → list_all small field ≡ true → field ≡ encode_lower room
read_lower field n answer room h e low =
    let d : decode_sized field n ≡ Ok room = decoded_by (decode_sized field n) answer room h e in
    let twice : length field ≡ 2 * n = decode_sized-ok field n room d in
    let half : length field / 2 ≡ n = omega (arith, twice) in
    let pairs : decode_sized field n ≡ decode_pairs 0 field = decode_sized-pairs field n (omega (arith, twice)) half in
    spelled_lower 0 field room (sym pairs ∙ d) low

refused_by : (d : Result (List ℕ) FromHexError) (answer : Result (Unit {0}) FromHexError) (room bytes : List ℕ) (w : FromHexError) → d ≡ Ok bytes → MatchResult d (λ bytes. (answer ≡ Ok tt) × (room ≡ bytes)) (λ e. answer ≡ Err e) → answer ≡ Err w → ⊥
refused_by (Ok v) answer room bytes w e h r = let q : ok_unit ≡ Err w = sym h.0 ∙ r in absurd (cc)
refused_by (Err v) answer room bytes w e h r = absurd (cc)

pub never_refused : (field : List ℕ) (n : ℕ) (answer : Result (Unit {0}) FromHexError) (room bytes : List ℕ) (w : FromHexError) → Decoded field n answer room → IsBytes bytes → length bytes ≡ n → field ≡ encode_lower bytes → answer ≡ Err w → ⊥
never_refused field n answer room bytes w h small long is r =
    let d : decode_sized field n ≡ Ok bytes = ap (λ z. decode_sized z n) is ∙ decode_sized-encode_lower bytes n long small in
    refused_by (decode_sized field n) answer room bytes w d h r
