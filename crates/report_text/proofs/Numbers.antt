-- Numbers are read back from their texts, which have digits alone.
use Rattle.std.proofs.Common.{◌≡◌, ℕ, ◌≤◌, ◌<◌, List, [], ◌∷◌, ◌++◌, length, Bool, true, false, not, ◌==◌, refl, arith}
use Rattle.std.proofs.lemmas.Bool.{ne_eqb}
use Rattle.std.proofs.lemmas.Fmt.{decimal_is_IsNumeral, decimal_nonempty}
use Rattle.std.proofs.lemmas.Str.Parse.{digit_from_value}
use Rattle.std.specs.Fmt.{decimal}
use Rattle.std.specs.Str.Parse.{AllDigits, digits_value}
use Rattle.spie_base.proofs.Booleans.{both_hold}
use Rattle.report_text.specs.Laws.{IsCount}
use Rattle.report_text.proofs.Pieces.{other_byte, lacks}

abbrev pub number_of : List ℕ → ℕ
number_of text = digits_value 10 text

pub number_back : (n : ℕ) → IsCount n → number_of (decimal n) ≡ n
number_back n small = (decimal_is_IsNumeral n small).1

-- a byte that is no digit
abbrev pub IsMark : ℕ → Type 0
IsMark c = (d : ℕ) → 48 ≤ d → d ≤ 57 → d ≡ c → ⊥

pub space : IsMark 32
space d low high e = omega (arith, low, e)

pub comma : IsMark 44
comma d low high e = omega (arith, low, e)

pub dash : IsMark 45
dash d low high e = omega (arith, low, e)

pub colon : IsMark 58
colon d low high e = omega (arith, high, e)

lacks-digits : (c : ℕ) (ds : List ℕ) → IsMark c → AllDigits 10 ds → lacks c ds ≡ true
lacks-digits c [] mark all = refl
lacks-digits c (d ∷ ds) mark all =
    let r = digit_from_value d all.0 in
    both_hold (not (d == c)) (lacks c ds) (other_byte c d (mark d r.0 r.1)) (lacks-digits c ds mark all.1)

pub lacks-decimal : (c n : ℕ) → IsMark c → IsCount n → lacks c (decimal n) ≡ true
lacks-decimal c n mark small = lacks-digits c (decimal n) mark ((decimal_is_IsNumeral n small).0).1

-- whether a field begins with a dash
abbrev pub is_dash : List ℕ → Bool
is_dash [] = false
is_dash (b ∷ bs) = b == 45

no_dash : (ds rest : List ℕ) → 0 < length ds → AllDigits 10 ds → is_dash (ds ++ rest) ≡ false
no_dash [] rest some all = absurd (omega arith)
no_dash (d ∷ ds) rest some all = let r = digit_from_value d all.0 in ne_eqb d 45 (dash d r.0 r.1)

pub no_dash-decimal : (n : ℕ) (rest : List ℕ) → IsCount n → is_dash (decimal n ++ rest) ≡ false
no_dash-decimal n rest small = no_dash (decimal n) rest (decimal_nonempty n small) ((decimal_is_IsNumeral n small).0).1
