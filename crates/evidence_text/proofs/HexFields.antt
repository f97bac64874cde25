-- A field that is read as bytes is the lower-case text of these bytes, and the other way round.
use Rattle.std.proofs.Common.{ℕ, ◌≡◌, ◌*◌, ◌/◌, ◌&&◌, List, [], ◌∷◌, length, refl, ap, arith, sym, ◌∙◌, Result, Ok, Err, Bool, true, false, cond}
use Rattle.std.specs.Char.{is_ascii_digit}
use Rattle.std.specs.List.{list_all}
use Rattle.std.specs.Str.{all_ascii_digits}
use Rattle.std.specs.declared.option.Option.{Option}
use Rattle.std.specs.declared.option.Option.TheVariants.{None, Some}
use Rattle.hex.proofs.HexLemmas.{decode_pairs-ok, decode_sized-ok, decode_sized-encode_lower}
use Rattle.hex.proofs.Pairs.{decode_sized-pairs}
use Rattle.hex.specs.Hex.{IsBytes, decode_pairs, decode_sized, encode_lower}
use Rattle.hex.specs.declared.error.FromHexError.{FromHexError}
use Rattle.line_text.proofs.LowerHex.{lower_is_lower, spelled_lower}
use Rattle.evidence_text.specs.Reading.{is_small, decoded, lower_in}

-- the lower-case text of so many bytes
pub record IsText (field : List ℕ) (n : ℕ) (bytes : List ℕ) : Type 0 where
  pub is : field ≡ encode_lower bytes
  pub count : length bytes ≡ n
  pub each : IsBytes bytes

ok_is : (r : Result (List ℕ) FromHexError) (bytes : List ℕ) → decoded r ≡ Some bytes → r ≡ Ok bytes
ok_is (Ok v) bytes e = cc
ok_is (Err w) bytes e = absurd (cc)

small_found : (n : ℕ) (field bytes : List ℕ) → decode_sized field n ≡ Ok bytes → list_all is_small field ≡ true → IsText field n bytes
small_found n field bytes d low =
    let twice : length field ≡ 2 * n = decode_sized-ok field n bytes d in
    let half : length field / 2 ≡ n = omega (arith, twice) in
    let pairs : decode_sized field n ≡ decode_pairs 0 field = decode_sized-pairs field n (omega (arith, twice)) half in
    let p : decode_pairs 0 field ≡ Ok bytes = sym pairs ∙ d in
    let ok = decode_pairs-ok 0 field bytes p in
    let long = ok.1 in
    record { is = spelled_lower 0 field bytes p low; count = omega (arith, twice, long); each = ok.2 }

found_by : (n : ℕ) (field bytes : List ℕ) (low : Bool) → list_all is_small field ≡ low → cond low (decoded (decode_sized field n)) None ≡ Some bytes → IsText field n bytes
found_by n field bytes true l e = small_found n field bytes (ok_is _ bytes e) l
found_by n field bytes false l e = absurd (cc)

pub lower_found : (n : ℕ) (field bytes : List ℕ) → lower_in n field ≡ Some bytes → IsText field n bytes
unfolding lower_in
lower_found n field bytes e = found_by n field bytes _ refl e

pub lower_again : (n : ℕ) (field bytes : List ℕ) → IsText field n bytes → lower_in n field ≡ Some bytes
unfolding lower_in
lower_again n field bytes h =
    let low : list_all is_small field ≡ true = ap (list_all is_small) h.is ∙ lower_is_lower bytes h.each in
    let d : decode_sized field n ≡ Ok bytes = ap (λ z. decode_sized z n) h.is ∙ decode_sized-encode_lower bytes n h.count h.each in
    rw (low, d) refl

none_by : (n : ℕ) (field : List ℕ) (r : Option (List ℕ)) → lower_in n field ≡ r → ((bytes : List ℕ) → IsText field n bytes → ⊥) → r ≡ None
none_by n field None e none = refl
none_by n field (Some bytes) e none = absurd (none bytes (lower_found n field bytes e))

pub lower_none : (n : ℕ) (field : List ℕ) → ((bytes : List ℕ) → IsBytes bytes → length bytes ≡ n → field ≡ encode_lower bytes → ⊥) → None ≡ lower_in n field
lower_none n field none = sym (none_by n field _ refl (λ bytes h. none bytes h.each h.count h.is))

pub lower_some : (n : ℕ) (field room : List ℕ) → IsBytes room → length room ≡ n → field ≡ encode_lower room → Some room ≡ lower_in n field
lower_some n field room each count is = sym (lower_again n field room (record { is = is; count = count; each = each }))

pub not_read : (b : Bool) → b ≡ true → b ≡ false → ⊥
not_read true p q = absurd (cc)
not_read false p q = absurd (cc)

-- ---- digits

pub digits_all : (text : List ℕ) → all_ascii_digits text ≡ list_all is_ascii_digit text
digits_all [] = refl
digits_all (c ∷ cs) = ap (λ b. is_ascii_digit c && b) (digits_all cs)
