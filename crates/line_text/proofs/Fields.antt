-- Lines of two and of three fields, as a text is written that is read again.
use Rattle.std.proofs.Common.{ℕ, ◌≡◌, ◌≢◌, ◌<◌, ◌^◌, List, [], ◌∷◌, ◌++◌, refl, ap, arith, sym, ◌∙◌, Bool, true, false, ◌==◌, nat_le}
use Rattle.std.proofs.lemmas.Bool.{false≢true}
use Rattle.std.proofs.lemmas.Bool.Decides.{nat_tests}
use Rattle.std.proofs.lemmas.Fmt.{digits_decimal}
use Rattle.std.proofs.lemmas.List.Elements.{All-append, All-cons, All-nil, All-weaker}
use Rattle.std.proofs.lemmas.List.Splits.{slice_split_at, slice_split_none}
use Rattle.std.proofs.lemmas.List.Sums.{AllPass-from_list_all}
use Rattle.std.proofs.lemmas.Slice.Eq.{bytes_eq-Decides}
use Rattle.std.proofs.lemmas.Str.Parse.{IsNumeralModel, numerals_by_value, tells_all_ascii_digits}
use Rattle.std.specs.Bool.{Decides}
use Rattle.std.specs.Char.{is_ascii_digit}
use Rattle.std.specs.Fmt.{decimal}
use Rattle.std.specs.List.{All, list_all}
use Rattle.std.specs.Str.{all_ascii_digits, bytes_eq}
use Rattle.std.specs.Str.Parse.{digits_value}
use Rattle.hex.proofs.HexLemmas.{decode_of-encode_lower, decode_of-ok}
use Rattle.hex.specs.Hex.{IsBytes, encode_lower, is_hex_digit}
use Rattle.spie_base.proofs.Booleans.{both_held}
use Rattle.line_text.specs.Fields.{LeavesOut, is_word}
use Rattle.line_text.specs.Text.{fields, lines}

-- ---- a field is a word, or is not

pub same : (a b : List ℕ) → bytes_eq a b ≡ true → a ≡ b
same a b e = let d : Decides (bytes_eq a b) (a ≡ b) = bytes_eq-Decides a b in d.0 e

pub not_same : (a b : List ℕ) → bytes_eq a b ≡ false → a ≡ b → ⊥
not_same a b f e = let d : Decides (bytes_eq a b) (a ≡ b) = bytes_eq-Decides a b in let t : bytes_eq a b ≡ true = d.1 e in absurd (cc)

-- ---- bytes that stand in no field

pub not_byte : (x byte : ℕ) → x ≢ byte → (x == byte) ≡ false
not_byte x byte ne = grind (arith, nat_tests)

-- a byte that fails a test is left out of what passes it
pub leaves_by : (test : ℕ → Bool) (byte : ℕ) (text : List ℕ) → test byte ≡ false → All (λ x. test x ≡ true) text → LeavesOut byte text
leaves_by test byte text out all = All-weaker (λ x. test x ≡ true) (λ x. (x == byte) ≡ false) (λ x h. not_byte x byte (λ is. false≢true (sym out ∙ ap test (sym is) ∙ h))) text all

pub leaves_tested : (test : ℕ → Bool) (byte : ℕ) (text : List ℕ) → test byte ≡ false → list_all test text ≡ true → LeavesOut byte text
leaves_tested test byte text out all = leaves_by test byte text out (AllPass-from_list_all test text all)

ascii : IsNumeralModel (λ ds. all_ascii_digits ds ≡ true) (digits_value 10)
ascii = numerals_by_value _ tells_all_ascii_digits

pub number_leaves : (byte n : ℕ) → is_ascii_digit byte ≡ false → n < 2 ^ 64 → LeavesOut byte (decimal n)
number_leaves byte n out small = leaves_tested is_ascii_digit byte (decimal n) out (digits_decimal ascii n small)

pub hex_leaves : (byte : ℕ) (bytes : List ℕ) → is_hex_digit byte ≡ false → IsBytes bytes → LeavesOut byte (encode_lower bytes)
hex_leaves byte bytes out small = leaves_by is_hex_digit byte (encode_lower bytes) out (decode_of-ok (encode_lower bytes) bytes (decode_of-encode_lower bytes small)).1

word_by : (byte b : ℕ) (more : List ℕ) → byte < 97 → nat_le 97 b ≡ true → LeavesOut byte more → LeavesOut byte (b ∷ more)
word_by byte b more small is rest = All-cons (λ x. (x == byte) ≡ false) b more (grind (arith, nat_tests)) rest

pub word_leaves : (byte : ℕ) (text : List ℕ) → byte < 97 → is_word text ≡ true → LeavesOut byte text
word_leaves byte [] small e = All-nil _
word_leaves byte (b ∷ more) small e = let h = both_held _ _ e in word_by byte b more small h.0 (word_leaves byte more small h.1)

-- ---- lines

-- one line is cut off
pub cut_line : (line more : List ℕ) → LeavesOut 10 line → lines (line ++ 10 ∷ more) ≡ line ∷ lines more
cut_line line more h = slice_split_at (λ b. b == 10) line 10 more h refl

pub two_fields : (word field : List ℕ) → is_word word ≡ true → LeavesOut 32 field → fields (word ++ 32 ∷ field) ≡ word ∷ field ∷ []
two_fields word field w f =
    slice_split_at (λ b. b == 32) word 32 field (word_leaves 32 word (omega arith) w) refl ∙ ap (λ z. word ∷ z) (slice_split_none (λ b. b == 32) field f)

pub two_leave : (word field : List ℕ) → is_word word ≡ true → LeavesOut 10 field → LeavesOut 10 (word ++ 32 ∷ field)
two_leave word field w f =
    let P : ℕ → Type 0 = λ x. (x == 10) ≡ false in
    All-append P word (32 ∷ field) (word_leaves 10 word (omega arith) w) (All-cons P 32 field refl f)

pub three_fields : (word name field : List ℕ) → is_word word ≡ true → LeavesOut 32 name → LeavesOut 32 field → fields (word ++ 32 ∷ (name ++ 32 ∷ field)) ≡ word ∷ name ∷ field ∷ []
three_fields word name field w n f =
    slice_split_at (λ b. b == 32) word 32 (name ++ 32 ∷ field) (word_leaves 32 word (omega arith) w) refl
    ∙ ap (λ z. word ∷ z) (slice_split_at (λ b. b == 32) name 32 field n refl ∙ ap (λ z. name ∷ z) (slice_split_none (λ b. b == 32) field f))

pub three_leave : (word name field : List ℕ) → is_word word ≡ true → LeavesOut 10 name → LeavesOut 10 field → LeavesOut 10 (word ++ 32 ∷ (name ++ 32 ∷ field))
three_leave word name field w n f =
    let P : ℕ → Type 0 = λ x. (x == 10) ≡ false in
    All-append P word (32 ∷ (name ++ 32 ∷ field)) (word_leaves 10 word (omega arith) w) (All-cons P 32 (name ++ 32 ∷ field) refl (All-append P name (32 ∷ field) n (All-cons P 32 field refl f)))
