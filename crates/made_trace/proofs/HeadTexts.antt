-- The text of the lines before the packets, and of a packet's digits.
use Rattle.std.proofs.Common.{ℕ, ◌≡◌, ◌∙◌, List, [], ◌∷◌, ◌++◌, refl, ap, append_assoc, append-nil, lit<, codes, true, arith}
use Rattle.std.proofs.lemmas.Fmt.{decimal-digits_value, decimal_digit}
use Rattle.std.proofs.lemmas.Str.Parse.{IsNumeralModel, numerals_by_value, tells_all_ascii_digits}
use Rattle.std.specs.Fmt.{decimal}
use Rattle.std.specs.Int.{w64, to_be_bytes}
use Rattle.std.specs.Str.{all_ascii_digits}
use Rattle.std.specs.Str.Parse.{digits_value}
use Rattle.hex.specs.Hex.{encode_lower}
use Rattle.trace_format.specs.Said.{Said}
use Rattle.trace_format.specs.Said as said
use Rattle.trace_format.specs.declared.version.Version.TheVariants.{First}
use Rattle.made_trace.specs.Lines.{joined, lines_text}
use Rattle.made_trace.specs.Made.{head}
use Rattle.made_trace.proofs.HeadFits.{network_is, plain_network}

ascii : IsNumeralModel (λ ds. all_ascii_digits ds ≡ true) (digits_value 10)
ascii = numerals_by_value _ tells_all_ascii_digits

m16 : decimal 16 ≡ codes "16"
m16 = decimal-digits_value ascii (codes "16") refl (lit< tt) (λ e. omega (arith, e)) (lit< tt)

m4096 : decimal 4096 ≡ codes "4096"
m4096 = decimal-digits_value ascii (codes "4096") refl (lit< tt) (λ e. omega (arith, e)) (lit< tt)

m500 : decimal 500 ≡ codes "500"
m500 = decimal-digits_value ascii (codes "500") refl (lit< tt) (λ e. omega (arith, e)) (lit< tt)

m1500 : decimal 1500 ≡ codes "1500"
m1500 = decimal-digits_value ascii (codes "1500") refl (lit< tt) (λ e. omega (arith, e)) (lit< tt)

m300 : decimal 300 ≡ codes "300"
m300 = decimal-digits_value ascii (codes "300") refl (lit< tt) (λ e. omega (arith, e)) (lit< tt)

abbrev shape_with : (k n limit span keep age width digits : List ℕ) → List ℕ
shape_with k n limit span keep age width digits = joined (codes "shape" ∷ k ∷ n ∷ limit ∷ span ∷ keep ∷ age ∷ width ∷ digits ∷ [])

abbrev pub front_text : List ℕ
front_text = codes "spie-trace 1\nshape 3 16 4096 500 2 1500 300 "

abbrev pub network_text : List ℕ
network_text = codes "\nrouter r0 east\nrouter r1 east\nrouter r2 east\nrouter r3 east\nrouter r4 north\nrouter r5 north\nrouter r6 north\nrouter r7 north\nrouter r8 west\nrouter r9 west\nrouter r10 west\nrouter r11 west\nlink r0 r1\nlink r1 r2\nlink r2 r3\nlink r3 r4\nlink r4 r5\nlink r5 r6\nlink r6 r7\nlink r7 r8\nlink r8 r9\nlink r9 r10\nlink r10 r11\nlink r11 r0\nlink r0 r6\nlink r1 r7\nlink r2 r8\nlink r3 r9\nlink r4 r10\nlink r5 r11\nbegin\n"

abbrev rest_text : List ℕ
rest_text = lines_text (plain_network ++ said.Begin ∷ [])

pub head_text : (seed : ℕ) → lines_text (head seed) ≡ front_text ++ (encode_lower (to_be_bytes w64 seed) ++ network_text)
head_text seed =
    let digits = encode_lower (to_be_bytes w64 seed) in
    let three = decimal_digit 3 (lit< tt) in
    let two = decimal_digit 2 (lit< tt) in
    let literal : lines_text (head seed) ≡ lines_text (said.Version First ∷ []) ++ ((shape_with (codes "3") (codes "16") (codes "4096") (codes "500") (codes "2") (codes "1500") (codes "300") digits ++ 10 ∷ []) ++ rest_text) =
    λ i. lines_text (said.Version First ∷ []) ++ ((shape_with (three i) (m16 i) (m4096 i) (m500 i) (two i) (m1500 i) (m300 i) digits ++ 10 ∷ []) ++ lines_text (network_is i ++ said.Begin ∷ [])) in
    literal ∙ ap (λ (t : List ℕ). front_text ++ t) (ap (λ (t : List ℕ). (t ++ 10 ∷ []) ++ rest_text) (append-nil digits) ∙ append_assoc digits (10 ∷ []) rest_text)
