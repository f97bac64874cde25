-- What a field that is read looks like.
use Rattle.std.proofs.Common.{ℕ, ◌≡◌, ◌≢◌, ◌/◌, ◌%◌, ◌^◌, ◌≤◌, ◌<◌, ◌⊎◌, inl, inr, List, [], ◌∷◌, length, refl, ap, arith, sym, ◌∙◌, subst, suc, Result, Ok, Err, Bool, true, false, cond, ◌==◌, nat_lt, nat_le, lit<, lit≤}
use Rattle.std.proofs.lemmas.Bool.Decides.{nat_tests}
use Rattle.line_text.proofs.Fields.{same}
use Rattle.std.proofs.Math.Pow.{pow_mono}
use Rattle.spie_base.specs.declared.types.Rules.{Rules}
use Rattle.trace_format.specs.Reading.{front_in, times_in, back_in, shape_in, word_of, number, number_by, name_in, kind_in, is_hex_size, bytes_in, bytes_by, base_of, base_by}
use Rattle.trace_format.specs.Spelling.{Spells, IsName, IsHex, IsBase, kind_word}
use Rattle.trace_format.specs.Text.{is_name}
use Rattle.trace_format.specs.Versions.{version_text, form_of, version_in}
use Rattle.trace_format.specs.declared.version.Form.{Form}
use Rattle.trace_format.specs.declared.version.Version.{Version}
use Rattle.trace_format.specs.declared.version.Version.TheVariants.{First, Second, Third}
use Rattle.trace_format.specs.Words.{word_text}
use Rattle.line_text.specs.Answers.{◌>>=◌}
use Rattle.trace_format.specs.Said as said
use Rattle.trace_format.specs.declared.words.Word.{Word}
use Rattle.trace_format.specs.declared.words.Word.TheVariants as word
use Rattle.std.specs.Prelude.{codes}
use Rattle.std.specs.Str.{bytes_eq}
use Rattle.std.specs.Fmt.{decimal}
use Rattle.std.specs.declared.option.Option.{Option}
use Rattle.std.specs.declared.option.Option.TheVariants.{None, Some}
use Rattle.hex.specs.Hex.{decode_of, decode_pairs, decode_sized}
use Rattle.hex.specs.declared.error.FromHexError.{FromHexError}
use Rattle.hex.specs.declared.error.FromHexError.TheVariants.{OddLength, InvalidStringLength}
use Rattle.spie_base.specs.Decimal.{number_in as decimal_in}
use Rattle.spie_base.proofs.Booleans.{both_held}
use Rattle.spie_base.specs.declared.types.TheConstants.{K_MOST, N_LEAST, N_MOST}
use Rattle.line_text.proofs.DecimalFields.{number_in_ok}
use Rattle.packet_signature.specs.declared.rows.Kind.{Kind}
use Rattle.packet_signature.specs.declared.rows.Kind.TheVariants as kind
use Rattle.trace_format.specs.declared.refused.WhyRefused.{WhyRefused}
use Rattle.trace_format.specs.Limits.{most_digits}
use Rattle.trace_format.specs.declared.limits.TheConstants.{MOST_TIME}
use Rattle.trace_format.specs.declared.refused.WhyRefused.TheVariants as why

-- what was read is so, and only a field is refused
abbrev pub FieldMeets : {A : Type 0} → (A → Type 0) → Result A WhyRefused → Type 0
FieldMeets P (Ok x) = P x
FieldMeets P (Err y) = y ≡ why.Field

-- what is so of the second step and of a refused field is so of both steps
pub bound : {A B : Type 0} (P : A → Type 0) (W : Result B WhyRefused → Type 0) (r : Result A WhyRefused) (f : A → Result B WhyRefused) → FieldMeets P r → ((x : A) → P x → W (f x)) → W (Err why.Field) → W (r >>= f)
bound P W (Ok x) f h more field = more x h
bound P W (Err y) f h more field = let Q : WhyRefused → Type 0 = λ v. W (Err v) in subst Q (sym h) field

-- a field that is a number from least to most
pub record IsNumber (field : List ℕ) (least most n : ℕ) : Type 0 where
  pub is : field ≡ decimal n
  pub low : least ≤ n
  pub high : n ≤ most

least_by : (field : List ℕ) (least most n : ℕ) (b : Bool) → nat_lt n least ≡ b → field ≡ decimal n → n ≤ most → FieldMeets (λ n. IsNumber field least most n) (cond b (Err why.Field) (Ok n))
least_by field least most n true low is high = refl
least_by field least most n false low is high = record { is = is; low = grind (arith, nat_tests); high = high }

number_found : (field : List ℕ) (least most : ℕ) (found : Option ℕ) → most < 2 ^ 64 → decimal_in field most ≡ found → FieldMeets (λ n. IsNumber field least most n) (number_by found least)
number_found field least most None small e = refl
number_found field least most (Some n) small e = let d = number_in_ok field most n small e in least_by field least most n _ refl d.0 d.1

pub number_meets : (field : List ℕ) (least most : ℕ) → most < 2 ^ 64 → FieldMeets (λ n. IsNumber field least most n) (number field least most)
unfolding number
number_meets field least most small = number_found field least most _ small refl

name_by : (field : List ℕ) (b : Bool) → is_name field ≡ b → FieldMeets (λ u. IsName field) (cond b (Ok (tt {0})) (Err why.Field))
name_by field true e = e
name_by field false e = refl

pub name_meets : (field : List ℕ) → FieldMeets (λ u. IsName field) (name_in field)
unfolding name_in
name_meets field = name_by field _ refl

kind_by : (field : List ℕ) (v : Kind) (b : Bool) (rest : Result Kind WhyRefused) → bytes_eq field (kind_word v) ≡ b → FieldMeets (λ k. field ≡ kind_word k) rest → FieldMeets (λ k. field ≡ kind_word k) (cond b (Ok v) rest)
kind_by field v true rest e more = same field (kind_word v) e
kind_by field v false rest e more = more

pub kind_meets : (field : List ℕ) → FieldMeets (λ k. field ≡ kind_word k) (kind_in field)
unfolding kind_in
kind_meets field =
    kind_by field kind.Frag (bytes_eq field (kind_word kind.Frag)) _ refl
    (kind_by field kind.Nat (bytes_eq field (kind_word kind.Nat)) _ refl
    (kind_by field kind.Icmp (bytes_eq field (kind_word kind.Icmp)) _ refl
    (kind_by field kind.Ipip (bytes_eq field (kind_word kind.Ipip)) _ refl
    (kind_by field kind.Decap (bytes_eq field (kind_word kind.Decap)) (Err why.Field) refl refl))))

a_word : (field : List ℕ) (v w : Word) → bytes_eq field (word_text v) ≡ true → Some v ≡ Some w → field ≡ word_text w
a_word field v w e f = let q : v ≡ w = cc in rw (← q) (same field (word_text v) e)

word_by : (field : List ℕ) (b : Bool) (v : Word) (rest : Option Word) (w : Word) → bytes_eq field (word_text v) ≡ b → (rest ≡ Some w → field ≡ word_text w) → cond b (Some v) rest ≡ Some w → field ≡ word_text w
word_by field true v rest w t more e = a_word field v w t e
word_by field false v rest w t more e = more e

no_word : (field : List ℕ) (w : Word) → None ≡ Some w → field ≡ word_text w
no_word field w e = absurd (cc)

pub word_ok : (field : List ℕ) (w : Word) → word_of field ≡ Some w → field ≡ word_text w
unfolding word_of
word_ok field w e = word_by field (bytes_eq field (word_text word.Fwd)) word.Fwd _ w refl (word_by field (bytes_eq field (word_text word.Packet)) word.Packet _ w refl (word_by field (bytes_eq field (word_text word.Xf)) word.Xf _ w refl (word_by field (bytes_eq field (word_text word.Watch)) word.Watch _ w refl (word_by field (bytes_eq field (word_text word.Tick)) word.Tick _ w refl (word_by field (bytes_eq field (word_text word.Query)) word.Query _ w refl (word_by field (bytes_eq field (word_text word.Rotate)) word.Rotate _ w refl (word_by field (bytes_eq field (word_text word.Archive)) word.Archive _ w refl (word_by field (bytes_eq field (word_text word.End)) word.End _ w refl (word_by field (bytes_eq field (word_text word.Router)) word.Router _ w refl (word_by field (bytes_eq field (word_text word.Link)) word.Link _ w refl (word_by field (bytes_eq field (word_text word.Begin)) word.Begin _ w refl (word_by field (bytes_eq field (word_text word.Pages)) word.Pages _ w refl (word_by field (bytes_eq field (word_text word.Shape)) word.Shape _ w refl (word_by field (bytes_eq field (word_text word.Trace)) word.Trace _ w refl (no_word field w))))))))))))))) e

-- each word is the one of its text
pub word_again : (w : Word) → word_of (word_text w) ≡ Some w
unfolding word_of
word_again word.Trace = refl
word_again word.Shape = refl
word_again word.Router = refl
word_again word.Link = refl
word_again word.Pages = refl
word_again word.Begin = refl
word_again word.Packet = refl
word_again word.Fwd = refl
word_again word.Xf = refl
word_again word.Rotate = refl
word_again word.Archive = refl
word_again word.Watch = refl
word_again word.Tick = refl
word_again word.Query = refl
word_again word.End = refl

-- the hex digits of a packet
abbrev pub IsPacket : List ℕ → List ℕ → Type 0
IsPacket digits bytes = IsHex digits bytes × (2 ≤ length digits) × (length digits ≤ most_digits)

bytes_decoded : (digits : List ℕ) (odd fit : Bool) (r : Result (List ℕ) FromHexError) → decode_of digits ≡ cond odd (Err OddLength) r → 2 ≤ length digits → length digits ≤ most_digits → FieldMeets (λ b. IsPacket digits b) (bytes_by (cond odd (Err OddLength) (cond fit r (Err InvalidStringLength))))
bytes_decoded digits true fit r e low high = refl
bytes_decoded digits false true (Ok b) e low high = (e, low, high)
bytes_decoded digits false true (Err w) e low high = refl
bytes_decoded digits false false r e low high = refl

bytes_sized : (digits : List ℕ) (b : Bool) → is_hex_size digits ≡ b → FieldMeets (λ b. IsPacket digits b) (cond b (bytes_by (decode_sized digits (length digits / 2))) (Err why.Field))
bytes_sized digits true e =
    let h = both_held _ _ e in
    let low : nat_le 2 (length digits) ≡ true = h.0 in
    let high : nat_le (length digits) most_digits ≡ true = h.1 in
    bytes_decoded digits (length digits % 2 == 1) (length digits / 2 == length digits / 2) (decode_pairs 0 digits) refl (grind (arith, nat_tests)) (grind (arith, nat_tests))
bytes_sized digits false e = refl

pub bytes_meets : (digits : List ℕ) → FieldMeets (λ b. IsPacket digits b) (bytes_in digits)
unfolding bytes_in
bytes_meets digits = bytes_sized digits _ refl

base_decoded : (field : List ℕ) (r : Result (List ℕ) FromHexError) → decode_sized field 8 ≡ r → FieldMeets (λ n. IsBase field n) (base_by r)
base_decoded field (Ok bytes) e = (bytes, e, refl)
base_decoded field (Err w) e = refl

pub base_meets : (field : List ℕ) → FieldMeets (λ n. IsBase field n) (base_of field)
unfolding base_of
base_meets field = base_decoded field _ refl

-- ---- the second line

-- the front and the back of a shape line
pub record Fronts (most : ℕ) (k n limit span : List ℕ) (r : Rules) : Type 0 where
  pub k_is : IsNumber k 1 K_MOST r.k
  pub n_is : IsNumber n N_LEAST most r.n
  pub limit_is : IsNumber limit 1 (2 ^ r.n) r.limit
  pub span_is : IsNumber span 1 MOST_TIME r.span

pub small : (n : ℕ) → n ≤ N_MOST → 2 ^ n < 2 ^ 64
small n le = let p : 2 ^ n ≤ 2 ^ N_MOST = pow_mono le in omega (arith, p)

-- no version has a greater N
pub most_few : (v : Version) → (form_of v).n_most ≤ N_MOST
most_few First = lit≤ tt
most_few Second = lit≤ tt
most_few Third = lit≤ tt

version_by : (field : List ℕ) (v : Version) (b : Bool) (rest : Result Version WhyRefused) → bytes_eq field (version_text v) ≡ b → FieldMeets (λ x. field ≡ version_text x) rest → FieldMeets (λ x. field ≡ version_text x) (cond b (Ok v) rest)
version_by field v true rest e more = same field (version_text v) e
version_by field v false rest e more = more

pub version_meets : (field : List ℕ) → FieldMeets (λ x. field ≡ version_text x) (version_in field)
unfolding version_in
version_meets field =
    version_by field First (bytes_eq field (version_text First)) _ refl
    (version_by field Second (bytes_eq field (version_text Second)) _ refl
    (version_by field Third (bytes_eq field (version_text Third)) (Err why.Field) refl refl))

front_meets : (most : ℕ) → most ≤ N_MOST → (k n limit span : List ℕ) → FieldMeets (λ r. Fronts most k n limit span r) (front_in most k n limit span)
unfolding front_in
front_meets most fits k n limit span =
    bound (λ v. IsNumber k 1 K_MOST v) (λ x. FieldMeets (λ r. Fronts most k n limit span r) x) (number k 1 K_MOST) _ (number_meets k 1 K_MOST (lit< tt)) (λ a p.
    bound (λ v. IsNumber n N_LEAST most v) (λ x. FieldMeets (λ r. Fronts most k n limit span r) x) (number n N_LEAST most) _ (number_meets n N_LEAST most (omega (arith, fits))) (λ b q.
    bound (λ v. IsNumber limit 1 (2 ^ b) v) (λ x. FieldMeets (λ r. Fronts most k n limit span r) x) (number limit 1 (2 ^ b)) _ (number_meets limit 1 (2 ^ b) (small b (let h = q.high in omega (arith, h, fits)))) (λ c s.
    bound (λ v. IsNumber span 1 MOST_TIME v) (λ x. FieldMeets (λ r. Fronts most k n limit span r) x) (number span 1 MOST_TIME) _ (number_meets span 1 MOST_TIME (lit< tt)) (λ d t.
    record { k_is = p; n_is = q; limit_is = s; span_is = t }) refl) refl) refl) refl

spelled_shape : (form : Form) (k n limit span keep age width base : List ℕ) (r : Rules) → Fronts form.n_most k n limit span r → IsNumber keep 1 32 r.keep → IsNumber age 1 MOST_TIME r.age → IsNumber width 0 MOST_TIME r.width → IsBase base r.base → Spells form (said.Shape r) (codes "shape" ∷ k ∷ n ∷ limit ∷ span ∷ keep ∷ age ∷ width ∷ base ∷ [])
spelled_shape form k n limit span keep age width base r f p q w b = (
  base,
  ap (λ z. codes "shape" ∷ z ∷ n ∷ limit ∷ span ∷ keep ∷ age ∷ width ∷ base ∷ []) f.k_is.is
      ∙ ap (λ z. codes "shape" ∷ decimal r.k ∷ z ∷ limit ∷ span ∷ keep ∷ age ∷ width ∷ base ∷ []) f.n_is.is
      ∙ ap (λ z. codes "shape" ∷ decimal r.k ∷ decimal r.n ∷ z ∷ span ∷ keep ∷ age ∷ width ∷ base ∷ []) f.limit_is.is
      ∙ ap (λ z. codes "shape" ∷ decimal r.k ∷ decimal r.n ∷ decimal r.limit ∷ z ∷ keep ∷ age ∷ width ∷ base ∷ []) f.span_is.is
      ∙ ap (λ z. codes "shape" ∷ decimal r.k ∷ decimal r.n ∷ decimal r.limit ∷ decimal r.span ∷ z ∷ age ∷ width ∷ base ∷ []) p.is
      ∙ ap (λ z. codes "shape" ∷ decimal r.k ∷ decimal r.n ∷ decimal r.limit ∷ decimal r.span ∷ decimal r.keep ∷ z ∷ width ∷ base ∷ []) q.is
      ∙ ap (λ z. codes "shape" ∷ decimal r.k ∷ decimal r.n ∷ decimal r.limit ∷ decimal r.span ∷ decimal r.keep ∷ decimal r.age ∷ z ∷ base ∷ []) w.is,
  record { k = (f.k_is.low, f.k_is.high); n = (f.n_is.low, f.n_is.high); limit = (f.limit_is.low, f.limit_is.high); span = (f.span_is.low, f.span_is.high) },
  record { keep = (p.low, p.high); age = (q.low, q.high); width = w.high },
  b,
)

-- the fields of a second line with these first five
abbrev SpelledBy : (form : Form) (k n limit span keep age width base : List ℕ) → Result Rules WhyRefused → Type 0
SpelledBy form k n limit span keep age width base x = FieldMeets (λ r. Spells form (said.Shape r) (codes "shape" ∷ k ∷ n ∷ limit ∷ span ∷ keep ∷ age ∷ width ∷ base ∷ [])) x

times_meet : (form : Form) (k n limit span keep age width base : List ℕ) (rules : Rules) → Fronts form.n_most k n limit span rules → SpelledBy form k n limit span keep age width base (times_in rules keep age width base)
unfolding times_in
times_meet form k n limit span keep age width base rules f =
    bound (λ v. IsNumber keep 1 32 v) (λ x. SpelledBy form k n limit span keep age width base x) (number keep 1 32) _ (number_meets keep 1 32 (lit< tt)) (λ a p.
    bound (λ v. IsNumber age 1 MOST_TIME v) (λ x. SpelledBy form k n limit span keep age width base x) (number age 1 MOST_TIME) _ (number_meets age 1 MOST_TIME (lit< tt)) (λ b q.
    bound (λ v. IsNumber width 0 MOST_TIME v) (λ x. SpelledBy form k n limit span keep age width base x) (number width 0 MOST_TIME) _ (number_meets width 0 MOST_TIME (lit< tt)) (λ c w.
    bound (λ v. IsBase base v) (λ x. SpelledBy form k n limit span keep age width base x) (base_of base) _ (base_meets base) (λ d s.
    spelled_shape form k n limit span keep age width base (record rules { keep = a; age = b; width = c; base = d }) (record { k_is = f.k_is; n_is = f.n_is; limit_is = f.limit_is; span_is = f.span_is }) p q w s) refl) refl) refl) refl

abbrev pub ShapeMeets : Form → List (List ℕ) → Result Rules WhyRefused → Type 0
ShapeMeets form rest (Ok r) = Spells form (said.Shape r) (codes "shape" ∷ rest)
ShapeMeets form rest (Err rule) = ((rule ≡ why.Fields) × (length (codes "shape" ∷ rest) ≢ 9)) ⊎ ((rule ≡ why.Field) × (length (codes "shape" ∷ rest) ≡ 9))

as_shape : (form : Form) (k n limit span keep age width base : List ℕ) (x : Result Rules WhyRefused) → SpelledBy form k n limit span keep age width base x → ShapeMeets form (k ∷ n ∷ limit ∷ span ∷ keep ∷ age ∷ width ∷ base ∷ []) x
as_shape form k n limit span keep age width base (Ok r) h = h
as_shape form k n limit span keep age width base (Err rule) h = inr (h, refl)

longer : (xs : List (List ℕ)) → (suc (suc (suc (suc (suc (length xs))))) == 4) ≡ false
longer xs = grind (arith, nat_tests)

too_long_shape : (form : Form) (rest : List (List ℕ)) (b : Bool) (x : Result Rules WhyRefused) → b ≡ false → length (codes "shape" ∷ rest) ≢ 9 → ShapeMeets form rest (cond b x (Err why.Fields))
too_long_shape form rest true x e n = absurd (cc)
too_long_shape form rest false x e n = inl (refl, n)

pub shape_meets : (form : Form) → form.n_most ≤ N_MOST → (rest : List (List ℕ)) → ShapeMeets form rest (shape_in form.n_most rest)
unfolding shape_in back_in
shape_meets form fits [] = inl (refl, λ q. omega arith)
shape_meets form fits (a ∷ []) = inl (refl, λ q. omega arith)
shape_meets form fits (a ∷ b ∷ []) = inl (refl, λ q. omega arith)
shape_meets form fits (a ∷ b ∷ c ∷ []) = inl (refl, λ q. omega arith)
shape_meets form fits (a ∷ b ∷ c ∷ d ∷ []) = inl (refl, λ q. omega arith)
shape_meets form fits (a ∷ b ∷ c ∷ d ∷ k ∷ []) = inl (refl, λ q. omega arith)
shape_meets form fits (a ∷ b ∷ c ∷ d ∷ k ∷ l ∷ []) = inl (refl, λ q. omega arith)
shape_meets form fits (a ∷ b ∷ c ∷ d ∷ k ∷ l ∷ m ∷ []) = inl (refl, λ q. omega arith)
shape_meets form fits (a ∷ b ∷ c ∷ d ∷ k ∷ l ∷ m ∷ n ∷ []) = bound (λ r. Fronts form.n_most a b c d r) (λ x. ShapeMeets form (a ∷ b ∷ c ∷ d ∷ k ∷ l ∷ m ∷ n ∷ []) x) (front_in form.n_most a b c d) (λ rules. times_in rules k l m n) (front_meets form.n_most fits a b c d) (λ rules f. as_shape form a b c d k l m n _ (times_meet form a b c d k l m n rules f)) (inr (refl, refl))
shape_meets form fits (a ∷ b ∷ c ∷ d ∷ k ∷ l ∷ m ∷ n ∷ x ∷ xs) = too_long_shape form (a ∷ b ∷ c ∷ d ∷ k ∷ l ∷ m ∷ n ∷ x ∷ xs) (length (k ∷ l ∷ m ∷ n ∷ x ∷ xs) == 4) _ (longer xs) (λ q. omega arith)
