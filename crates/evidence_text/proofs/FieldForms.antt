-- What a field that is read looks like.
use Rattle.std.proofs.Common.{ℕ, zero, suc, ◌≡◌, ◌*◌, ◌-◌, ◌^◌, ◌≤◌, ◌<◌, List, [], ◌∷◌, ◌++◌, length, take, drop, refl, ap, arith, sym, ◌∙◌, subst, Result, Ok, Err, Bool, true, false, cond, nat_lt, lit<, ◌==◌}
use Rattle.std.proofs.lemmas.Bool.{eqb-true}
use Rattle.std.proofs.lemmas.Bool.Decides.{nat_tests}
use Rattle.std.proofs.lemmas.List.{length-drop, take-append-drop}
use Rattle.std.proofs.lemmas.List.Elements.{All-cons, All-nil}
use Rattle.std.proofs.lemmas.Nat.{be_bytes_8}
use Rattle.std.specs.Fmt.{decimal}
use Rattle.std.specs.Int.{w64, from_be_bytes, to_be_bytes}
use Rattle.std.specs.List.{All}
use Rattle.std.specs.Prelude.{codes}
use Rattle.std.specs.Str.{bytes_eq}
use Rattle.std.specs.declared.option.Option.{Option}
use Rattle.std.specs.declared.option.Option.TheVariants.{None, Some}
use Rattle.hex.specs.Hex.{IsBytes, encode_lower}
use Rattle.line_text.proofs.DecimalFields.{number_in_ok}
use Rattle.line_text.proofs.Fields.{same}
use Rattle.line_text.specs.Answers.{◌>>=◌}
use Rattle.spie_base.specs.Decimal.{number_in}
use Rattle.spie_base.specs.declared.types.Sig.{Sig}
use Rattle.packet_signature.specs.declared.rows.Kind.{Kind}
use Rattle.packet_signature.specs.declared.rows.Kind.TheVariants as kind
use Rattle.packet_signature.specs.declared.rows.RowData.{RowData}
use Rattle.packet_signature.specs.declared.rows.RowData.TheVariants.{Indirect}
use Rattle.reverse_flood.specs.declared.graphs.Node.{Node}
use Rattle.evidence_text.proofs.HexFields.{lower_found}
use Rattle.evidence_text.specs.Reading.{number, number_by, below, lower_in, sig_by, sig_in, word64_by, word64_in, some_words, words_in, kind_in, direct_by, direct_in, indirect_in, data_in, place_in, flag_in, pair_in}
use Rattle.evidence_text.specs.Spelling.{sig_text, word64_text, words_text, kind_word, data_word, data_text, from_text, flag_text, IsSig, IsData, IsPlace}
use Rattle.evidence_text.specs.declared.refused.CheckWhy.{CheckWhy}
use Rattle.evidence_text.specs.declared.refused.CheckWhy.TheVariants as why

-- what was read is so, and only a field is refused
abbrev pub FieldMeets : {A : Type 0} → (A → Type 0) → Result A CheckWhy → Type 0
FieldMeets P (Ok x) = P x
FieldMeets P (Err y) = y ≡ why.Field

-- what is so of the second step and of a refused field is so of both steps
pub bound : {A B : Type 0} (P : A → Type 0) (W : Result B CheckWhy → Type 0) (r : Result A CheckWhy) (f : A → Result B CheckWhy) → FieldMeets P r → ((x : A) → P x → W (f x)) → W (Err why.Field) → W (r >>= f)
bound P W (Ok x) f h more field = more x h
bound P W (Err y) f h more field = let Q : CheckWhy → Type 0 = λ v. W (Err v) in subst Q (sym h) field

-- ---- numbers

-- a field that is a number from least to most
pub record IsNumber (field : List ℕ) (least most n : ℕ) : Type 0 where
  pub is : field ≡ decimal n
  pub low : least ≤ n
  pub high : n ≤ most

least_by : (field : List ℕ) (least most n : ℕ) (b : Bool) → nat_lt n least ≡ b → field ≡ decimal n → n ≤ most → FieldMeets (λ n. IsNumber field least most n) (cond b (Err why.Field) (Ok n))
least_by field least most n true low is high = refl
least_by field least most n false low is high = record { is = is; low = grind (arith, nat_tests); high = high }

number_found : (field : List ℕ) (least most : ℕ) (found : Option ℕ) → most < 2 ^ 64 → number_in field most ≡ found → FieldMeets (λ n. IsNumber field least most n) (number_by found least)
number_found field least most None small e = refl
number_found field least most (Some n) small e = let d = number_in_ok field most n small e in least_by field least most n _ refl d.0 d.1

pub number_meets : (field : List ℕ) (least most : ℕ) → most < 2 ^ 64 → FieldMeets (λ n. IsNumber field least most n) (number field least most)
unfolding number
number_meets field least most small = number_found field least most _ small refl

-- a number below a bound
pub record IsBelow (field : List ℕ) (most n : ℕ) : Type 0 where
  pub is : field ≡ decimal n
  pub under : n < most

below_by : (field : List ℕ) (most n : ℕ) (b : Bool) → nat_lt n most ≡ b → field ≡ decimal n → FieldMeets (λ n. IsBelow field most n) (cond b (Ok n) (Err why.Field))
below_by field most n true t e = record { is = e; under = grind (arith, nat_tests) }
below_by field most n false t e = refl

pub below_meets : (field : List ℕ) (most : ℕ) → FieldMeets (λ n. IsBelow field most n) (below field most)
unfolding below
below_meets field most = bound (λ n. IsNumber field 0 4294967295 n) (λ r. FieldMeets (λ n. IsBelow field most n) r) (number field 0 4294967295) _ (number_meets field 0 4294967295 (lit< tt)) (λ n h. below_by field most n _ refl h.is) refl

-- ---- hex digits

pub record IsSigField (field : List ℕ) (sig : Sig) : Type 0 where
  pub is : field ≡ sig_text sig
  pub fits : IsSig sig

sig_found : (field : List ℕ) (r : Option (List ℕ)) → lower_in 28 field ≡ r → FieldMeets (λ sig. IsSigField field sig) (sig_by r)
sig_found field None e = refl
sig_found field (Some bytes) e = let h = lower_found 28 field bytes e in record { is = h.is; fits = (h.count, h.each) }

pub sig_meets : (field : List ℕ) → FieldMeets (λ sig. IsSigField field sig) (sig_in field)
unfolding sig_in
sig_meets field = sig_found field _ refl

pub record IsWord64 (field : List ℕ) (n : ℕ) : Type 0 where
  pub is : field ≡ word64_text n
  pub fits : n < 2 ^ 64

word_small : (bytes : List ℕ) → IsBytes bytes → from_be_bytes w64 bytes < 2 ^ 64
word_small bytes h = let a = h 0 in let b = h 1 in let c = h 2 in let d = h 3 in let e = h 4 in let f = h 5 in let g = h 6 in let i = h 7 in omega (arith, a, b, c, d, e, f, g, i)

word64_found : (field : List ℕ) (r : Option (List ℕ)) → lower_in 8 field ≡ r → FieldMeets (λ n. IsWord64 field n) (word64_by r)
word64_found field None e = refl
word64_found field (Some bytes) e =
    let h = lower_found 8 field bytes e in
    let back : to_be_bytes w64 (from_be_bytes w64 bytes) ≡ bytes = be_bytes_8 bytes _ h.count h.each refl in
    record { is = h.is ∙ ap encode_lower (sym back); fits = word_small bytes h.each }

pub word64_meets : (field : List ℕ) → FieldMeets (λ n. IsWord64 field n) (word64_in field)
unfolding word64_in
word64_meets field = word64_found field _ refl

-- ---- the words of a page

pub record IsWords (field : List ℕ) (count : ℕ) (words : List ℕ) : Type 0 where
  pub is : field ≡ words_text words
  pub long : length words ≡ count
  pub each : All (λ w. w < 2 ^ 64) words

no_items : (field : List ℕ) → length field ≡ 0 → field ≡ []
no_items [] e = refl
no_items (x ∷ xs) e = absurd (omega (arith, e))

one_more : (field : List ℕ) (count w : ℕ) (more : List ℕ) → IsWord64 (take 16 field) w → IsWords (drop 16 field) count more → IsWords field (suc count) (w ∷ more)
one_more field count w more h m = record {
  is = sym (take-append-drop 16 field) ∙ ap (λ z. z ++ drop 16 field) h.is ∙ ap (λ z. word64_text w ++ z) m.is;
  long = ap suc m.long;
  each = All-cons (λ w. w < 2 ^ 64) w more h.fits m.each;
}

some_meets : (count : ℕ) (field : List ℕ) → length field ≡ 16 * count → FieldMeets (λ ws. IsWords field count ws) (some_words count field)
unfolding some_words
some_meets zero field long = record { is = no_items field (omega (arith, long)); long = refl; each = All-nil _ }
some_meets (suc count) field long =
    let rest : length (drop 16 field) ≡ 16 * count = length-drop 16 field ∙ omega (arith, long) in
    bound (λ w. IsWord64 (take 16 field) w) (λ r. FieldMeets (λ ws. IsWords field (suc count) ws) r) (word64_in (take 16 field)) (λ w. some_words count (drop 16 field) >>= (λ more. Ok (w ∷ more))) (word64_meets (take 16 field)) (λ w h.
    bound (λ more. IsWords (drop 16 field) count more) (λ r. FieldMeets (λ ws. IsWords field (suc count) ws) r) (some_words count (drop 16 field)) (λ more. Ok (w ∷ more)) (some_meets count (drop 16 field) rest) (λ more m. one_more field count w more h m) refl) refl

words_by : (n : ℕ) (field : List ℕ) (b : Bool) → (length field == 16 * 2 ^ (n - 6)) ≡ b → FieldMeets (λ ws. IsWords field (2 ^ (n - 6)) ws) (cond b (some_words (2 ^ (n - 6)) field) (Err why.Field))
words_by n field true e = some_meets (2 ^ (n - 6)) field (eqb-true (length field) (16 * 2 ^ (n - 6)) e)
words_by n field false e = refl

pub words_meet : (n : ℕ) (field : List ℕ) → FieldMeets (λ ws. IsWords field (2 ^ (n - 6)) ws) (words_in n field)
unfolding words_in
words_meet n field = words_by n field _ refl

-- ---- the parts of a row

kind_step : (field : List ℕ) (k : Kind) (b : Bool) (rest : Result Kind CheckWhy) → bytes_eq field (kind_word k) ≡ b → FieldMeets (λ k. field ≡ kind_word k) rest → FieldMeets (λ k. field ≡ kind_word k) (cond b (Ok k) rest)
kind_step field k true rest e h = same field (kind_word k) e
kind_step field k false rest e h = h

pub kind_meets : (field : List ℕ) → FieldMeets (λ k. field ≡ kind_word k) (kind_in field)
unfolding kind_in
kind_meets field = kind_step field kind.Frag _ _ refl (kind_step field kind.Nat _ _ refl (kind_step field kind.Icmp _ _ refl (kind_step field kind.Ipip _ _ refl (kind_step field kind.Decap _ _ refl refl))))

pub record IsOld (k : Kind) (w field : List ℕ) (old : RowData) : Type 0 where
  pub word : w ≡ data_word old
  pub is : field ≡ data_text old
  pub fits : IsData k old

direct_found : (w field : List ℕ) (r : Option (List ℕ)) → w ≡ codes "direct" → lower_in 4 field ≡ r → FieldMeets (λ old. IsOld kind.Frag w field old) (direct_by r)
direct_found w field None is e = refl
direct_found w field (Some bytes) is e = let h = lower_found 4 field bytes e in record { word = is; is = h.is; fits = (h.count, h.each) }

direct_meets : (k : Kind) (w field : List ℕ) → w ≡ codes "direct" → FieldMeets (λ old. IsOld k w field old) (direct_in k field)
unfolding direct_in
direct_meets kind.Frag w field is = direct_found w field _ is refl
direct_meets kind.Nat w field is = refl
direct_meets kind.Icmp w field is = refl
direct_meets kind.Ipip w field is = refl
direct_meets kind.Decap w field is = refl

any_kind : (k : Kind) (old : Sig) → IsSig old → IsData k (Indirect old)
any_kind kind.Frag old h = h
any_kind kind.Nat old h = h
any_kind kind.Icmp old h = h
any_kind kind.Ipip old h = h
any_kind kind.Decap old h = h

indirect_meets : (k : Kind) (w field : List ℕ) → w ≡ codes "indirect" → FieldMeets (λ old. IsOld k w field old) (indirect_in field)
unfolding indirect_in
indirect_meets k w field is = bound (λ sig. IsSigField field sig) (λ r. FieldMeets (λ old. IsOld k w field old) r) (sig_in field) (λ old. Ok (Indirect old)) (sig_meets field) (λ sig h. record { word = is; is = h.is; fits = any_kind k sig h.fits }) refl

other_data : (k : Kind) (w field : List ℕ) (b : Bool) → bytes_eq w (codes "indirect") ≡ b → FieldMeets (λ old. IsOld k w field old) (cond b (indirect_in field) (Err why.Field))
other_data k w field true e = indirect_meets k w field (same w (codes "indirect") e)
other_data k w field false e = refl

data_by : (k : Kind) (w field : List ℕ) (b : Bool) → bytes_eq w (codes "direct") ≡ b → FieldMeets (λ old. IsOld k w field old) (cond b (direct_in k field) (cond (bytes_eq w (codes "indirect")) (indirect_in field) (Err why.Field)))
data_by k w field true e = direct_meets k w field (same w (codes "direct") e)
data_by k w field false e = other_data k w field _ refl

pub data_meets : (k : Kind) (w field : List ℕ) → FieldMeets (λ old. IsOld k w field old) (data_in k w field)
unfolding data_in
data_meets k w field = data_by k w field _ refl

-- ---- the other fields

pub record IsFrom (field : List ℕ) (place : Option ℕ) : Type 0 where
  pub is : field ≡ from_text place
  pub fits : IsPlace place

place_by : (field : List ℕ) (b : Bool) → bytes_eq field (codes "-") ≡ b → FieldMeets (λ place. IsFrom field place) (cond b (Ok None) (number field 0 4294967295 >>= (λ n. Ok (Some n))))
place_by field true e = record { is = same field (codes "-") e; fits = tt }
place_by field false e = bound (λ n. IsNumber field 0 4294967295 n) (λ r. FieldMeets (λ place. IsFrom field place) r) (number field 0 4294967295) (λ n. Ok (Some n)) (number_meets field 0 4294967295 (lit< tt)) (λ n h. record { is = h.is; fits = let high = h.high in omega (arith, high) }) refl

pub place_meets : (field : List ℕ) → FieldMeets (λ place. IsFrom field place) (place_in field)
unfolding place_in
place_meets field = place_by field _ refl

one_by : (field : List ℕ) (b : Bool) → bytes_eq field (codes "1") ≡ b → FieldMeets (λ flag. field ≡ flag_text flag) (cond b (Ok true) (Err why.Field))
one_by field true e = same field (codes "1") e
one_by field false e = refl

flag_by : (field : List ℕ) (b : Bool) → bytes_eq field (codes "0") ≡ b → FieldMeets (λ flag. field ≡ flag_text flag) (cond b (Ok false) (cond (bytes_eq field (codes "1")) (Ok true) (Err why.Field)))
flag_by field true e = same field (codes "0") e
flag_by field false e = one_by field _ refl

pub flag_meets : (field : List ℕ) → FieldMeets (λ flag. field ≡ flag_text flag) (flag_in field)
unfolding flag_in
flag_meets field = flag_by field _ refl

pub record IsPairOf (count : ℕ) (router sig : List ℕ) (n : Node) : Type 0 where
  pub router_is : router ≡ decimal n.router.number
  pub sig_is : sig ≡ sig_text n.sig
  pub known : n.router.number < count
  pub fits : IsSig n.sig

pub pair_meets : (count : ℕ) (router sig : List ℕ) → FieldMeets (λ n. IsPairOf count router sig n) (pair_in count router sig)
unfolding pair_in
pair_meets count router sig =
    bound (λ r. IsBelow router count r) (λ r. FieldMeets (λ n. IsPairOf count router sig n) r) (below router count) _ (below_meets router count) (λ r h.
    bound (λ s. IsSigField sig s) (λ r. FieldMeets (λ n. IsPairOf count router sig n) r) (sig_in sig) _ (sig_meets sig) (λ s g.
    record { router_is = h.is; sig_is = g.is; known = h.under; fits = g.fits }) refl) refl
