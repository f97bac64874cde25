-- A field that is spelled so is read.
use Rattle.std.proofs.Common.{ℕ, zero, suc, ◌≡◌, ◌*◌, ◌-◌, ◌^◌, ◌≤◌, ◌<◌, List, [], ◌∷◌, ◌++◌, length, take, drop, refl, ap, arith, sym, ◌∙◌, subst, Ok, Err, Bool, true, false, cond, nat_lt, lit<, ◌==◌}
use Rattle.std.proofs.lemmas.Bool.Decides.{nat_tests}
use Rattle.std.proofs.lemmas.List.{length-append}
use Rattle.std.proofs.lemmas.List.Elements.{All-head, All-tail}
use Rattle.std.proofs.lemmas.Nat.{from_be_bytes-to_be_bytes_8}
use Rattle.std.proofs.Math.Seq.{drop-append_seam, take-append_seam}
use Rattle.std.specs.Fmt.{decimal}
use Rattle.std.specs.Int.{w64, to_be_bytes}
use Rattle.std.specs.List.{All}
use Rattle.std.specs.Prelude.{codes}
use Rattle.std.specs.Str.{bytes_eq}
use Rattle.std.specs.declared.option.Option.{Option}
use Rattle.std.specs.declared.option.Option.TheVariants.{None, Some}
use Rattle.hex.proofs.HexLemmas.{length-encode_with}
use Rattle.hex.specs.Hex.{IsBytes, encode_lower, lower_digits}
use Rattle.line_text.proofs.Fields.{same}
use Rattle.line_text.specs.Answers.{◌>>=◌}
use Rattle.spie_base.proofs.Bounds.{within}
use Rattle.spie_base.proofs.DecimalText.{number_in_some}
use Rattle.spie_base.specs.Decimal.{number_in}
use Rattle.spie_base.specs.declared.types.Sig.{Sig}
use Rattle.packet_signature.specs.declared.rows.Kind.{Kind}
use Rattle.packet_signature.specs.declared.rows.Kind.TheVariants as kind
use Rattle.packet_signature.specs.declared.rows.RowData.{RowData}
use Rattle.packet_signature.specs.declared.rows.RowData.TheVariants.{Direct, Indirect}
use Rattle.reverse_flood.specs.declared.graphs.Node.{Node}
use Rattle.evidence_text.proofs.HexFields.{lower_again}
use Rattle.evidence_text.specs.Reading.{number, number_by, below, sig_in, word64_in, some_words, words_in, kind_in, direct_in, indirect_in, data_in, place_in, flag_in, pair_in}
use Rattle.evidence_text.specs.Spelling.{sig_text, word64_text, words_text, kind_word, data_word, data_text, from_text, flag_text, IsSig, IsData, IsPlace}
use Rattle.evidence_text.specs.declared.refused.CheckWhy.TheVariants as why

number_again_by : (found : Option ℕ) (least n : ℕ) → found ≡ Some n → nat_lt n least ≡ false → number_by found least ≡ Ok n
number_again_by found least n e t = rw (e, t) refl

pub number_again : (least most n : ℕ) → most < 2 ^ 64 → least ≤ n → n ≤ most → number (decimal n) least most ≡ Ok n
unfolding number
number_again least most n small low high =
    let t : nat_lt n least ≡ false = within n least low in
    number_again_by _ least n (number_in_some (decimal n) most n (omega (arith, small, high)) high refl) t

under_again : (n most : ℕ) → nat_lt n most ≡ true → cond (nat_lt n most) (Ok n) (Err why.Field) ≡ Ok n
under_again n most t = rw t refl

pub below_again : (most n : ℕ) → most ≤ 2 ^ 32 → n < most → below (decimal n) most ≡ Ok n
unfolding below
below_again most n small h =
    let t : nat_lt n most ≡ true = grind (arith, nat_tests) in
    let r : number (decimal n) 0 4294967295 ≡ Ok n = number_again 0 4294967295 n (lit< tt) (omega arith) (omega (arith, small, h)) in
    rw r (under_again n most t)

pub sig_again : (sig : Sig) → IsSig sig → sig_in (sig_text sig) ≡ Ok sig
unfolding sig_in
sig_again sig h = rw (lower_again 28 (sig_text sig) sig.bytes (record { is = refl; count = h.0; each = h.1 })) refl

to_bytes : (n : ℕ) → IsBytes (to_be_bytes w64 n)
to_bytes n zero = omega arith
to_bytes n (suc zero) = omega arith
to_bytes n (suc (suc zero)) = omega arith
to_bytes n (suc (suc (suc zero))) = omega arith
to_bytes n (suc (suc (suc (suc zero)))) = omega arith
to_bytes n (suc (suc (suc (suc (suc zero))))) = omega arith
to_bytes n (suc (suc (suc (suc (suc (suc zero)))))) = omega arith
to_bytes n (suc (suc (suc (suc (suc (suc (suc zero))))))) = omega arith
to_bytes n (suc (suc (suc (suc (suc (suc (suc (suc i)))))))) = omega arith

pub word64_again : (n : ℕ) → n < 2 ^ 64 → word64_in (word64_text n) ≡ Ok n
unfolding word64_in
word64_again n small = rw (lower_again 8 (word64_text n) (to_be_bytes w64 n) (record { is = refl; count = refl; each = to_bytes n })) (ap (λ v. Ok v) (from_be_bytes-to_be_bytes_8 n small))

pub word64_long : (n : ℕ) → length (word64_text n) ≡ 16
word64_long n = length-encode_with lower_digits (to_be_bytes w64 n)

first_word : (w : ℕ) (more : List ℕ) → take 16 (word64_text w ++ more) ≡ word64_text w
first_word w more = let P : ℕ → Type 0 = λ k. take k (word64_text w ++ more) ≡ word64_text w in subst P (word64_long w) (take-append_seam (word64_text w) more)

other_words : (w : ℕ) (more : List ℕ) → drop 16 (word64_text w ++ more) ≡ more
other_words w more = let P : ℕ → Type 0 = λ k. drop k (word64_text w ++ more) ≡ more in subst P (word64_long w) (drop-append_seam (word64_text w) more)

some_again : (words : List ℕ) → All (λ w. w < 2 ^ 64) words → some_words (length words) (words_text words) ≡ Ok words
unfolding some_words
some_again [] h = refl
some_again (w ∷ more) h =
    let P : ℕ → Type 0 = λ w. w < 2 ^ 64 in
    rw (first_word w (words_text more), other_words w (words_text more), word64_again w (All-head P w more h), some_again more (All-tail P w more h)) refl

words_long : (words : List ℕ) → length (words_text words) ≡ 16 * length words
words_long [] = refl
words_long (w ∷ more) = length-append (word64_text w) (words_text more) ∙ (let a = word64_long w in let b = words_long more in omega (arith, a, b))

itself : (n : ℕ) → (n == n) ≡ true
itself n = grind (arith, nat_tests)

pub words_again : (n : ℕ) (words : List ℕ) → length words ≡ 2 ^ (n - 6) → All (λ w. w < 2 ^ 64) words → words_in n (words_text words) ≡ Ok words
unfolding words_in
words_again n words long each =
    let t : (length (words_text words) == 16 * 2 ^ (n - 6)) ≡ true = rw (words_long words, long) (itself (16 * 2 ^ (n - 6))) in
    rw t (rw (← long) (some_again words each))

pub kind_again : (k : Kind) → kind_in (kind_word k) ≡ Ok k
unfolding kind_in
kind_again kind.Frag = refl
kind_again kind.Nat = refl
kind_again kind.Icmp = refl
kind_again kind.Ipip = refl
kind_again kind.Decap = refl

indirect_again : (old : Sig) → IsSig old → indirect_in (sig_text old) ≡ Ok (Indirect old)
unfolding indirect_in
indirect_again old h = rw (sig_again old h) refl

direct_again : (bytes : List ℕ) → length bytes ≡ 4 → IsBytes bytes → direct_in kind.Frag (encode_lower bytes) ≡ Ok (Direct bytes)
unfolding direct_in
direct_again bytes long each = rw (lower_again 4 (encode_lower bytes) bytes (record { is = refl; count = long; each = each })) refl

pub data_again : (k : Kind) (old : RowData) → IsData k old → data_in k (data_word old) (data_text old) ≡ Ok old
unfolding data_in
data_again kind.Frag (Direct bytes) h = direct_again bytes h.0 h.1
data_again kind.Frag (Indirect old) h = indirect_again old h
data_again kind.Nat (Indirect old) h = indirect_again old h
data_again kind.Icmp (Indirect old) h = indirect_again old h
data_again kind.Ipip (Indirect old) h = indirect_again old h
data_again kind.Decap (Indirect old) h = indirect_again old h
data_again kind.Nat (Direct bytes) h = absurd h
data_again kind.Icmp (Direct bytes) h = absurd h
data_again kind.Ipip (Direct bytes) h = absurd h
data_again kind.Decap (Direct bytes) h = absurd h

-- a dash is no number's text
dash : number (codes "-") 0 4294967295 ≡ Err why.Field
unfolding number number_in
dash = refl

no_dash : (n : ℕ) → n < 2 ^ 32 → codes "-" ≡ decimal n → ⊥
no_dash n small e =
    let r : number (decimal n) 0 4294967295 ≡ Ok n = number_again 0 4294967295 n (lit< tt) (omega arith) (omega (arith, small)) in
    let l : number (decimal n) 0 4294967295 ≡ Err why.Field = rw (← e) dash in
    let q : Err why.Field ≡ Ok n = sym l ∙ r in
    absurd (cc)

place_again_by : (n : ℕ) (b : Bool) → bytes_eq (decimal n) (codes "-") ≡ b → n < 2 ^ 32 → cond b (Ok None) (number (decimal n) 0 4294967295 >>= (λ n. Ok (Some n))) ≡ Ok (Some n)
place_again_by n true e small = absurd (no_dash n small (sym (same (decimal n) (codes "-") e)))
place_again_by n false e small = let r : number (decimal n) 0 4294967295 ≡ Ok n = number_again 0 4294967295 n (lit< tt) (omega arith) (omega (arith, small)) in rw r refl

pub place_again : (place : Option ℕ) → IsPlace place → place_in (from_text place) ≡ Ok place
unfolding place_in
place_again None h = refl
place_again (Some n) h = place_again_by n _ refl h

pub flag_again : (flag : Bool) → flag_in (flag_text flag) ≡ Ok flag
unfolding flag_in
flag_again true = refl
flag_again false = refl

pub pair_again : (count : ℕ) (n : Node) → count ≤ 2 ^ 32 → n.router.number < count → IsSig n.sig → pair_in count (decimal n.router.number) (sig_text n.sig) ≡ Ok n
unfolding pair_in
pair_again count n few known fits = rw (below_again count n.router.number few known, sig_again n.sig fits) refl
