-- What is spelled so is read.
use Rattle.std.proofs.Common.{ℕ, ◌≡◌, ◌/◌, ◌%◌, ◌^◌, ◌≤◌, ◌<◌, List, [], ◌∷◌, length, refl, arith, sym, subst, Result, Ok, Err, Bool, true, false, cond, ◌==◌, ◌&&◌, nat_lt, nat_le, lit<}
use Rattle.std.proofs.lemmas.Bool.Decides.{nat_tests}
use Rattle.std.specs.Fmt.{decimal}
use Rattle.std.specs.Int.{w64, from_be_bytes}
use Rattle.std.specs.declared.option.Option.{Option}
use Rattle.std.specs.declared.option.Option.TheVariants.{Some}
use Rattle.hex.specs.Hex.{decode_pairs}
use Rattle.hex.specs.declared.error.FromHexError.{FromHexError}
use Rattle.hex.specs.declared.error.FromHexError.TheVariants.{OddLength, InvalidStringLength}
use Rattle.spie_base.specs.declared.types.Rules.{Rules}
use Rattle.spie_base.proofs.Booleans.{both_hold}
use Rattle.spie_base.proofs.Bounds.{within}
use Rattle.spie_base.specs.declared.types.TheConstants.{K_MOST, N_LEAST, N_MOST}
use Rattle.trace_format.proofs.FieldForms.{small, most_few}
use Rattle.trace_format.specs.Versions.{version_text, version_in}
use Rattle.trace_format.specs.declared.version.Version.{Version}
use Rattle.trace_format.specs.declared.version.Version.TheVariants.{First, Second, Third}
use Rattle.std.specs.Prelude.{codes}
use Rattle.spie_base.proofs.DecimalText.{number_in_some}
use Rattle.trace_format.specs.Before.{Known, form_in}
use Rattle.trace_format.specs.Reading.{link_by, plain_link, delayed_link, delayed_fields, pages_line, pages_fields, judged, number, number_by, name_in, kind_in, bytes_in, bytes_by, base_of, base_by, front_in, times_in, back_in, shape_in, grown, accept, read_line, line_by, by_fields, word_of, version_fields, version_line, shape_line, router_fields, router_line, link_fields, link_line, begin_line, packet_line, fwd_fields, fwd_line, xf_fields, xf_line, rotate_line, archive_line, watch_fields, watch_line, tick_line, query_fields, query_line, end_line}
use Rattle.trace_format.specs.Spelling.{SpellsLink, Spells, IsName, IsHex, IsBase, IsFront, IsBack, kind_word}
use Rattle.line_text.specs.Text.{fields}
use Rattle.trace_format.specs.Words.{word_said, may_come}
use Rattle.trace_format.specs.Said.{Said}
use Rattle.trace_format.specs.Said as said
use Rattle.packet_signature.specs.declared.rows.Kind.{Kind}
use Rattle.packet_signature.specs.declared.rows.Kind.TheVariants as kind
use Rattle.trace_format.specs.Limits.{most_digits}
use Rattle.trace_format.specs.declared.limits.TheConstants.{MOST_LINE_BYTES, MOST_NUMBER, MOST_TIME, MOST_DELAY}
use Rattle.trace_format.specs.declared.refused.WhyRefused.TheVariants as why

number_again_by : (found : Option ℕ) (least n : ℕ) → found ≡ Some n → nat_lt n least ≡ false → number_by found least ≡ Ok n
number_again_by found least n e t = rw (e, t) refl

pub number_again : (least most n : ℕ) → most < 2 ^ 64 → least ≤ n → n ≤ most → number (decimal n) least most ≡ Ok n
unfolding number
number_again least most n small low high =
    let t : nat_lt n least ≡ false = within n least low in
    number_again_by _ least n (number_in_some (decimal n) most n (omega arith) high refl) t

name_again : (name : List ℕ) → IsName name → name_in name ≡ Ok tt
unfolding name_in
name_again name e = rw e refl

kind_again : (k : Kind) → kind_in (kind_word k) ≡ Ok k
unfolding kind_in
kind_again kind.Frag = refl
kind_again kind.Nat = refl
kind_again kind.Icmp = refl
kind_again kind.Ipip = refl
kind_again kind.Decap = refl

base_back : (r : Result (List ℕ) FromHexError) (bytes : List ℕ) (n : ℕ) → r ≡ Ok bytes → n ≡ from_be_bytes w64 bytes → base_by r ≡ Ok n
base_back r bytes n e q = rw (e, q) refl

pub base_again : (digits : List ℕ) (n : ℕ) → IsBase digits n → base_of digits ≡ Ok n
unfolding base_of
base_again digits n b = base_back _ b.0 n b.1 b.2

bytes_back : (odd fit size : Bool) (r : Result (List ℕ) FromHexError) (b : List ℕ) → fit ≡ true → size ≡ true → cond odd (Err OddLength) r ≡ Ok b → cond size (bytes_by (cond odd (Err OddLength) (cond fit r (Err InvalidStringLength)))) (Err why.Field) ≡ Ok b
bytes_back true fit size r b f s e = absurd (cc)
bytes_back false fit size r b f s e = rw (f, s, e) refl

bytes_again : (digits b : List ℕ) → IsHex digits b → 2 ≤ length digits → length digits ≤ most_digits → bytes_in digits ≡ Ok b
unfolding bytes_in
bytes_again digits b h low high =
    let fit : (length digits / 2 == length digits / 2) ≡ true = grind (arith, nat_tests) in
    let a : nat_le 2 (length digits) ≡ true = grind (arith, nat_tests) in
    let z : nat_le (length digits) most_digits ≡ true = grind (arith, nat_tests) in
    bytes_back (length digits % 2 == 1) (length digits / 2 == length digits / 2) (nat_le 2 (length digits) && nat_le (length digits) most_digits) (decode_pairs 0 digits) b fit (both_hold _ _ a z) h

delay_again : (n : ℕ) → n ≤ MOST_DELAY → number (decimal n) 0 MOST_DELAY ≡ Ok n
delay_again n h = number_again 0 MOST_DELAY n (lit< tt) (omega arith) h

version_again : (v : Version) → version_in (version_text v) ≡ Ok v
unfolding version_in
version_again First = refl
version_again Second = refl
version_again Third = refl

shape_again : (most : ℕ) → most ≤ N_MOST → (r : Rules) (base : List ℕ) → IsFront most r → IsBack r → IsBase base r.base → shape_in most (decimal r.k ∷ decimal r.n ∷ decimal r.limit ∷ decimal r.span ∷ decimal r.keep ∷ decimal r.age ∷ decimal r.width ∷ base ∷ []) ≡ Ok r
unfolding shape_in front_in back_in times_in
shape_again most few r base f b h =
    rw (number_again 1 K_MOST r.k (lit< tt) f.k.0 f.k.1, number_again N_LEAST most r.n (omega (arith, few)) f.n.0 f.n.1, number_again 1 (2 ^ r.n) r.limit (small r.n (let n = f.n.1 in omega (arith, n, few))) f.limit.0 f.limit.1, number_again 1 MOST_TIME r.span (lit< tt) f.span.0 f.span.1, number_again 1 32 r.keep (lit< tt) b.keep.0 b.keep.1, number_again 1 MOST_TIME r.age (lit< tt) b.age.0 b.age.1, number_again 0 MOST_TIME r.width (lit< tt) (omega arith) b.width, base_again base r.base h) refl

accept_again : (known : Known) (said : Said) → judged known said ≡ Ok tt → accept known said ≡ Ok (grown known said)
unfolding accept
accept_again known said j = rw j refl

-- what is spelled as a link of these ends is read as one
link_reads : (known : Known) (a b : List ℕ) (d : ℕ) (has : Bool) (parts : List (List ℕ)) → SpellsLink has a b d parts → (rest : List (List ℕ)) × (parts ≡ codes "link" ∷ rest) × (link_by has known rest ≡ accept known (said.Link a b d))
unfolding plain_link link_fields delayed_link delayed_fields
link_reads known a b d false parts s = (a ∷ b ∷ [], s.0, rw (name_again a s.1, name_again b s.2, s.3) refl)
link_reads known a b d true parts s = (a ∷ b ∷ decimal d ∷ [], s.0, rw (name_again a s.1, name_again b s.2, delay_again d s.3) refl)

at_fields : (known : Known) (said : Said) (a b : List (List ℕ)) → a ≡ b → by_fields known b ≡ Ok (grown known said) → by_fields known a ≡ Ok (grown known said)
at_fields known said a b e h = let P : List (List ℕ) → Type 0 = λ z. by_fields known z ≡ Ok (grown known said) in subst P (sym e) h

pub fields_again : (known : Known) (s : Said) (parts : List (List ℕ)) → may_come (form_in known) known.stage (word_said s) ≡ true → Spells (form_in known) s parts → judged known s ≡ Ok tt → by_fields known parts ≡ Ok (grown known s)
unfolding word_of line_by version_line version_fields shape_line router_line router_fields link_line pages_line pages_fields begin_line packet_line fwd_line fwd_fields xf_line xf_fields rotate_line archive_line watch_line watch_fields tick_line query_line query_fields end_line
fields_again known (said.Version v) parts m s j = at_fields known (said.Version v) _ _ s (rw (m, version_again v, accept_again known (said.Version v) j) refl)
fields_again known (said.Shape r) parts m s j = at_fields known (said.Shape r) _ _ s.1 (rw (m, shape_again (form_in known).n_most (most_few known.version) r s.0 s.2 s.3 s.4, accept_again known (said.Shape r) j) refl)
fields_again known (said.Router a b) parts m s j = at_fields known (said.Router a b) _ _ s.0 (rw (m, name_again a s.1, name_again b s.2, accept_again known (said.Router a b) j) refl)
fields_again known (said.Link a b d) parts m s j = let r = link_reads known a b d (form_in known).has_delays parts s in at_fields known (said.Link a b d) _ _ r.1 (rw (m, r.2, accept_again known (said.Link a b d) j) refl)
fields_again known (said.Pages a k n l) parts m s j = at_fields known (said.Pages a k n l) _ _ s.0 (rw (m, name_again a s.1, number_again 1 K_MOST k (lit< tt) s.2.marks.0 s.2.marks.1, number_again N_LEAST N_MOST n (lit< tt) s.2.size.0 s.2.size.1, number_again 1 (2 ^ n) l (small n s.2.size.1) s.2.full.0 s.2.full.1, accept_again known (said.Pages a k n l) j) refl)
fields_again known said.Begin parts m s j = at_fields known said.Begin _ _ s (rw (m, accept_again known said.Begin j) refl)
fields_again known (said.Packet bytes) parts m s j = at_fields known (said.Packet bytes) _ _ s.1 (rw (m, bytes_again s.0 bytes s.2 s.3 s.4, accept_again known (said.Packet bytes) j) refl)
fields_again known (said.Fwd a n) parts m s j = at_fields known (said.Fwd a n) _ _ s.0 (rw (m, name_again a s.1, number_again 0 MOST_NUMBER n (lit< tt) (omega arith) s.2, accept_again known (said.Fwd a n) j) refl)
fields_again known (said.Xf a k o n) parts m s j = at_fields known (said.Xf a k o n) _ _ s.0 (rw (m, name_again a s.1, kind_again k, number_again 0 MOST_NUMBER o (lit< tt) (omega arith) s.2, number_again 0 MOST_NUMBER n (lit< tt) (omega arith) s.3, accept_again known (said.Xf a k o n) j) refl)
fields_again known (said.Rotate a) parts m s j = at_fields known (said.Rotate a) _ _ s.0 (rw (m, name_again a s.1, accept_again known (said.Rotate a) j) refl)
fields_again known (said.Archive a) parts m s j = at_fields known (said.Archive a) _ _ s.0 (rw (m, name_again a s.1, accept_again known (said.Archive a) j) refl)
fields_again known (said.Watch a n) parts m s j = at_fields known (said.Watch a n) _ _ s.0 (rw (m, name_again a s.1, number_again 0 MOST_NUMBER n (lit< tt) (omega arith) s.2, accept_again known (said.Watch a n) j) refl)
fields_again known (said.Tick t) parts m s j = at_fields known (said.Tick t) _ _ s.0 (rw (m, number_again 0 MOST_TIME t (lit< tt) (omega arith) s.1, accept_again known (said.Tick t) j) refl)
fields_again known (said.Query a n t) parts m s j = at_fields known (said.Query a n t) _ _ s.0 (rw (m, name_again a s.1, number_again 0 MOST_NUMBER n (lit< tt) (omega arith) s.2, number_again 0 MOST_TIME t (lit< tt) (omega arith) s.3, accept_again known (said.Query a n t) j) refl)
fields_again known said.End parts m s j = at_fields known said.End _ _ s (rw (m, accept_again known said.End j) refl)

pub read_again : (known : Known) (s : Said) (text : List ℕ) → length text ≤ MOST_LINE_BYTES → may_come (form_in known) known.stage (word_said s) ≡ true → Spells (form_in known) s (fields text) → judged known s ≡ Ok tt → read_line known text ≡ Ok (grown known s)
unfolding read_line
read_again known s text short m sp j =
    let t : nat_lt MOST_LINE_BYTES (length text) ≡ false = within MOST_LINE_BYTES (length text) short in
    rw t (fields_again known s (fields text) m sp j)

at_accept : (known : Known) (s : Said) (a b : List (List ℕ)) → a ≡ b → by_fields known b ≡ cond (may_come (form_in known) known.stage (word_said s)) (accept known s) (Err why.Word) → by_fields known a ≡ cond (may_come (form_in known) known.stage (word_said s)) (accept known s) (Err why.Word)
at_accept known s a b e h = let P : List (List ℕ) → Type 0 = λ z. by_fields known z ≡ cond (may_come (form_in known) known.stage (word_said s)) (accept known s) (Err why.Word) in subst P (sym e) h

-- a line that says something is judged by its rules
pub spelled_reads : (known : Known) (s : Said) (parts : List (List ℕ)) → Spells (form_in known) s parts → by_fields known parts ≡ cond (may_come (form_in known) known.stage (word_said s)) (accept known s) (Err why.Word)
unfolding word_of line_by version_line version_fields shape_line router_line router_fields link_line pages_line pages_fields begin_line packet_line fwd_line fwd_fields xf_line xf_fields rotate_line archive_line watch_line watch_fields tick_line query_line query_fields end_line
spelled_reads known (said.Version v) parts s = at_accept known (said.Version v) _ _ s (rw (version_again v) refl)
spelled_reads known (said.Shape r) parts s = at_accept known (said.Shape r) _ _ s.1 (rw (shape_again (form_in known).n_most (most_few known.version) r s.0 s.2 s.3 s.4) refl)
spelled_reads known (said.Router a b) parts s = at_accept known (said.Router a b) _ _ s.0 (rw (name_again a s.1, name_again b s.2) refl)
spelled_reads known (said.Link a b d) parts s = let r = link_reads known a b d (form_in known).has_delays parts s in at_accept known (said.Link a b d) _ _ r.1 (rw r.2 refl)
spelled_reads known (said.Pages a k n l) parts s = at_accept known (said.Pages a k n l) _ _ s.0 (rw (name_again a s.1, number_again 1 K_MOST k (lit< tt) s.2.marks.0 s.2.marks.1, number_again N_LEAST N_MOST n (lit< tt) s.2.size.0 s.2.size.1, number_again 1 (2 ^ n) l (small n s.2.size.1) s.2.full.0 s.2.full.1) refl)
spelled_reads known said.Begin parts s = at_accept known said.Begin _ _ s refl
spelled_reads known (said.Packet bytes) parts s = at_accept known (said.Packet bytes) _ _ s.1 (rw (bytes_again s.0 bytes s.2 s.3 s.4) refl)
spelled_reads known (said.Fwd a n) parts s = at_accept known (said.Fwd a n) _ _ s.0 (rw (name_again a s.1, number_again 0 MOST_NUMBER n (lit< tt) (omega arith) s.2) refl)
spelled_reads known (said.Xf a k o n) parts s = at_accept known (said.Xf a k o n) _ _ s.0 (rw (name_again a s.1, kind_again k, number_again 0 MOST_NUMBER o (lit< tt) (omega arith) s.2, number_again 0 MOST_NUMBER n (lit< tt) (omega arith) s.3) refl)
spelled_reads known (said.Rotate a) parts s = at_accept known (said.Rotate a) _ _ s.0 (rw (name_again a s.1) refl)
spelled_reads known (said.Archive a) parts s = at_accept known (said.Archive a) _ _ s.0 (rw (name_again a s.1) refl)
spelled_reads known (said.Watch a n) parts s = at_accept known (said.Watch a n) _ _ s.0 (rw (name_again a s.1, number_again 0 MOST_NUMBER n (lit< tt) (omega arith) s.2) refl)
spelled_reads known (said.Tick t) parts s = at_accept known (said.Tick t) _ _ s.0 (rw (number_again 0 MOST_TIME t (lit< tt) (omega arith) s.1) refl)
spelled_reads known (said.Query a n t) parts s = at_accept known (said.Query a n t) _ _ s.0 (rw (name_again a s.1, number_again 0 MOST_NUMBER n (lit< tt) (omega arith) s.2, number_again 0 MOST_TIME t (lit< tt) (omega arith) s.3) refl)
spelled_reads known said.End parts s = at_accept known said.End _ _ s refl
