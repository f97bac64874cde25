-- A capture is split into records in one way.
use Rattle.std.proofs.Common.{ℕ, ◌≡◌, ◌+◌, ◌-◌, ◌<◌, ◌==◌, List, [], ◌∷◌, ◌++◌, length, take, drop, refl, ap, arith, sym, ◌∙◌, subst, slice_index, length-append, Bool, true, false, nat_lt, Ok}
use Rattle.std.proofs.lemmas.Bool.Decides.{nat_tests}
use Rattle.std.proofs.lemmas.List.{get_or-drop}
use Rattle.std.proofs.Math.Seq.{take-append_seam, drop-append_seam}
use Rattle.std.proofs.Math.ListN.{get_or-append}
use Rattle.pcap_intake.proofs.Heads.{holds_by}
use Rattle.pcap_intake.specs.Capture.{Captured, IsRecord, Begins, HasRecords, has_record, header_in, captured_length}
use Rattle.pcap_intake.specs.Intake.{AreLinesOf, IsMadeOf, Lines, counts_of, goods, most_packets, taken}
use Rattle.pcap_intake.specs.Text.{base_of, text_of}
use Rattle.pcap_intake.specs.declared.kind.CaptureKind.{CaptureKind}
use Rattle.pcap_intake.specs.declared.kind.Endian.{Endian}
use Rattle.pcap_intake.specs.declared.kind.Endian.TheVariants as order

-- lists that begin with fronts of one length
fronts_same : (a b x y : List ℕ) → a ++ x ≡ b ++ y → length a ≡ length b → (a ≡ b) × (x ≡ y)
fronts_same a b x y e n = (
  sym (take-append_seam a x) ∙ ap (take (length a)) e ∙ ap (λ k. take k (b ++ y)) n ∙ take-append_seam b y,
  sym (drop-append_seam a x) ∙ ap (drop (length a)) e ∙ ap (λ k. drop k (b ++ y)) n ∙ drop-append_seam b y,
)

-- a number in the header of a record that stands in front
byte_head : (head rest : List ℕ) (p i : ℕ) → length head ≡ 16 → p + i < 16 → slice_index (drop p (head ++ rest)) i ≡ slice_index (drop p head) i
byte_head head rest p i long lt = get_or-drop p (head ++ rest) i 0 ∙ get_or-append head rest 0 (p + i) (omega (arith, long, lt)) ∙ sym (get_or-drop p head i 0)

number_head : (o : Endian) (head rest : List ℕ) → length head ≡ 16 → captured_length o (head ++ rest) ≡ captured_length o head
number_head order.Big head rest long = rw (byte_head head rest 8 0 long (omega arith), byte_head head rest 8 1 long (omega arith), byte_head head rest 8 2 long (omega arith), byte_head head rest 8 3 long (omega arith)) refl
number_head order.Little head rest long = rw (byte_head head rest 8 0 long (omega arith), byte_head head rest 8 1 long (omega arith), byte_head head rest 8 2 long (omega arith), byte_head head rest 8 3 long (omega arith)) refl

record_holds : (o : Endian) (r : Captured) (rest : List ℕ) → IsRecord o r → has_record o (r.head ++ (r.frame ++ rest)) ≡ true
record_holds o r rest is =
    let count = number_head o r.head (r.frame ++ rest) is.head in
    let long = length-append r.head (r.frame ++ rest) in
    let back = length-append r.frame rest in
    let head = is.head in
    let frame = is.frame in
    holds_by (length (r.head ++ (r.frame ++ rest))) (captured_length o (r.head ++ (r.frame ++ rest))) (omega (arith, long, head)) (omega (arith, count, long, back, head, frame))

-- the same number of records
record Same (one other : List Captured) (rest last : List ℕ) : Type 0 where
  records : one ≡ other
  rests : rest ≡ last

records_same : (o : Endian) (r s : Captured) (rest last : List ℕ) → IsRecord o r → IsRecord o s → r.head ++ (r.frame ++ rest) ≡ s.head ++ (s.frame ++ last) → (r ≡ s) × (rest ≡ last)
records_same o r s rest last is other e =
    let heads = fronts_same r.head s.head (r.frame ++ rest) (s.frame ++ last) e (is.head ∙ sym other.head) in
    let size : length r.frame ≡ length s.frame = is.frame ∙ ap (λ h. captured_length o h) heads.0 ∙ sym other.frame in
    let frames = fronts_same r.frame s.frame rest last heads.1 size in
    ((λ i. record { head = heads.0 i; frame = frames.0 i }), frames.1)

same_many : (o : Endian) (bytes : List ℕ) (one other : List Captured) (rest last : List ℕ) → Begins o bytes one rest → Begins o bytes other last → length one ≡ length other → Same one other rest last
same_many o bytes [] [] rest last b c n = record { records = refl; rests = sym b ∙ c }
same_many o bytes [] (s ∷ after) rest last b c n = absurd (omega (arith, n))
same_many o bytes (r ∷ before) [] rest last b c n = absurd (omega (arith, n))
same_many o bytes (r ∷ before) (s ∷ after) rest last b c n =
    let earlier = same_many o bytes before after _ _ b.1 c.1 (omega (arith, n)) in
    let here = records_same o r s rest last b.0 c.0 earlier.rests in
    record { records = (λ i. here.0 i ∷ earlier.records i); rests = here.1 }

-- behind fewer of the records another one begins
record Fewer (o : Endian) (bytes : List ℕ) (count : ℕ) : Type 0 where
  records : List Captured
  rest : List ℕ
  begins : Begins o bytes records rest
  size : length records ≡ count
  more : has_record o rest ≡ true

fewer_by : (o : Endian) (bytes : List ℕ) (k : ℕ) (r : Captured) (before : List Captured) (rest : List ℕ) → Begins o bytes (r ∷ before) rest → (k < length before → Fewer o bytes k) → (here : Bool) → (k == length before) ≡ here → k < length (r ∷ before) → Fewer o bytes k
fewer_by o bytes k r before rest b earlier true e lt = record { records = before; rest = r.head ++ (r.frame ++ rest); begins = b.1; size = grind (arith, nat_tests); more = record_holds o r rest b.0 }
fewer_by o bytes k r before rest b earlier false e lt = earlier (grind (arith, nat_tests))

fewer : (o : Endian) (bytes : List ℕ) (k : ℕ) (records : List Captured) (rest : List ℕ) → Begins o bytes records rest → k < length records → Fewer o bytes k
fewer o bytes k [] rest b lt = absurd (omega (arith, lt))
fewer o bytes k (r ∷ before) rest b lt = fewer_by o bytes k r before rest b (λ less. fewer o bytes k before (r.head ++ (r.frame ++ rest)) b.1 less) (k == length before) refl lt

not_fewer : (o : Endian) (bytes : List ℕ) (one other : List Captured) (left last : List ℕ) → HasRecords o bytes one left → HasRecords o bytes other last → length one < length other → ⊥
not_fewer o bytes one other left last h g lt =
    let f = fewer o (drop 24 bytes) (length one) other last g.begins lt in
    let s = same_many o (drop 24 bytes) one f.records left f.rest h.begins f.begins (sym f.size) in
    let no : has_record o f.rest ≡ false = ap (λ b. has_record o b) (sym s.rests) ∙ h.ended in
    let yes = f.more in
    absurd (cc (no, yes))

length_by : (a b : ℕ) (x y : Bool) → nat_lt a b ≡ x → nat_lt b a ≡ y → (a < b → ⊥) → (b < a → ⊥) → a ≡ b
length_by a b true y e h f g = absurd (f (grind (arith, nat_tests)))
length_by a b false true e h f g = absurd (g (grind (arith, nat_tests)))
length_by a b false false e h f g = grind (arith, nat_tests)

one_length : (a b : ℕ) → (a < b → ⊥) → (b < a → ⊥) → a ≡ b
one_length a b f g = length_by a b (nat_lt a b) (nat_lt b a) refl refl f g

split_same : (o : Endian) (bytes : List ℕ) (one other : List Captured) (left last : List ℕ) → HasRecords o bytes one left → HasRecords o bytes other last → Same one other left last
split_same o bytes one other left last h g =
    same_many o (drop 24 bytes) one other left last h.begins g.begins (one_length (length one) (length other) (not_fewer o bytes one other left last h g) (not_fewer o bytes other one last left g h))

made_same : (kind : CaptureKind) (bytes name : List ℕ) (first skip : ℕ) (a b : Lines) → IsMadeOf kind bytes name first skip a → IsMadeOf kind bytes name first skip b → a ≡ b
made_same kind bytes name first skip a b m n =
    let s = split_same kind.order bytes m.records n.records m.left n.left m.split n.split in
    let text : a.text ≡ b.text = m.text ∙ ap (λ r. text_of name first (base_of (taken skip (most_packets - first) (goods kind r))) (taken skip (most_packets - first) (goods kind r))) s.records ∙ sym n.text in
    let counts : a.counts ≡ b.counts = m.counts ∙ ap (λ r. counts_of kind.link skip (most_packets - first) r (length (goods kind r)) m.left) s.records
    ∙ ap (λ l. counts_of kind.link skip (most_packets - first) n.records (length (goods kind n.records)) l) s.rests ∙ sym n.counts in
    λ i. record { text = text i; counts = counts i }

header_same : (bytes : List ℕ) (one other : CaptureKind) → header_in bytes ≡ Ok one → header_in bytes ≡ Ok other → one ≡ other
header_same bytes one other e f = cc

pub one_text_of : (bytes name : List ℕ) (first skip : ℕ) (one other : Lines) → AreLinesOf bytes name first skip one → AreLinesOf bytes name first skip other → one ≡ other
one_text_of bytes name first skip one other a b =
    let P : CaptureKind → Type 0 = λ h. IsMadeOf h bytes name first skip other in
    made_same a.kind bytes name first skip one other a.made (subst P (header_same bytes b.kind a.kind b.accepted a.accepted) b.made)
