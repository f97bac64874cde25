-- Reading goes from left to right: where it stops, no more bytes are left than there were.
use Rattle.std.proofs.Common.{◌≡◌, ℕ, zero, suc, ◌+◌, ◌-◌, ◌*◌, ◌^◌, ◌≤◌, Bool, true, false, cond, leb, eqb, ◌&&◌, List, length, take, drop, Result, Ok, Err, subst, arith}
use Rattle.std.proofs.lemmas.List.{length-drop}
use Rattle.byteorder.specs.Endian.{big_number}
use Rattle.packet_signature.specs.declared.Kind.{Kind}
use Rattle.spie_base.specs.declared.types.TheConstants.{N_LEAST, N_MOST}
use Rattle.archive_record.specs.declared.records.Record.{Record}
use Rattle.archive_record.specs.declared.records.TheConstants.{SPB1_N_MOST}
use Rattle.archive_record.specs.Reading.{◌>>=◌, number_in, bytes_in, first_words, words_in, name_at, shape_at, times_at, bits_at, kind_at, least_flag, old_in, old_at, row_at, rows_in, rows_at, behind_magic, record_at, whole_at}
use Rattle.archive_record.proofs.HeadFacts.{name_made, shape_made, times_made}
use Rattle.archive_record.proofs.RowFacts.{kind_made, direct_made, indirect_made, row_made, rows_made}
use Rattle.archive_record.proofs.RecordFacts.{bits_made, all_rows_made, no_first, no_bits}

abbrev Shrinks : {A : Type 0} → (size : ℕ) → Result (A × List ℕ) ℕ → Type 0
Shrinks size (Ok x) = length x.1 ≤ size
Shrinks size (Err left) = left ≤ size

weaker : {A : Type 0} (small size : ℕ) (r : Result (A × List ℕ) ℕ) → small ≤ size → Shrinks small r → Shrinks size r
weaker small size (Ok x) le h = omega (arith, le, h)
weaker small size (Err left) le h = omega (arith, le, h)

and_then : {A B : Type 0} (size : ℕ) (r : Result (A × List ℕ) ℕ) (f : A × List ℕ → Result (B × List ℕ) ℕ) → Shrinks size r → ((x : A × List ℕ) → Shrinks (length x.1) (f x)) → Shrinks size (r >>= f)
and_then size (Ok x) f h each = weaker (length x.1) size (f x) h (each x)
and_then size (Err left) f h each = h

either : {A : Type 0} (b : Bool) (size : ℕ) (r s : Result (A × List ℕ) ℕ) → Shrinks size r → Shrinks size s → Shrinks size (cond b r s)
either true size r s h k = h
either false size r s h k = k

abbrev stopped : ℕ → Result Record ℕ
stopped left = Err left

err_is : (a b : ℕ) → stopped a ≡ stopped b → a ≡ b
err_is a b e = cc

same : (n : ℕ) → n ≤ n
same n = omega arith

number : (n low high : ℕ) (bytes : List ℕ) → Shrinks (length bytes) (number_in n low high bytes)
number n low high bytes =
    either (leb n (length bytes) && (leb low (big_number n bytes) && leb (big_number n bytes) high)) (length bytes) (Ok (big_number n bytes, drop n bytes)) (Err (length bytes)) (omega (arith, length-drop n bytes)) (same (length bytes))

bytes_shrink : (n : ℕ) (bytes : List ℕ) → Shrinks (length bytes) (bytes_in n bytes)
bytes_shrink n bytes = either (leb n (length bytes)) (length bytes) (Ok (take n bytes, drop n bytes)) (Err (length bytes)) (omega (arith, length-drop n bytes)) (same (length bytes))

words : (count : ℕ) (bytes : List ℕ) → Shrinks (length bytes) (words_in count bytes)
words count bytes = and_then (length bytes) (bytes_in (8 * count) bytes) (λ field. Ok (first_words count field.0, field.1)) (bytes_shrink (8 * count) bytes) (λ field. same (length field.1))

name : (bytes : List ℕ) → Shrinks (length bytes) (name_at bytes)
unfolding name_at
name bytes =
    and_then (length bytes) (number_in 4 0 63 bytes) (λ router. number_in 4 0 0xffffffff router.1 >>= λ page. Ok (name_made router page)) (number 4 0 63 bytes)
    (λ router. and_then (length router.1) (number_in 4 0 0xffffffff router.1) (λ page. Ok (name_made router page)) (number 4 0 0xffffffff router.1) (λ page. same (length page.1)))

shape : (least most : ℕ) (bytes : List ℕ) → Shrinks (length bytes) (shape_at least most bytes)
unfolding shape_at
shape least most bytes =
    and_then (length bytes) (number_in 1 1 8 bytes) (λ k. number_in 1 least most k.1 >>= λ n. number_in 2 0 0 n.1 >>= λ none. Ok (shape_made k n none)) (number 1 1 8 bytes)
    (λ k. and_then (length k.1) (number_in 1 least most k.1) (λ n. number_in 2 0 0 n.1 >>= λ none. Ok (shape_made k n none)) (number 1 least most k.1)
    (λ n. and_then (length n.1) (number_in 2 0 0 n.1) (λ none. Ok (shape_made k n none)) (number 2 0 0 n.1) (λ none. same (length none.1))))

times : (bytes : List ℕ) → Shrinks (length bytes) (times_at bytes)
unfolding times_at
times bytes =
    and_then (length bytes) (number_in 8 0 0xffffffffffffffff bytes) (λ seed. number_in 8 0 0xffffffffffff seed.1 >>= λ opened. number_in 8 opened.0 0xffffffffffff opened.1 >>= λ closed. Ok (times_made seed opened closed)) (number 8 0 0xffffffffffffffff bytes)
    (λ seed. and_then (length seed.1) (number_in 8 0 0xffffffffffff seed.1) (λ opened. number_in 8 opened.0 0xffffffffffff opened.1 >>= λ closed. Ok (times_made seed opened closed)) (number 8 0 0xffffffffffff seed.1)
    (λ opened. and_then (length opened.1) (number_in 8 opened.0 0xffffffffffff opened.1) (λ closed. Ok (times_made seed opened closed)) (number 8 opened.0 0xffffffffffff opened.1) (λ closed. same (length closed.1))))

bits : (least most : ℕ) (bytes : List ℕ) → Shrinks (length bytes) (bits_at least most bytes)
unfolding bits_at
bits least most bytes =
    and_then (length bytes) (name_at bytes) (λ name. shape_at least most name.1 >>= λ shape. times_at shape.1 >>= λ times. words_in (2 ^ (shape.0.1 - 6)) times.1 >>= λ words. Ok (bits_made name shape times words)) (name bytes)
    (λ a. and_then (length a.1) (shape_at least most a.1) (λ shape. times_at shape.1 >>= λ times. words_in (2 ^ (shape.0.1 - 6)) times.1 >>= λ words. Ok (bits_made a shape times words)) (shape least most a.1)
    (λ b. and_then (length b.1) (times_at b.1) (λ times. words_in (2 ^ (b.0.1 - 6)) times.1 >>= λ words. Ok (bits_made a b times words)) (times b.1)
    (λ c. and_then (length c.1) (words_in (2 ^ (b.0.1 - 6)) c.1) (λ words. Ok (bits_made a b c words)) (words (2 ^ (b.0.1 - 6)) c.1) (λ d. same (length d.1)))))

kind : (bytes : List ℕ) → Shrinks (length bytes) (kind_at bytes)
unfolding kind_at
kind bytes = and_then (length bytes) (number_in 1 1 5 bytes) (λ code. Ok (kind_made code)) (number 1 1 5 bytes) (λ code. same (length code.1))

old_behind : (flag : ℕ) (bytes : List ℕ) → Shrinks (length bytes) (old_in flag bytes)
old_behind zero bytes = and_then (length bytes) (bytes_in 4 bytes) (λ old. Ok (direct_made old)) (bytes_shrink 4 bytes) (λ old. same (length old.1))
old_behind (suc flag) bytes = and_then (length bytes) (bytes_in 28 bytes) (λ old. Ok (indirect_made old)) (bytes_shrink 28 bytes) (λ old. same (length old.1))

old : (k : Kind) (bytes : List ℕ) → Shrinks (length bytes) (old_at k bytes)
unfolding old_at
old k bytes = and_then (length bytes) (number_in 1 (least_flag k) 1 bytes) (λ flag. old_in flag.0 flag.1) (number 1 (least_flag k) 1 bytes) (λ flag. old_behind flag.0 flag.1)

row : (bytes : List ℕ) → Shrinks (length bytes) (row_at bytes)
unfolding row_at
row bytes =
    and_then (length bytes) (number_in 8 0 0xffffffffffffffff bytes) (λ key. kind_at key.1 >>= λ kind. old_at kind.0 kind.1 >>= λ old. Ok (row_made key kind old)) (number 8 0 0xffffffffffffffff bytes)
    (λ key. and_then (length key.1) (kind_at key.1) (λ kind. old_at kind.0 kind.1 >>= λ old. Ok (row_made key kind old)) (kind key.1)
    (λ k. and_then (length k.1) (old_at k.0 k.1) (λ old. Ok (row_made key k old)) (old k.0 k.1) (λ o. same (length o.1))))

rows : (count : ℕ) (bytes : List ℕ) → Shrinks (length bytes) (rows_in count bytes)
unfolding rows_in
rows zero bytes = same (length bytes)
rows (suc count) bytes =
    and_then (length bytes) (row_at bytes) (λ first. rows_in count first.1 >>= λ others. Ok (rows_made first.0 others)) (row bytes)
    (λ first. and_then (length first.1) (rows_in count first.1) (λ others. Ok (rows_made first.0 others)) (rows count first.1) (λ others. same (length others.1)))

all_rows : (bytes : List ℕ) → Shrinks (length bytes) (rows_at bytes)
unfolding rows_at
all_rows bytes =
    and_then (length bytes) (name_at bytes) (λ name. number_in 4 0 1000000 name.1 >>= λ count. rows_in count.0 count.1 >>= λ rows. Ok (all_rows_made name rows)) (name bytes)
    (λ a. and_then (length a.1) (number_in 4 0 1000000 a.1) (λ count. rows_in count.0 count.1 >>= λ rows. Ok (all_rows_made a rows)) (number 4 0 1000000 a.1)
    (λ b. and_then (length b.1) (rows_in b.0 b.1) (λ rows. Ok (all_rows_made a rows)) (rows b.0 b.1) (λ c. same (length c.1))))

behind : (size magic : ℕ) (bytes : List ℕ) → length bytes ≤ size → Shrinks size (behind_magic size magic bytes)
behind size magic bytes h =
    either (eqb magic 0x53504231) size (bits_at N_LEAST SPB1_N_MOST bytes) (no_first size magic bytes)
    (weaker (length bytes) size (bits_at N_LEAST SPB1_N_MOST bytes) h (bits N_LEAST SPB1_N_MOST bytes))
    (either (eqb magic 0x53504232) size (bits_at (SPB1_N_MOST + 1) N_MOST bytes) (no_bits size magic bytes)
    (weaker (length bytes) size (bits_at (SPB1_N_MOST + 1) N_MOST bytes) h (bits (SPB1_N_MOST + 1) N_MOST bytes))
    (either (eqb magic 0x53505431) size (rows_at bytes) (Err size) (weaker (length bytes) size (rows_at bytes) h (all_rows bytes)) (same size)))

record_shrinks : (bytes : List ℕ) → Shrinks (length bytes) (record_at bytes)
unfolding record_at
record_shrinks bytes =
    weak_magic (number_in 4 0 0xffffffff bytes) (number 4 0 0xffffffff bytes)
  where
    weak_magic : (r : Result (ℕ × List ℕ) ℕ) → Shrinks (length bytes) r → Shrinks (length bytes) (r >>= λ magic. behind_magic (length bytes) magic.0 magic.1)
    weak_magic (Err left) h = h
    weak_magic (Ok magic) h = behind (length bytes) magic.0 magic.1 h

ended : (size left : ℕ) (r : Result (Record × List ℕ) ℕ) → Shrinks size r → (r >>= λ found. cond (eqb (length found.1) 0) (Ok found.0) (Err (length found.1))) ≡ Err left → left ≤ size
ended size left (Err at) h e = subst (λ (n : ℕ). n ≤ size) (err_is at left e) h
ended size left (Ok found) h e = stopped_at (eqb (length found.1) 0) found.0 (length found.1) h e
  where
    stopped_at : (b : Bool) (value : Record) (rest : ℕ) → rest ≤ size → cond b (Ok value) (Err rest) ≡ Err left → left ≤ size
    stopped_at true value rest le e = absurd cc
    stopped_at false value rest le e = subst (λ (n : ℕ). n ≤ size) (err_is rest left e) le

pub stops_within : (bytes : List ℕ) (left : ℕ) → whole_at bytes ≡ Err left → left ≤ length bytes
unfolding whole_at
stops_within bytes left e = ended (length bytes) left (record_at bytes) (record_shrinks bytes) e
