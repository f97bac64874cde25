-- The two laws: what is read is spelled so, and what is spelled so is read.
use Rattle.std.proofs.Common.{◌≡◌, ℕ, ◌+◌, ◌-◌, ◌^◌, ◌<◌, ◌≤◌, Bool, true, false, cond, eqb, List, [], ◌∷◌, ◌++◌, length, Result, Ok, Err, refl, sym, ap, subst, ◌∙◌, arith, ◌⊎◌, inl, inr}
use Rattle.std.specs.Int.{w32, w64, to_be_bytes}
use Rattle.std.specs.List.{flat_map}
use Rattle.std.proofs.lemmas.Bool.{cases_lt, eqb-true, le-leb, lt-leb}
use Rattle.std.proofs.lemmas.List.{append-nil, nil_from_length}
use Rattle.byteorder.specs.Endian.{big_bytes}
use Rattle.bloom_page.specs.Bits.{members_of}
use Rattle.bloom_page.specs.Sets.{words_of}
use Rattle.bloom_page.proofs.WordFacts.{words_of-members_of, words_of-fit, length-words_of}
use Rattle.spie_base.specs.declared.types.RouterId.{RouterId}
use Rattle.spie_base.specs.declared.types.PageNo.{PageNo}
use Rattle.spie_base.specs.declared.types.TheConstants.{N_LEAST, N_MOST}
use Rattle.packet_signature.specs.declared.Row.{Row}
use Rattle.archive_record.specs.declared.records.BitsRecord.{BitsRecord}
use Rattle.archive_record.specs.declared.records.RowsRecord.{RowsRecord}
use Rattle.archive_record.specs.declared.records.Record.{Record}
use Rattle.archive_record.specs.declared.records.Record.TheVariants.{Bits, Rows}
use Rattle.archive_record.specs.declared.records.TheConstants.{SPB1_N_MOST}
use Rattle.archive_record.specs.Spelling.{bits_magic, rows_magic, spelled_row, spelled_bits, spelled_rows, spelled, AreBits, AreRows, Fits, IsRecord, ArePlainBits, ArePlainRows, IsPlain}
use Rattle.archive_record.specs.Reading.{◌>>=◌, number_in, words_in, name_at, shape_at, times_at, bits_at, rows_in, rows_at, behind_magic, record_at, whole_at, placed, record_of}
use Rattle.archive_record.proofs.FieldFacts.{IsBytes, bind_ok, guard_ok, ok_is, Takes, Takes-then, wide4, number_takes, number_again, words_take, words_again}
use Rattle.archive_record.proofs.HeadFacts.{name_takes, name_again, shape_takes, shape_again, times_take, times_again}
use Rattle.archive_record.proofs.RowFacts.{rows_take, rows_again}

-- ---- what stands behind the magic bytes

abbrev pub bits_body : BitsRecord → List ℕ
bits_body r = to_be_bytes w32 r.router.number ++ (to_be_bytes w32 r.page.number ++ (r.k ∷ r.bits.n ∷ 0 ∷ 0 ∷ (to_be_bytes w64 r.seed ++ (to_be_bytes w64 r.opened ++ (to_be_bytes w64 r.closed ++ flat_map (to_be_bytes w64) (words_of r.bits))))))

abbrev pub rows_body : RowsRecord → List ℕ
rows_body r = to_be_bytes w32 r.router.number ++ (to_be_bytes w32 r.page.number ++ (to_be_bytes w32 (length r.rows) ++ flat_map spelled_row r.rows))

-- what a reader behind the magic bytes took
pub record TakesBits (least most : ℕ) (bytes : List ℕ) (r : BitsRecord) (rest : List ℕ) : Type 0 where
  pub takes : Takes bytes (bits_body r) rest
  pub from_least : least ≤ r.bits.n
  pub to_most : r.bits.n ≤ most
  pub fits : AreBits r
  pub plain : ArePlainBits r

pub record TakesRowsRecord (bytes : List ℕ) (r : RowsRecord) (rest : List ℕ) : Type 0 where
  pub takes : Takes bytes (rows_body r) rest
  pub fits : AreRows r
  pub plain : ArePlainRows r

-- ---- bits

abbrev bits_record : (name : (RouterId × PageNo) × List ℕ) (shape : (ℕ × ℕ) × List ℕ) (times : (ℕ × ℕ × ℕ) × List ℕ) (words : List ℕ × List ℕ) → BitsRecord
bits_record name shape times words = record { router = name.0.0; page = name.0.1; k = shape.0.0; seed = times.0.0; opened = times.0.1; closed = times.0.2; bits = record { n = shape.0.1; members = members_of words.0 } }

abbrev pub bits_made : (name : (RouterId × PageNo) × List ℕ) (shape : (ℕ × ℕ) × List ℕ) (times : (ℕ × ℕ × ℕ) × List ℕ) (words : List ℕ × List ℕ) → Record × List ℕ
bits_made name shape times words = (Bits (bits_record name shape times words), words.1)

bits_take : (least most : ℕ) → N_LEAST ≤ least → most ≤ N_MOST → (bytes : List ℕ) (x : Record × List ℕ) → IsBytes bytes → bits_at least most bytes ≡ Ok x
    → (r : BitsRecord) × (x.0 ≡ Bits r) × TakesBits least most bytes r x.1
unfolding bits_at
bits_take least most long short bytes x fits e =
    let a = bind_ok (name_at bytes) (λ name. shape_at least most name.1 >>= λ shape. times_at shape.1 >>= λ times. words_in (2 ^ (shape.0.1 - 6)) times.1 >>= λ words. Ok (bits_made name shape times words)) x e in
    let b = bind_ok (shape_at least most a.0.1) (λ shape. times_at shape.1 >>= λ times. words_in (2 ^ (shape.0.1 - 6)) times.1 >>= λ words. Ok (bits_made a.0 shape times words)) x a.2 in
    let c = bind_ok (times_at b.0.1) (λ times. words_in (2 ^ (b.0.0.1 - 6)) times.1 >>= λ words. Ok (bits_made a.0 b.0 times words)) x b.2 in
    let d = bind_ok (words_in (2 ^ (b.0.0.1 - 6)) c.0.1) (λ words. Ok (bits_made a.0 b.0 c.0 words)) x c.2 in
    let t0 = name_takes bytes a.0 fits a.1 in
    let t1 = shape_takes least most short a.0.1 b.0 t0.takes.rest_fits b.1 in
    let t2 = times_take b.0.1 c.0 t1.takes.rest_fits c.1 in
    let t3 = words_take (2 ^ (b.0.0.1 - 6)) c.0.1 d.0 t2.takes.rest_fits d.1 in
    let r : BitsRecord = bits_record a.0 b.0 c.0 d.0 in
    let same : words_of r.bits ≡ d.0.0 = words_of-members_of b.0.0.1 d.0.0 t3.len t3.fits in
    let words : Takes c.0.1 (flat_map (to_be_bytes w64) (words_of r.bits)) d.0.1 = subst (λ (ws : List ℕ). Takes c.0.1 (flat_map (to_be_bytes w64) ws) d.0.1) (sym same) t3.takes in
    let with_times = Takes-then b.0.1 (to_be_bytes w64 r.seed ++ (to_be_bytes w64 r.opened ++ to_be_bytes w64 r.closed)) c.0.1 (flat_map (to_be_bytes w64) (words_of r.bits)) d.0.1 t2.takes words in
    let with_shape = Takes-then a.0.1 (r.k ∷ r.bits.n ∷ 0 ∷ 0 ∷ []) b.0.1 ((to_be_bytes w64 r.seed ++ (to_be_bytes w64 r.opened ++ to_be_bytes w64 r.closed)) ++ flat_map (to_be_bytes w64) (words_of r.bits)) d.0.1 t1.takes with_times in
    let all : Takes bytes (bits_body r) d.0.1 = Takes-then bytes (to_be_bytes w32 r.router.number ++ to_be_bytes w32 r.page.number) a.0.1 ((r.k ∷ r.bits.n ∷ 0 ∷ 0 ∷ []) ++ ((to_be_bytes w64 r.seed ++ (to_be_bytes w64 r.opened ++ to_be_bytes w64 r.closed)) ++ flat_map (to_be_bytes w64) (words_of r.bits))) d.0.1 t0.takes with_shape in
    let are : AreBits r = record { router = t0.router; some = t1.some; most = t1.most; low = omega (arith, t1.low, long); high = omega (arith, t1.high, short); opened = t2.opened; after = t2.after; closed = t2.closed } in
    let plain : ArePlainBits r = record { page = t0.page; seed = t2.seed; bits = ap members_of same } in
    let is : bits_made a.0 b.0 c.0 d.0 ≡ x = ok_is (bits_made a.0 b.0 c.0 d.0) x d.2 in
    (r, ap (λ (y : Record × List ℕ). y.0) (sym is), subst (λ (y : Record × List ℕ). TakesBits least most bytes r y.1) is (record { takes = all; from_least = t1.low; to_most = t1.high; fits = are; plain = plain }))

bits_again : (least most : ℕ) → most ≤ N_MOST → (r : BitsRecord) (rest : List ℕ) → least ≤ r.bits.n → r.bits.n ≤ most → AreBits r → ArePlainBits r → bits_at least most (bits_body r ++ rest) ≡ Ok (Bits r, rest)
unfolding bits_at
bits_again least most short r rest low high fits plain =
    let words = flat_map (to_be_bytes w64) (words_of r.bits) ++ rest in
    let times = to_be_bytes w64 r.seed ++ (to_be_bytes w64 r.opened ++ (to_be_bytes w64 r.closed ++ words)) in
    let shape = r.k ∷ r.bits.n ∷ 0 ∷ 0 ∷ times in
    ap (λ (y : Result ((RouterId × PageNo) × List ℕ) ℕ). y >>= λ name. shape_at least most name.1 >>= λ shape. times_at shape.1 >>= λ times. words_in (2 ^ (shape.0.1 - 6)) times.1 >>= λ words. Ok (bits_made name shape times words)) (name_again r.router r.page shape fits.router plain.page)
    ∙ ap (λ (y : Result ((ℕ × ℕ) × List ℕ) ℕ). y >>= λ shape. times_at shape.1 >>= λ times. words_in (2 ^ (shape.0.1 - 6)) times.1 >>= λ words. Ok (bits_made ((r.router, r.page), []) shape times words)) (shape_again least most short r.k r.bits.n times fits.some fits.most low high)
    ∙ ap (λ (y : Result ((ℕ × ℕ × ℕ) × List ℕ) ℕ). y >>= λ times. words_in (2 ^ (r.bits.n - 6)) times.1 >>= λ words. Ok (bits_made ((r.router, r.page), []) ((r.k, r.bits.n), []) times words)) (times_again r.seed r.opened r.closed words plain.seed fits.opened fits.after fits.closed)
    ∙ ap (λ (y : Result (List ℕ × List ℕ) ℕ). y >>= λ words. Ok (bits_made ((r.router, r.page), []) ((r.k, r.bits.n), []) ((r.seed, r.opened, r.closed), []) words)) (words_again (2 ^ (r.bits.n - 6)) (words_of r.bits) rest (length-words_of r.bits) (words_of-fit r.bits))
    ∙ ap (λ (ms : List ℕ). Ok (Bits record { router = r.router; page = r.page; k = r.k; seed = r.seed; opened = r.opened; closed = r.closed; bits = record { n = r.bits.n; members = ms } }, rest)) plain.bits

-- ---- rows

abbrev rows_record : (name : (RouterId × PageNo) × List ℕ) (rows : List Row × List ℕ) → RowsRecord
rows_record name rows = record { router = name.0.0; page = name.0.1; rows = rows.0 }

abbrev pub all_rows_made : (name : (RouterId × PageNo) × List ℕ) (rows : List Row × List ℕ) → Record × List ℕ
all_rows_made name rows = (Rows (rows_record name rows), rows.1)

all_rows_take : (bytes : List ℕ) (x : Record × List ℕ) → IsBytes bytes → rows_at bytes ≡ Ok x → (r : RowsRecord) × (x.0 ≡ Rows r) × TakesRowsRecord bytes r x.1
unfolding rows_at
all_rows_take bytes x fits e =
    let a = bind_ok (name_at bytes) (λ name. number_in 4 0 1000000 name.1 >>= λ count. rows_in count.0 count.1 >>= λ rows. Ok (all_rows_made name rows)) x e in
    let b = bind_ok (number_in 4 0 1000000 a.0.1) (λ count. rows_in count.0 count.1 >>= λ rows. Ok (all_rows_made a.0 rows)) x a.2 in
    let c = bind_ok (rows_in b.0.0 b.0.1) (λ rows. Ok (all_rows_made a.0 rows)) x b.2 in
    let t0 = name_takes bytes a.0 fits a.1 in
    let t1 = number_takes 4 0 1000000 wide4 a.0.1 b.0 t0.takes.rest_fits b.1 in
    let t2 = rows_take b.0.0 b.0.1 c.0 t1.takes.rest_fits c.1 in
    let r : RowsRecord = rows_record a.0 c.0 in
    let counted : Takes a.0.1 (to_be_bytes w32 (length r.rows)) b.0.1 = subst (λ (n : ℕ). Takes a.0.1 (to_be_bytes w32 n) b.0.1) (sym t2.size) t1.takes in
    let with_count = Takes-then a.0.1 (to_be_bytes w32 (length r.rows)) b.0.1 (flat_map spelled_row r.rows) c.0.1 counted t2.takes in
    let all : Takes bytes (rows_body r) c.0.1 = Takes-then bytes (to_be_bytes w32 r.router.number ++ to_be_bytes w32 r.page.number) a.0.1 (to_be_bytes w32 (length r.rows) ++ flat_map spelled_row r.rows) c.0.1 t0.takes with_count in
    let are : AreRows r = record { router = t0.router; count = omega (arith, t1.below, t2.size); rows = t2.allowed } in
    let plain : ArePlainRows r = record { page = t0.page; rows = t2.plain } in
    let is : all_rows_made a.0 c.0 ≡ x = ok_is (all_rows_made a.0 c.0) x c.2 in
    (r, ap (λ (y : Record × List ℕ). y.0) (sym is), subst (λ (y : Record × List ℕ). TakesRowsRecord bytes r y.1) is (record { takes = all; fits = are; plain = plain }))

all_rows_again : (r : RowsRecord) (rest : List ℕ) → AreRows r → ArePlainRows r → rows_at (rows_body r ++ rest) ≡ Ok (Rows r, rest)
unfolding rows_at
all_rows_again r rest fits plain =
    let rows = flat_map spelled_row r.rows ++ rest in
    ap (λ (y : Result ((RouterId × PageNo) × List ℕ) ℕ). y >>= λ name. number_in 4 0 1000000 name.1 >>= λ count. rows_in count.0 count.1 >>= λ rows. Ok (all_rows_made name rows)) (name_again r.router r.page (to_be_bytes w32 (length r.rows) ++ rows) fits.router plain.page)
    ∙ ap (λ (y : Result (ℕ × List ℕ) ℕ). y >>= λ count. rows_in count.0 count.1 >>= λ rows. Ok (all_rows_made ((r.router, r.page), []) rows)) (number_again 4 0 1000000 (length r.rows) rows (omega arith) fits.count (omega (arith, fits.count)))
    ∙ ap (λ (y : Result (List Row × List ℕ) ℕ). y >>= λ rows. Ok (all_rows_made ((r.router, r.page), []) rows)) (rows_again r.rows rest fits.rows plain.rows)

-- ---- records

chosen : {A : Type 0} (b : Bool) (x y z : A) → cond b x y ≡ z → ((b ≡ true) × (x ≡ z)) ⊎ ((b ≡ false) × (y ≡ z))
chosen true x y z e = inl (refl, e)
chosen false x y z e = inr (refl, e)

pub record TakesRecord (bytes : List ℕ) (value : Record) (rest : List ℕ) : Type 0 where
  pub takes : Takes bytes (spelled value) rest
  pub fits : Fits value
  pub plain : IsPlain value

-- a magic is that of the n which it allows
abbrev IsMagic : (magic least most : ℕ) → Type 0
IsMagic magic least most = (n : ℕ) → least ≤ n → n ≤ most → big_bytes 4 magic ≡ bits_magic n

first_magic : IsMagic 0x53504231 N_LEAST SPB1_N_MOST
first_magic n least most = ap (λ (b : Bool). 0x53 ∷ 0x50 ∷ 0x42 ∷ cond b 0x31 0x32 ∷ []) (sym (le-leb n SPB1_N_MOST most))

second_magic : IsMagic 0x53504232 (SPB1_N_MOST + 1) N_MOST
second_magic n least most = ap (λ (b : Bool). 0x53 ∷ 0x50 ∷ 0x42 ∷ cond b 0x31 0x32 ∷ []) (sym (lt-leb n SPB1_N_MOST least))

is_bits : (code least most : ℕ) → IsMagic code least most → (bytes after rest : List ℕ) (magic : ℕ) (value : Record) (r : BitsRecord)
    → magic ≡ code → Takes bytes (big_bytes 4 magic) after → value ≡ Bits r → TakesBits least most after r rest → TakesRecord bytes value rest
unfolding spelled_bits
is_bits code least most spells bytes after rest magic value r named front is body =
    let magic-text : Takes bytes (bits_magic r.bits.n) after = subst (λ (t : List ℕ). Takes bytes t after) (ap (big_bytes 4) named ∙ spells r.bits.n body.from_least body.to_most) front in
    let all : Takes bytes (spelled_bits r) rest = Takes-then bytes (bits_magic r.bits.n) after (bits_body r) rest magic-text body.takes in
    subst (λ (v : Record). TakesRecord bytes v rest) (sym is) (record { takes = all; fits = body.fits; plain = body.plain })

is_rows : (bytes after rest : List ℕ) (magic : ℕ) (value : Record) (r : RowsRecord) → magic ≡ 0x53505431 → Takes bytes (big_bytes 4 magic) after → value ≡ Rows r → TakesRowsRecord after r rest → TakesRecord bytes value rest
unfolding spelled_rows
is_rows bytes after rest magic value r named front is body =
    let magic-text : Takes bytes rows_magic after = subst (λ (m : ℕ). Takes bytes (big_bytes 4 m) after) named front in
    let all : Takes bytes (spelled_rows r) rest = Takes-then bytes rows_magic after (rows_body r) rest magic-text body.takes in
    subst (λ (v : Record). TakesRecord bytes v rest) (sym is) (record { takes = all; fits = body.fits; plain = body.plain })

abbrev stopped : {A : Type 0} → ℕ → Result A ℕ
stopped left = Err left

no_ok : {A : Type 0} (left : ℕ) (x : A) → stopped left ≡ Ok x → ⊥
no_ok left x e = absurd cc

-- what stands behind a magic that is not the first, and behind one that is none of bits
abbrev pub no_bits : (size magic : ℕ) → List ℕ → Result (Record × List ℕ) ℕ
no_bits size magic bytes = cond (eqb magic 0x53505431) (rows_at bytes) (Err size)

abbrev pub no_first : (size magic : ℕ) → List ℕ → Result (Record × List ℕ) ℕ
no_first size magic bytes = cond (eqb magic 0x53504232) (bits_at (SPB1_N_MOST + 1) N_MOST bytes) (no_bits size magic bytes)

abbrev pub behind : (size : ℕ) (magic : ℕ × List ℕ) → Result (Record × List ℕ) ℕ
behind size magic = behind_magic size magic.0 magic.1

record_takes : (bytes : List ℕ) (x : Record × List ℕ) → IsBytes bytes → record_at bytes ≡ Ok x → TakesRecord bytes x.0 x.1
unfolding record_at
record_takes bytes x fits e =
    let a = bind_ok (number_in 4 0 0xffffffff bytes) (behind (length bytes)) x e in
    let t = number_takes 4 0 0xffffffff wide4 bytes a.0 fits a.1 in
    elim (chosen (eqb a.0.0 0x53504231) (bits_at N_LEAST SPB1_N_MOST a.0.1) (no_first (length bytes) a.0.0 a.0.1) (Ok x) a.2) [
      | inl p ↦
          let b = bits_take N_LEAST SPB1_N_MOST (omega arith) (omega arith) a.0.1 x t.takes.rest_fits p.1 in
          is_bits 0x53504231 N_LEAST SPB1_N_MOST first_magic bytes a.0.1 x.1 a.0.0 x.0 b.0 (eqb-true _ _ p.0) t.takes b.1 b.2
      | inr q ↦ elim (chosen (eqb a.0.0 0x53504232) (bits_at (SPB1_N_MOST + 1) N_MOST a.0.1) (no_bits (length bytes) a.0.0 a.0.1) (Ok x) q.1) [
        | inl p ↦
            let b = bits_take (SPB1_N_MOST + 1) N_MOST (omega arith) (omega arith) a.0.1 x t.takes.rest_fits p.1 in
            is_bits 0x53504232 (SPB1_N_MOST + 1) N_MOST second_magic bytes a.0.1 x.1 a.0.0 x.0 b.0 (eqb-true _ _ p.0) t.takes b.1 b.2
        | inr q ↦ elim (chosen (eqb a.0.0 0x53505431) (rows_at a.0.1) (Err (length bytes)) (Ok x) q.1) [
          | inl p ↦
              let b = all_rows_take a.0.1 x t.takes.rest_fits p.1 in
              is_rows bytes a.0.1 x.1 a.0.0 x.0 b.0 (eqb-true _ _ p.0) t.takes b.1 b.2
          | inr p ↦ absurd (no_ok (length bytes) x p.1)
        ]
      ]
    ]

-- a bits record is read again behind its magic
bits_record_again : (code least most : ℕ) → IsMagic code least most → most ≤ N_MOST → code < 256 ^ 4 → ((size : ℕ) (bytes : List ℕ) → behind_magic size code bytes ≡ bits_at least most bytes)
    → (r : BitsRecord) (rest : List ℕ) → least ≤ r.bits.n → r.bits.n ≤ most → AreBits r → ArePlainBits r → record_at (spelled (Bits r) ++ rest) ≡ Ok (Bits r, rest)
unfolding record_at spelled_bits
bits_record_again code least most spells short fits_code follows r rest low high fits plain =
    let body = bits_body r ++ rest in
    let magic : number_in 4 0 0xffffffff (bits_magic r.bits.n ++ body) ≡ Ok (code, body) = ap (λ (t : List ℕ). number_in 4 0 0xffffffff (t ++ body)) (sym (spells r.bits.n low high)) ∙ number_again 4 0 0xffffffff code body (omega arith) (omega (arith, fits_code)) fits_code in
    ap (λ (y : Result (ℕ × List ℕ) ℕ). y >>= behind (length (spelled_bits r ++ rest))) magic ∙ follows (length (spelled_bits r ++ rest)) body ∙ bits_again least most short r rest low high fits plain

record_again : (value : Record) (rest : List ℕ) → Fits value → IsPlain value → record_at (spelled value ++ rest) ≡ Ok (value, rest)
unfolding record_at spelled_rows
record_again (Bits r) rest fits plain = elim (cases_lt SPB1_N_MOST r.bits.n) [
  | inl more ↦ bits_record_again 0x53504232 (SPB1_N_MOST + 1) N_MOST second_magic (omega arith) (omega arith) (λ size bytes. refl) r rest more fits.high fits plain
  | inr less ↦ bits_record_again 0x53504231 N_LEAST SPB1_N_MOST first_magic (omega arith) (omega arith) (λ size bytes. refl) r rest fits.low less fits plain
]
record_again (Rows r) rest fits plain =
    let magic : number_in 4 0 0xffffffff (rows_magic ++ (rows_body r ++ rest)) ≡ Ok (0x53505431, rows_body r ++ rest) = number_again 4 0 0xffffffff 0x53505431 (rows_body r ++ rest) (omega arith) (omega arith) (omega arith) in
    ap (λ (y : Result (ℕ × List ℕ) ℕ). y >>= behind (length (spelled_rows r ++ rest))) magic ∙ all_rows_again r rest fits plain

-- ---- all of the bytes

pub whole_takes : (bytes : List ℕ) (value : Record) → IsBytes bytes → whole_at bytes ≡ Ok value → IsRecord bytes value × IsPlain value
unfolding whole_at
whole_takes bytes value fits e =
    let a = bind_ok (record_at bytes) (λ found. cond (eqb (length found.1) 0) (Ok found.0) (Err (length found.1))) value e in
    let g = guard_ok (eqb (length a.0.1) 0) (length a.0.1) a.0.0 value a.2 in
    let t = record_takes bytes a.0 fits a.1 in
    let nothing : a.0.1 ≡ [] = nil_from_length a.0.1 (eqb-true _ _ g.0) in
    let whole : bytes ≡ spelled a.0.0 = t.takes.parts ∙ ap (λ (r : List ℕ). spelled a.0.0 ++ r) nothing ∙ append-nil (spelled a.0.0) in
    subst (λ (v : Record). IsRecord bytes v × IsPlain v) g.1 (record { fits = t.fits; spells = whole }, t.plain)

pub whole_again : (value : Record) → Fits value → IsPlain value → whole_at (spelled value) ≡ Ok value
unfolding whole_at
whole_again value fits plain =
    ap (λ (r : Result (Record × List ℕ) ℕ). r >>= λ found. cond (eqb (length found.1) 0) (Ok found.0) (Err (length found.1)))
    (ap record_at (sym (append-nil (spelled value))) ∙ record_again value [] fits plain)

-- what the bytes are is what was read
pub is_one : (bytes : List ℕ) (got value : Record) → whole_at bytes ≡ Ok got → IsPlain value → IsRecord bytes value → got ≡ value
is_one bytes got value read plain is = ok_is got value (sym read ∙ ap whole_at is.spells ∙ whole_again value is.fits plain)

-- where reading stopped the bytes are no record
pub is_none : (bytes : List ℕ) (left : ℕ) (value : Record) → whole_at bytes ≡ Err left → IsPlain value → IsRecord bytes value → ⊥
is_none bytes left value read plain is = no_ok left value (sym read ∙ ap whole_at is.spells ∙ whole_again value is.fits plain)

unplaced_by : (size : ℕ) (read : Result Record ℕ) (value : Record) → placed size read ≡ Ok value → read ≡ Ok value
unplaced_by size (Ok got) value e = e
unplaced_by size (Err left) value e = absurd cc

pub unplaced : (bytes : List ℕ) (value : Record) → record_of bytes ≡ Ok value → whole_at bytes ≡ Ok value
unplaced bytes value e = unplaced_by (length bytes) (whole_at bytes) value e
