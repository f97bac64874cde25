-- Rows, read and read again.
use Rattle.std.proofs.Common.{◌≡◌, ℕ, zero, suc, ◌≤◌, List, [], ◌∷◌, ◌++◌, length, All, Result, Ok, refl, sym, ap, subst, ◌∙◌, append_assoc, arith}
use Rattle.std.specs.Int.{w64, to_be_bytes}
use Rattle.std.specs.List.{flat_map}
use Rattle.std.proofs.lemmas.List.Elements.{All-nil, All-cons, All-head, All-tail}
use Rattle.std.proofs.lemmas.List.Concat.{flat_map-cons}
use Rattle.packet_signature.specs.declared.Kind.{Kind}
use Rattle.packet_signature.specs.declared.Kind.TheVariants.{Frag, Nat, Icmp, Ipip, Decap}
use Rattle.packet_signature.specs.declared.RowData.{RowData}
use Rattle.packet_signature.specs.declared.RowData.TheVariants.{Direct, Indirect}
use Rattle.packet_signature.specs.declared.Row.{Row}
use Rattle.archive_record.specs.Spelling.{kind_code, spelled_data, spelled_row, IsRow, IsPlainData, IsPlainRow}
use Rattle.archive_record.specs.Reading.{◌>>=◌, number_in, bytes_in, kind_of, kind_at, least_flag, old_in, old_at, row_at, rows_in}
use Rattle.archive_record.proofs.FieldFacts.{IsBytes, bind_ok, ok_is, Takes, Takes-then, wide1, wide8, number_takes, number_again, bytes_take, bytes_again}
use Rattle.archive_record.proofs.HeadFacts.{one_byte}

-- ---- kinds

code_back : (code : ℕ) → 1 ≤ code → code ≤ 5 → kind_code (kind_of code) ≡ code
code_back zero some most = absurd (omega (arith, some))
code_back (suc zero) some most = refl
code_back (suc (suc zero)) some most = refl
code_back (suc (suc (suc zero))) some most = refl
code_back (suc (suc (suc (suc zero)))) some most = refl
code_back (suc (suc (suc (suc (suc zero))))) some most = refl
code_back (suc (suc (suc (suc (suc (suc code)))))) some most = absurd (omega (arith, most))

abbrev pub kind_made : (code : ℕ × List ℕ) → Kind × List ℕ
kind_made code = (kind_of code.0, code.1)

pub kind_takes : (bytes : List ℕ) (x : Kind × List ℕ) → IsBytes bytes → kind_at bytes ≡ Ok x → Takes bytes (kind_code x.0 ∷ []) x.1
unfolding kind_at
kind_takes bytes x fits e =
    let a = bind_ok (number_in 1 1 5 bytes) (λ code. Ok (kind_made code)) x e in
    let t = number_takes 1 1 5 wide1 bytes a.0 fits a.1 in
    let text : Takes bytes (a.0.0 ∷ []) a.0.1 = subst (λ (u : List ℕ). Takes bytes u a.0.1) (one_byte a.0.0 (omega (arith, t.below))) t.takes in
    let coded : Takes bytes (kind_code (kind_of a.0.0) ∷ []) a.0.1 = subst (λ (n : ℕ). Takes bytes (n ∷ []) a.0.1) (sym (code_back a.0.0 t.above t.below)) text in
    subst (λ (y : Kind × List ℕ). Takes bytes (kind_code y.0 ∷ []) y.1) (ok_is (kind_made a.0) x a.2) coded

pub kind_again : (kind : Kind) (rest : List ℕ) → kind_at (kind_code kind ∷ rest) ≡ Ok (kind, rest)
unfolding kind_at
kind_again Frag rest = rw (number_again 1 1 5 1 rest (omega arith) (omega arith) (omega arith)) refl
kind_again Nat rest = rw (number_again 1 1 5 2 rest (omega arith) (omega arith) (omega arith)) refl
kind_again Icmp rest = rw (number_again 1 1 5 3 rest (omega arith) (omega arith) (omega arith)) refl
kind_again Ipip rest = rw (number_again 1 1 5 4 rest (omega arith) (omega arith) (omega arith)) refl
kind_again Decap rest = rw (number_again 1 1 5 5 rest (omega arith) (omega arith) (omega arith)) refl

-- ---- old bytes or signature

pub record TakesOld (kind : Kind) (bytes : List ℕ) (x : RowData × List ℕ) : Type 0 where
  pub takes : Takes bytes (spelled_data x.0) x.1
  pub allowed : IsRow kind x.0
  pub plain : IsPlainData x.0

abbrev pub direct_made : (old : List ℕ × List ℕ) → RowData × List ℕ
direct_made old = (Direct old.0, old.1)

abbrev pub indirect_made : (old : List ℕ × List ℕ) → RowData × List ℕ
indirect_made old = (Indirect record { bytes = old.0 }, old.1)

frag_is : (kind : Kind) → least_flag kind ≤ 0 → kind ≡ Frag
frag_is Frag h = refl
frag_is Nat h = absurd (omega (arith, h))
frag_is Icmp h = absurd (omega (arith, h))
frag_is Ipip h = absurd (omega (arith, h))
frag_is Decap h = absurd (omega (arith, h))

behind_takes : (kind : Kind) (flag : ℕ) (bytes after : List ℕ) (x : RowData × List ℕ) → least_flag kind ≤ flag → flag ≤ 1 → Takes bytes (flag ∷ []) after → old_in flag after ≡ Ok x → TakesOld kind bytes x
behind_takes kind zero bytes after x least most front e =
    let a = bind_ok (bytes_in 4 after) (λ old. Ok (direct_made old)) x e in
    let t = bytes_take 4 after a.0 front.rest_fits a.1 in
    subst (λ (y : RowData × List ℕ). TakesOld kind bytes y) (ok_is (direct_made a.0) x a.2)
    (record { takes = Takes-then bytes (0 ∷ []) after a.0.0 a.0.1 front t.takes; allowed = frag_is kind least; plain = (t.len, t.fits) })
behind_takes kind (suc zero) bytes after x least most front e =
    let a = bind_ok (bytes_in 28 after) (λ old. Ok (indirect_made old)) x e in
    let t = bytes_take 28 after a.0 front.rest_fits a.1 in
    subst (λ (y : RowData × List ℕ). TakesOld kind bytes y) (ok_is (indirect_made a.0) x a.2)
    (record { takes = Takes-then bytes (1 ∷ []) after a.0.0 a.0.1 front t.takes; allowed = tt; plain = (t.len, t.fits) })
behind_takes kind (suc (suc flag)) bytes after x least most front e = absurd (omega (arith, most))

pub old_takes : (kind : Kind) (bytes : List ℕ) (x : RowData × List ℕ) → IsBytes bytes → old_at kind bytes ≡ Ok x → TakesOld kind bytes x
unfolding old_at
old_takes kind bytes x fits e =
    let a = bind_ok (number_in 1 (least_flag kind) 1 bytes) (λ flag. old_in flag.0 flag.1) x e in
    let t = number_takes 1 (least_flag kind) 1 wide1 bytes a.0 fits a.1 in
    let text : Takes bytes (a.0.0 ∷ []) a.0.1 = subst (λ (u : List ℕ). Takes bytes u a.0.1) (one_byte a.0.0 (omega (arith, t.below))) t.takes in
    behind_takes kind a.0.0 bytes a.0.1 x t.above t.below text a.2

least_most : (kind : Kind) → least_flag kind ≤ 1
least_most Frag = omega arith
least_most Nat = omega arith
least_most Icmp = omega arith
least_most Ipip = omega arith
least_most Decap = omega arith

pub old_again : (kind : Kind) (old : RowData) (rest : List ℕ) → IsRow kind old → IsPlainData old → old_at kind (spelled_data old ++ rest) ≡ Ok (old, rest)
unfolding old_at
old_again kind (Direct old) rest allowed plain =
    let least : least_flag kind ≤ 0 = subst (λ (k : Kind). least_flag k ≤ 0) (sym allowed) (omega arith) in
    let flag : number_in 1 (least_flag kind) 1 (0 ∷ (old ++ rest)) ≡ Ok (0, old ++ rest) = number_again 1 (least_flag kind) 1 0 (old ++ rest) least (omega arith) (omega arith) in
    ap (λ (r : Result (ℕ × List ℕ) ℕ). r >>= λ flag. old_in flag.0 flag.1) flag
    ∙ ap (λ (r : Result (List ℕ × List ℕ) ℕ). r >>= λ x. Ok (direct_made x)) (bytes_again 4 old rest plain.0)
old_again kind (Indirect old) rest allowed plain =
    let flag : number_in 1 (least_flag kind) 1 (1 ∷ (old.bytes ++ rest)) ≡ Ok (1, old.bytes ++ rest) = number_again 1 (least_flag kind) 1 1 (old.bytes ++ rest) (least_most kind) (omega arith) (omega arith) in
    ap (λ (r : Result (ℕ × List ℕ) ℕ). r >>= λ flag. old_in flag.0 flag.1) flag
    ∙ ap (λ (r : Result (List ℕ × List ℕ) ℕ). r >>= λ x. Ok (indirect_made x)) (bytes_again 28 old.bytes rest plain.0)

-- ---- a row

pub record TakesRow (bytes : List ℕ) (x : Row × List ℕ) : Type 0 where
  pub takes : Takes bytes (spelled_row x.0) x.1
  pub allowed : IsRow x.0.kind x.0.old
  pub plain : IsPlainRow x.0

abbrev pub row_made : (key : ℕ × List ℕ) (kind : Kind × List ℕ) (old : RowData × List ℕ) → Row × List ℕ
row_made key kind old = (record { key = key.0; kind = kind.0; old = old.0 }, old.1)

pub row_takes : (bytes : List ℕ) (x : Row × List ℕ) → IsBytes bytes → row_at bytes ≡ Ok x → TakesRow bytes x
unfolding row_at
row_takes bytes x fits e =
    let a = bind_ok (number_in 8 0 0xffffffffffffffff bytes) (λ key. kind_at key.1 >>= λ kind. old_at kind.0 kind.1 >>= λ old. Ok (row_made key kind old)) x e in
    let b = bind_ok (kind_at a.0.1) (λ kind. old_at kind.0 kind.1 >>= λ old. Ok (row_made a.0 kind old)) x a.2 in
    let c = bind_ok (old_at b.0.0 b.0.1) (λ old. Ok (row_made a.0 b.0 old)) x b.2 in
    let t0 = number_takes 8 0 0xffffffffffffffff wide8 bytes a.0 fits a.1 in
    let t1 = kind_takes a.0.1 b.0 t0.takes.rest_fits b.1 in
    let t2 = old_takes b.0.0 b.0.1 c.0 t1.rest_fits c.1 in
    subst (λ (y : Row × List ℕ). TakesRow bytes y) (ok_is (row_made a.0 b.0 c.0) x c.2)
    (record { takes = Takes-then bytes (to_be_bytes w64 a.0.0) a.0.1 (kind_code b.0.0 ∷ spelled_data c.0.0) c.0.1 t0.takes (Takes-then a.0.1 (kind_code b.0.0 ∷ []) b.0.1 (spelled_data c.0.0) c.0.1 t1 t2.takes); allowed = t2.allowed; plain = record { key = omega (arith, t0.below); old = t2.plain } })

pub row_again : (row : Row) (rest : List ℕ) → IsRow row.kind row.old → IsPlainRow row → row_at (spelled_row row ++ rest) ≡ Ok (row, rest)
unfolding row_at
row_again row rest allowed plain =
    let key : number_in 8 0 0xffffffffffffffff (to_be_bytes w64 row.key ++ (kind_code row.kind ∷ (spelled_data row.old ++ rest))) ≡ Ok (row.key, kind_code row.kind ∷ (spelled_data row.old ++ rest)) =
    number_again 8 0 0xffffffffffffffff row.key (kind_code row.kind ∷ (spelled_data row.old ++ rest)) (omega arith) (omega (arith, plain.key)) (omega (arith, plain.key)) in
    ap (λ (r : Result (ℕ × List ℕ) ℕ). r >>= λ key. kind_at key.1 >>= λ kind. old_at kind.0 kind.1 >>= λ old. Ok (row_made key kind old)) key
    ∙ ap (λ (r : Result (Kind × List ℕ) ℕ). r >>= λ kind. old_at kind.0 kind.1 >>= λ old. Ok (row_made (row.key, []) kind old)) (kind_again row.kind (spelled_data row.old ++ rest))
    ∙ ap (λ (r : Result (RowData × List ℕ) ℕ). r >>= λ old. Ok (row_made (row.key, []) (row.kind, []) old)) (old_again row.kind row.old rest allowed plain.old)

-- ---- rows

pub record TakesRows (count : ℕ) (bytes : List ℕ) (x : List Row × List ℕ) : Type 0 where
  pub takes : Takes bytes (flat_map spelled_row x.0) x.1
  pub size : length x.0 ≡ count
  pub allowed : All (λ row. IsRow row.kind row.old) x.0
  pub plain : All IsPlainRow x.0

abbrev pub rows_made : (first : Row) (others : List Row × List ℕ) → List Row × List ℕ
rows_made first others = (first ∷ others.0, others.1)

pub rows_take : (count : ℕ) (bytes : List ℕ) (x : List Row × List ℕ) → IsBytes bytes → rows_in count bytes ≡ Ok x → TakesRows count bytes x
unfolding rows_in
rows_take zero bytes x fits e =
    subst (λ (y : List Row × List ℕ). TakesRows 0 bytes y) (ok_is ([], bytes) x e)
    (record { takes = record { parts = refl; rest_fits = fits }; size = refl; allowed = All-nil (λ row. IsRow row.kind row.old); plain = All-nil IsPlainRow })
rows_take (suc count) bytes x fits e =
    let a = bind_ok (row_at bytes) (λ first. rows_in count first.1 >>= λ others. Ok (rows_made first.0 others)) x e in
    let b = bind_ok (rows_in count a.0.1) (λ others. Ok (rows_made a.0.0 others)) x a.2 in
    let first = row_takes bytes a.0 fits a.1 in
    let others = rows_take count a.0.1 b.0 first.takes.rest_fits b.1 in
    let both = Takes-then bytes (spelled_row a.0.0) a.0.1 (flat_map spelled_row b.0.0) b.0.1 first.takes others.takes in
    let whole : Takes bytes (flat_map spelled_row (a.0.0 ∷ b.0.0)) b.0.1 = subst (λ (t : List ℕ). Takes bytes t b.0.1) (sym (flat_map-cons spelled_row a.0.0 b.0.0)) both in
    subst (λ (y : List Row × List ℕ). TakesRows (suc count) bytes y) (ok_is (rows_made a.0.0 b.0) x b.2)
    (record { takes = whole; size = ap suc others.size; allowed = All-cons (λ row. IsRow row.kind row.old) a.0.0 b.0.0 first.allowed others.allowed; plain = All-cons IsPlainRow a.0.0 b.0.0 first.plain others.plain })

pub rows_again : (rows : List Row) (rest : List ℕ) → All (λ row. IsRow row.kind row.old) rows → All IsPlainRow rows → rows_in (length rows) (flat_map spelled_row rows ++ rest) ≡ Ok (rows, rest)
unfolding rows_in
rows_again [] rest allowed plain = refl
rows_again (row ∷ rows) rest allowed plain =
    let regrouped : flat_map spelled_row (row ∷ rows) ++ rest ≡ spelled_row row ++ (flat_map spelled_row rows ++ rest) = ap (λ (t : List ℕ). t ++ rest) (flat_map-cons spelled_row row rows) ∙ append_assoc (spelled_row row) (flat_map spelled_row rows) rest in
    ap (rows_in (suc (length rows))) regrouped
    ∙ ap (λ (r : Result (Row × List ℕ) ℕ). r >>= λ first. rows_in (length rows) first.1 >>= λ others. Ok (rows_made first.0 others)) (row_again row (flat_map spelled_row rows ++ rest) (All-head (λ row. IsRow row.kind row.old) row rows allowed) (All-head IsPlainRow row rows plain))
    ∙ ap (λ (r : Result (List Row × List ℕ) ℕ). r >>= λ others. Ok (rows_made row others)) (rows_again rows rest (All-tail (λ row. IsRow row.kind row.old) row rows allowed) (All-tail IsPlainRow row rows plain))
