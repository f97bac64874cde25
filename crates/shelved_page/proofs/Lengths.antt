-- The greatest lengths of records.
use Rattle.std.proofs.Common.{ℕ, suc, ◌≡◌, ◌≤◌, ◌+◌, ◌-◌, ◌*◌, ◌^◌, List, [], ◌∷◌, ◌++◌, length, refl, ◌∙◌, arith}
use Rattle.std.specs.List.{All, flat_map}
use Rattle.std.specs.Int.{w32, w64, to_be_bytes}
use Rattle.std.proofs.lemmas.List.{length-append}
use Rattle.std.proofs.lemmas.List.Elements.{All-head, All-tail}
use Rattle.std.proofs.Math.Pow.{pow_mono}
use Rattle.spie_base.specs.Shapes.{most_words}
use Rattle.spie_base.specs.declared.types.TheConstants.{N_LEAST, N_MOST}
use Rattle.bloom_page.specs.Sets.{words_of}
use Rattle.bloom_page.proofs.WordFacts.{length-words_of}
use Rattle.packet_signature.specs.declared.Row.{Row}
use Rattle.packet_signature.specs.declared.RowData.{RowData}
use Rattle.packet_signature.specs.declared.RowData.TheVariants.{Direct, Indirect}
use Rattle.archive_record.specs.declared.BitsRecord.{BitsRecord}
use Rattle.archive_record.specs.declared.RowsRecord.{RowsRecord}
use Rattle.archive_record.specs.Spelling.{ArePlainRows, IsPlainRow, IsPlainData, spelled_bits, spelled_rows, spelled_row, spelled_data, kind_code}

four : (n : ℕ) → length (to_be_bytes w32 n) ≡ 4
four n = refl

eight : (n : ℕ) → length (to_be_bytes w64 n) ≡ 8
eight n = refl

words_length : (words : List ℕ) → length (flat_map (to_be_bytes w64) words) ≡ 8 * length words
words_length [] = refl
words_length (w ∷ ws) = length-append (to_be_bytes w64 w) (flat_map (to_be_bytes w64) ws) ∙ (let r = words_length ws in let e = eight w in omega arith)

data_length : (d : RowData) → IsPlainData d → length (spelled_data d) ≤ 29
data_length (Direct old) h = let len = h.0 in omega arith
data_length (Indirect old) h = let len = h.0 in omega arith

row_length : (row : Row) → IsPlainRow row → length (spelled_row row) ≤ 38
row_length row plain =
    let d = data_length row.old plain.old in
    let e = eight row.key in
    let len : length (spelled_row row) ≡ length (to_be_bytes w64 row.key) + suc (length (spelled_data row.old)) = length-append (to_be_bytes w64 row.key) (kind_code row.kind ∷ spelled_data row.old) in
    omega arith

rows_length : (rows : List Row) → All IsPlainRow rows → length (flat_map spelled_row rows) ≤ 38 * length rows
rows_length [] h = omega arith
rows_length (r ∷ rs) h =
    let one = row_length r (All-head IsPlainRow r rs h) in
    let rest = rows_length rs (All-tail IsPlainRow r rs h) in
    let len : length (spelled_row r ++ flat_map spelled_row rs) ≡ length (spelled_row r) + length (flat_map spelled_row rs) = length-append (spelled_row r) (flat_map spelled_row rs) in
    omega arith

pub short_rows : (r : RowsRecord) → ArePlainRows r → length r.rows ≤ 1000000 → length (spelled_rows r) ≤ 38000016
unfolding spelled_rows
short_rows r plain few =
    let rest = rows_length r.rows plain.rows in
    let a = length-append (to_be_bytes w32 (length r.rows)) (flat_map spelled_row r.rows) in
    let b = length-append (to_be_bytes w32 r.page.number) (to_be_bytes w32 (length r.rows) ++ flat_map spelled_row r.rows) in
    let c = length-append (to_be_bytes w32 r.router.number) (to_be_bytes w32 r.page.number ++ (to_be_bytes w32 (length r.rows) ++ flat_map spelled_row r.rows)) in
    let x = four (length r.rows) in let y = four r.page.number in let z = four r.router.number in
    omega arith

few_words : (n : ℕ) → n ≤ N_MOST → 2 ^ (n - N_LEAST) ≤ most_words
few_words n le = let few : n - N_LEAST ≤ N_MOST - N_LEAST = omega arith in pow_mono few

pub short_bits : (r : BitsRecord) → r.bits.n ≤ N_MOST → length (spelled_bits r) ≤ 40 + 8 * most_words
unfolding spelled_bits
short_bits r high =
    let words = words_of r.bits in
    let w = words_length words in
    let n : length words ≡ 2 ^ (r.bits.n - N_LEAST) = length-words_of r.bits in
    let p = few_words r.bits.n high in
    let tail = flat_map (to_be_bytes w64) words in
    let a = length-append (to_be_bytes w64 r.closed) tail in
    let b = length-append (to_be_bytes w64 r.opened) (to_be_bytes w64 r.closed ++ tail) in
    let c = length-append (to_be_bytes w64 r.seed) (to_be_bytes w64 r.opened ++ (to_be_bytes w64 r.closed ++ tail)) in
    let d = length-append (to_be_bytes w32 r.page.number) (r.k ∷ r.bits.n ∷ 0 ∷ 0 ∷ (to_be_bytes w64 r.seed ++ (to_be_bytes w64 r.opened ++ (to_be_bytes w64 r.closed ++ tail)))) in
    let e = length-append (to_be_bytes w32 r.router.number) (to_be_bytes w32 r.page.number ++ (r.k ∷ r.bits.n ∷ 0 ∷ 0 ∷ (to_be_bytes w64 r.seed ++ (to_be_bytes w64 r.opened ++ (to_be_bytes w64 r.closed ++ tail))))) in
    let x1 = eight r.closed in let x2 = eight r.opened in let x3 = eight r.seed in let y1 = four r.page.number in let y2 = four r.router.number in
    omega arith
