-- The one spelling of a record. Numbers are big-endian.
use Rattle.std.specs.Prelude.{ℕ, ◌^◌, ◌<◌, ◌≤◌, ◌≡◌, List, [], ◌∷◌, ◌++◌, length, slice_index, nat_le, if◌then◌else◌}
use Rattle.std.specs.List.{flat_map, All}
use Rattle.std.specs.Int.{w32, w64, to_be_bytes}
use Rattle.spie_base.specs.declared.PageNo.{PageNo}
use Rattle.spie_base.specs.declared.RouterId.{RouterId}
use Rattle.spie_base.specs.declared.types.TheConstants.{N_LEAST, N_MOST}
use Rattle.bloom_page.specs.Bits.{members_of}
use Rattle.bloom_page.specs.Sets.{PageSet, words_of}
use Rattle.packet_signature.specs.declared.Kind.{Kind}
use Rattle.packet_signature.specs.declared.Kind.TheVariants.{Frag, Nat, Icmp, Ipip, Decap}
use Rattle.packet_signature.specs.declared.RowData.{RowData}
use Rattle.packet_signature.specs.declared.RowData.TheVariants.{Direct, Indirect}
use Rattle.packet_signature.specs.declared.Row.{Row}
use Rattle.archive_record.specs.declared.records.BitsHead.{BitsHead}
use Rattle.archive_record.specs.declared.records.BitsRecord.{BitsRecord}
use Rattle.archive_record.specs.declared.records.RowsRecord.{RowsRecord}
use Rattle.archive_record.specs.declared.records.Record.{Record}
use Rattle.archive_record.specs.declared.records.Record.TheVariants.{Bits, Rows}
use Rattle.archive_record.specs.declared.records.TheConstants.{SPB1_N_MOST}

-- a bits record of a page, and a rows record
abbrev pub bits_record : BitsHead → PageSet → BitsRecord
bits_record head bits = record { router = head.router; page = head.page; k = head.k; seed = head.seed; opened = head.opened; closed = head.closed; bits = bits }

abbrev pub rows_record : RouterId → PageNo → List Row → RowsRecord
rows_record router page rows = record { router = router; page = page; rows = rows }

-- `SPB1` for positions of 6 to 16 bits, and `SPB2` for longer ones
abbrev pub bits_magic : (n : ℕ) → List ℕ
bits_magic n = 0x53 ∷ 0x50 ∷ 0x42 ∷ (if nat_le n SPB1_N_MOST then 0x31 else 0x32) ∷ []

-- `SPT1`
abbrev pub rows_magic : List ℕ
rows_magic = 0x53 ∷ 0x50 ∷ 0x54 ∷ 0x31 ∷ []

abbrev pub kind_code : Kind → ℕ
kind_code Frag = 1
kind_code Nat = 2
kind_code Icmp = 3
kind_code Ipip = 4
kind_code Decap = 5

-- a flag, and the old bytes or the old signature
abbrev pub spelled_data : RowData → List ℕ
spelled_data (Direct old) = 0 ∷ old
spelled_data (Indirect old) = 1 ∷ old.bytes

abbrev pub spelled_row : Row → List ℕ
spelled_row row = to_be_bytes w64 row.key ++ (kind_code row.kind ∷ spelled_data row.old)

unfoldable pub spelled_bits : BitsRecord → List ℕ
spelled_bits r = bits_magic r.bits.n ++ (to_be_bytes w32 r.router.number ++ (to_be_bytes w32 r.page.number ++ (r.k ∷ r.bits.n ∷ 0 ∷ 0 ∷ (to_be_bytes w64 r.seed ++ (to_be_bytes w64 r.opened ++ (to_be_bytes w64 r.closed ++ flat_map (to_be_bytes w64) (words_of r.bits)))))))

unfoldable pub spelled_rows : RowsRecord → List ℕ
spelled_rows r = rows_magic ++ (to_be_bytes w32 r.router.number ++ (to_be_bytes w32 r.page.number ++ (to_be_bytes w32 (length r.rows) ++ flat_map spelled_row r.rows)))

-- only a `frag` row is direct
abbrev pub IsRow : Kind → RowData → Type 0
IsRow kind (Direct old) = kind ≡ Frag
IsRow kind (Indirect old) = Unit {0}

-- the fields are in their ranges
pub record AreBits (r : BitsRecord) : Type 0 where
  pub router : r.router.number < 64
  pub some : 1 ≤ r.k
  pub most : r.k ≤ 8
  pub low : N_LEAST ≤ r.bits.n
  pub high : r.bits.n ≤ N_MOST
  pub opened : r.opened < 2 ^ 48
  pub after : r.opened ≤ r.closed
  pub closed : r.closed < 2 ^ 48

pub record AreRows (r : RowsRecord) : Type 0 where
  pub router : r.router.number < 64
  pub count : length r.rows ≤ 1000000
  pub rows : All (λ row. IsRow row.kind row.old) r.rows

abbrev pub spelled : Record → List ℕ
spelled (Bits r) = spelled_bits r
spelled (Rows r) = spelled_rows r

-- a value that has a spelling
abbrev pub Fits : Record → Type 0
Fits (Bits r) = AreBits r
Fits (Rows r) = AreRows r

-- the bytes are a record, and the value is what they spell
pub record IsRecord (bytes : List ℕ) (value : Record) : Type 0 where
  pub fits : Fits value
  pub spells : bytes ≡ spelled value

-- what a value of these types always is, where a list or a number of a model need not be: without it, 1, 0 and 0, 256 would
-- have one digest
abbrev pub AreBytes : List ℕ → Type 0
AreBytes bytes = (i : ℕ) → slice_index bytes i < 256

abbrev pub IsPlainData : RowData → Type 0
IsPlainData (Direct old) = (length old ≡ 4) × AreBytes old
IsPlainData (Indirect old) = (length old.bytes ≡ 28) × AreBytes old.bytes

pub record IsPlainRow (row : Row) : Type 0 where
  pub key : row.key < 2 ^ 64
  pub old : IsPlainData row.old

pub record ArePlainBits (r : BitsRecord) : Type 0 where
  pub page : r.page.number < 2 ^ 32
  pub seed : r.seed < 2 ^ 64
  pub bits : members_of (words_of r.bits) ≡ r.bits.members

pub record ArePlainRows (r : RowsRecord) : Type 0 where
  pub page : r.page.number < 2 ^ 32
  pub rows : All IsPlainRow r.rows

abbrev pub IsPlain : Record → Type 0
IsPlain (Bits r) = ArePlainBits r
IsPlain (Rows r) = ArePlainRows r
