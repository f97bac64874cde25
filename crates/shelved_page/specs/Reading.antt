-- What comes of reading a page back from a shelf.
use Rattle.std.specs.Prelude.{ℕ, ◌≡◌, ◌≤◌, Bool, true, false, List, None, Some}
use Rattle.sha2.specs.Sha256.{sha256}
use Rattle.spie_base.specs.Causes.{Rose}
use Rattle.spie_base.specs.declared.Rules.{Rules}
use Rattle.bloom_page.specs.Sets.{PageSet}
use Rattle.packet_signature.specs.declared.Row.{Row}
use Rattle.archive_record.specs.declared.Record.{Record}
use Rattle.archive_record.specs.declared.Record.TheVariants as record_of
use Rattle.archive_record.specs.declared.BitsRecord.{BitsRecord}
use Rattle.archive_record.specs.declared.RowsRecord.{RowsRecord}
use Rattle.archive_record.specs.Spelling.{Fits, IsPlain, AreBits, AreBytes, AreRows, ArePlainBits, ArePlainRows, spelled, spelled_bits, spelled_rows}
use Rattle.page_shelf.specs.Shelves.{IsSame}
use Rattle.page_shelf.specs.declared.ShelfName.{ShelfName}
use Rattle.page_shelf.specs.declared.ShelfPart.TheVariants.{Bits, Rows}
use Rattle.router_account.specs.declared.words.Cause.{Cause}
use Rattle.router_account.specs.declared.words.Cause.TheVariants.{Failed, Other, Absent, Broken}
use Rattle.router_account.specs.Account.{Account, bits, rows_in}
use Rattle.router_account.specs.Records.{IsCause, AreTold, bits_of, rows_of, name_of, true_text}
use Rattle.router_account.specs.Shelves.{ShelfView}
use Rattle.router_account.specs.Sights.{is_failed}
use Rattle.shelved_page.specs.declared.reading.Fetched.{Fetched}
use Rattle.shelved_page.specs.declared.reading.Fetched.TheVariants.{Found, Lost}
use Rattle.shelved_page.specs.declared.reading.BitsBack.{BitsBack}
use Rattle.shelved_page.specs.declared.reading.BitsBack.TheVariants.{GotBits, LostBits}
use Rattle.shelved_page.specs.declared.reading.RowsBack.{RowsBack}
use Rattle.shelved_page.specs.declared.reading.RowsBack.TheVariants.{GotRows, LostRows}
use Rattle.shelved_page.specs.declared.reading.Content.{Content}
use Rattle.shelved_page.specs.declared.reading.Back.{Back}
use Rattle.shelved_page.specs.declared.reading.Back.TheVariants.{Got, Bad}

abbrev pub as_bits : BitsRecord → Record
as_bits r = record_of.Bits r

abbrev pub as_rows : RowsRecord → Record
as_rows r = record_of.Rows r

-- the true records of a page
abbrev pub true_bits : Rules → Account → (page : ℕ) → BitsRecord
true_bits rules a page = bits_of rules a page (bits rules a page)

abbrev pub true_rows : Account → (page : ℕ) → RowsRecord
true_rows a page = rows_of a page (rows_in a.rows page)

-- they are in their ranges
pub record IsTrueBits (rules : Rules) (a : Account) (page : ℕ) : Type 0 where
  pub fits : AreBits (true_bits rules a page)
  pub plain : ArePlainBits (true_bits rules a page)

pub record IsTrueRows (a : Account) (page : ℕ) : Type 0 where
  pub fits : AreRows (true_rows a page)
  pub plain : ArePlainRows (true_rows a page)

-- gets change nothing of a shelf that tells, and its count never falls
pub record Gets (before after : ShelfView) : Type 0 where
  pub still : after.tells ≡ before.tells
  pub same : before.tells ≡ true → IsSame before.contents after.contents
  pub later : before.faults ≤ after.faults

-- ---- one record

-- the shelf tells that this stands under a name
abbrev pub IsTold : ShelfName → (text : List ℕ) → ShelfView → Type 0
IsTold name text before = (before.tells ≡ true) × (before.contents name ≡ Some text)

-- why a record was not got
abbrev pub IsLost : ShelfName → (text : List ℕ) → (before after : ShelfView) → Cause → Type 0
IsLost name text before after Failed = Rose before.faults after.faults
IsLost name text before after (Other kept found) = (kept ≡ sha256 text) × (found ≡ kept → ⊥) × (IsTold name text before → ⊥)
IsLost name text before after Absent = (before.tells ≡ true → before.contents name ≡ None) × (IsTold name text before → ⊥)
IsLost name text before after Broken = ((bytes : List ℕ) × AreBytes bytes × (sha256 bytes ≡ sha256 text) × (bytes ≡ text → ⊥)) × (IsTold name text before → ⊥)

-- a record with the kept digest was got, and where its bytes are those that were put, that which was put
abbrev pub IsFetched : ShelfName → Record → (before after : ShelfView) → Fetched → Type 0
IsFetched name value before after (Found v) = Fits v × IsPlain v × AreBytes (spelled v) × (sha256 (spelled v) ≡ sha256 (spelled value)) × (spelled v ≡ spelled value → v ≡ value) × (IsTold name (spelled value) before → v ≡ value)
IsFetched name value before after (Lost cause) = IsLost name (spelled value) before after cause

-- bytes that a get handed out, against the record whose digest was kept
abbrev pub IsJudged : Record → (bytes : List ℕ) → Fetched → Type 0
IsJudged value bytes (Found v) = Fits v × IsPlain v × AreBytes (spelled v) × (sha256 (spelled v) ≡ sha256 (spelled value)) × (spelled v ≡ spelled value → v ≡ value) × (bytes ≡ spelled value → v ≡ value)
IsJudged value bytes (Lost Failed) = ⊥
IsJudged value bytes (Lost (Other kept found)) = (kept ≡ sha256 (spelled value)) × (found ≡ kept → ⊥) × (bytes ≡ spelled value → ⊥)
IsJudged value bytes (Lost Absent) = ⊥
IsJudged value bytes (Lost Broken) = AreBytes bytes × (sha256 bytes ≡ sha256 (spelled value)) × (bytes ≡ spelled value → ⊥)

-- ---- a page

-- whether a bits record is of a page: its router, number, k, n, seed and times
pub record IsHead (rules : Rules) (a : Account) (page : ℕ) (r : BitsRecord) (said : Bool) : Type 0 where
  pub yes : said ≡ true → r ≡ bits_of rules a page r.bits.members
  pub no : said ≡ false → r ≡ true_bits rules a page → ⊥

-- a bits record of this page with the kept digest
pub record IsGotBits (rules : Rules) (a : Account) (page : ℕ) (got : PageSet) : Type 0 where
  pub n : got.n ≡ rules.n
  pub fits : AreBits (bits_of rules a page got.members)
  pub plain : ArePlainBits (bits_of rules a page got.members)
  pub same : sha256 (spelled_bits (bits_of rules a page got.members)) ≡ sha256 (true_text rules a page Bits)

-- a rows record of this page with the kept digest
pub record IsGotRows (a : Account) (page : ℕ) (got : List Row) : Type 0 where
  pub fits : AreRows (rows_of a page got)
  pub plain : ArePlainRows (rows_of a page got)
  pub same : sha256 (spelled_rows (rows_of a page got)) ≡ sha256 (spelled_rows (true_rows a page))

abbrev pub IsBitsBack : Rules → Account → (page : ℕ) → (before after : ShelfView) → BitsBack → Type 0
IsBitsBack rules a page before after (GotBits got) = IsGotBits rules a page got × (IsTold (name_of a.router page Bits) (true_text rules a page Bits) before → got.members ≡ bits rules a page)
IsBitsBack rules a page before after (LostBits cause) = IsLost (name_of a.router page Bits) (true_text rules a page Bits) before after cause

abbrev pub IsRowsBack : Account → (page : ℕ) → (before after : ShelfView) → RowsBack → Type 0
IsRowsBack a page before after (GotRows got) = IsGotRows a page got × (IsTold (name_of a.router page Rows) (spelled_rows (true_rows a page)) before → got ≡ rows_in a.rows page)
IsRowsBack a page before after (LostRows cause) = IsLost (name_of a.router page Rows) (spelled_rows (true_rows a page)) before after cause

-- two records of this page with the kept digests
pub record IsGot (rules : Rules) (a : Account) (page : ℕ) (c : Content) : Type 0 where
  pub bits : IsGotBits rules a page c.bits
  pub rows : IsGotRows a page c.rows

-- what was recorded in a page
pub record IsTrue (rules : Rules) (a : Account) (page : ℕ) (c : Content) : Type 0 where
  pub bits : c.bits.members ≡ bits rules a page
  pub rows : c.rows ≡ rows_in a.rows page

abbrev pub IsBack : Rules → Account → (page : ℕ) → (before after : ShelfView) → Back → Type 0
IsBack rules a page before after (Got c) = IsGot rules a page c × (AreTold rules a page before → IsTrue rules a page c)
IsBack rules a page before after (Bad cause) = IsCause rules a page before after cause

-- ---- whether a fault of the shelf kept it from being read

abbrev pub failed_get : Fetched → Bool
failed_get (Found v) = false
failed_get (Lost cause) = is_failed cause

abbrev pub failed_bits : BitsBack → Bool
failed_bits (GotBits got) = false
failed_bits (LostBits cause) = is_failed cause

abbrev pub failed_rows : RowsBack → Bool
failed_rows (GotRows got) = false
failed_rows (LostRows cause) = is_failed cause

abbrev pub failed_back : Back → Bool
failed_back (Got c) = false
failed_back (Bad cause) = is_failed cause
