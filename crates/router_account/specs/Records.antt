-- The records of a router's closed pages: what a shelf holds of them, and what a query reads back.
use Rattle.std.specs.Prelude.{ℕ, ◌≡◌, List, None, Some, false, true}
use Rattle.std.specs.List.{Contains}
use Rattle.sha2.specs.Sha256.{sha256}
use Rattle.spie_base.specs.Causes.{Rose}
use Rattle.spie_base.specs.declared.Rules.{Rules}
use Rattle.hash_family.specs.Positions.{page_seed_of}
use Rattle.packet_signature.specs.declared.Row.{Row}
use Rattle.page_catalogue.specs.Pages.{opened, closed}
use Rattle.archive_record.specs.Spelling.{bits_record, rows_record, spelled_bits, spelled_rows, AreBits, AreBytes, AreRows, ArePlainBits, ArePlainRows}
use Rattle.archive_record.specs.declared.BitsHead.{BitsHead}
use Rattle.archive_record.specs.declared.BitsRecord.{BitsRecord}
use Rattle.archive_record.specs.declared.RowsRecord.{RowsRecord}
use Rattle.page_shelf.specs.Shelves.{Contents}
use Rattle.page_shelf.specs.declared.ShelfName.{ShelfName}
use Rattle.page_shelf.specs.declared.ShelfPart.{ShelfPart}
use Rattle.page_shelf.specs.declared.ShelfPart.TheVariants.{Bits, Rows}
use Rattle.router_account.specs.declared.words.Cause.{Cause}
use Rattle.router_account.specs.declared.words.Cause.TheVariants.{Failed, Other, Absent, Broken}
use Rattle.router_account.specs.Account.{Account, bits, rows_in, held}
use Rattle.router_account.specs.Ledger.{Ledger, PutBits, Unfinished, was_expired}
use Rattle.router_account.specs.Shelves.{ShelfView}
use Rattle.router_account.specs.Sights.{Reading, GotPage, UnreadPage}

-- what an account says of a page beside its bits
abbrev pub head_of : Rules → Account → (page : ℕ) → BitsHead
head_of rules a page = record {
  router = record { number = a.router };
  page = record { number = page };
  k = rules.k;
  seed = page_seed_of rules.base a.router page;
  opened = opened a.closings page;
  closed = closed a.closings page;
}

-- the records of a page that has these bits and these rows
abbrev pub bits_of : Rules → Account → (page : ℕ) → (members : List ℕ) → BitsRecord
bits_of rules a page members = bits_record (head_of rules a page) (record { n = rules.n; members = members })

abbrev pub rows_of : Account → (page : ℕ) → List Row → RowsRecord
rows_of a page rows = rows_record (record { number = a.router }) (record { number = page }) rows

-- and their bytes
abbrev pub bits_text : Rules → Account → (page : ℕ) → (members : List ℕ) → List ℕ
bits_text rules a page members = spelled_bits (bits_of rules a page members)

abbrev pub rows_text : Account → (page : ℕ) → List Row → List ℕ
rows_text a page rows = spelled_rows (rows_of a page rows)

-- those of what was recorded in it
abbrev pub true_text : Rules → Account → (page : ℕ) → ShelfPart → List ℕ
true_text rules a page Bits = bits_text rules a page (bits rules a page)
true_text rules a page Rows = rows_text a page (rows_in a.rows page)

abbrev pub name_of : (router page : ℕ) → ShelfPart → ShelfName
name_of router page part = record { router = record { number = router }; page = record { number = page }; part = part }

-- ---- what a shelf holds

-- the shelf has both true records of each page that was put and has not expired, and no name of an expired page that
-- an archival covered and no barrier left
pub record Holds (rules : Rules) (contents : Contents) (l : Ledger) : Type 0 where
  pub put : (page : ℕ) (part : ShelfPart) → Contains l.put_before page → was_expired rules l page ≡ false
      → contents (name_of l.account.router page part) ≡ Some (true_text rules l.account page part)
  pub gone : (page : ℕ) (part : ShelfPart) → was_expired rules l page ≡ true → Contains l.covered_before page → (Contains l.left_before page → ⊥)
      → contents (name_of l.account.router page part) ≡ None

-- amid a segment it has the bits records that the segment's archival put, with the bits that they had then
abbrev pub HoldsBits : Rules → Contents → Account → Unfinished → Type 0
HoldsBits rules contents a unfinished =
    (x : PutBits) → Contains unfinished.bits_put x → contents (name_of a.router x.page Bits) ≡ Some (bits_text rules a x.page x.bits)

-- these are the pages' bits, which is known once all workers' records are gathered
abbrev pub ArePageBits : Rules → Account → Unfinished → Type 0
ArePageBits rules a unfinished = (x : PutBits) → Contains unfinished.bits_put x → x.bits ≡ bits rules a x.page

-- the names of other routers stand as before
abbrev pub KeepsOthers : (router : ℕ) → (before after : Contents) → Type 0
KeepsOthers router before after = (name : ShelfName) → (name.router.number ≡ router → ⊥) → after name ≡ before name

-- ---- what a query reads back

-- two records of this page with the digests of the true ones
pub record HasDigests (rules : Rules) (a : Account) (x : GotPage) : Type 0 where
  pub bits_fit : AreBits (bits_of rules a x.page x.held.bits)
  pub bits_plain : ArePlainBits (bits_of rules a x.page x.held.bits)
  pub bits_same : sha256 (bits_text rules a x.page x.held.bits) ≡ sha256 (true_text rules a x.page Bits)
  pub rows_fit : AreRows (rows_of a x.page x.held.rows)
  pub rows_plain : ArePlainRows (rows_of a x.page x.held.rows)
  pub rows_same : sha256 (rows_text a x.page x.held.rows) ≡ sha256 (true_text rules a x.page Rows)

abbrev pub HaveDigests : Rules → Account → Reading → Type 0
HaveDigests rules a reading = (x : GotPage) → Contains reading.got x → HasDigests rules a x

-- all that was read is what was recorded
abbrev pub AreTrue : Rules → Account → Reading → Type 0
AreTrue rules a reading = (x : GotPage) → Contains reading.got x → x.held ≡ held rules a x.page

-- only faults of the shelf made pages unreadable
abbrev pub AllFailed : Reading → Type 0
AllFailed reading = (x : UnreadPage) → Contains reading.unread x → x.cause ≡ Failed

-- the shelf tells both true records of a page
abbrev pub AreTold : Rules → Account → (page : ℕ) → ShelfView → Type 0
AreTold rules a page view = (view.tells ≡ true) × ((part : ShelfPart) → view.contents (name_of a.router page part) ≡ Some (true_text rules a page part))

-- when a page may be unreadable for a cause, by the shelf before and after it was asked: its count of faults rose; the
-- bytes have another digest than those that were put; nothing is there; other bytes with the digest are there, each
-- below 256. Nothing but a fault comes where the shelf tells both true records.
abbrev pub IsCause : Rules → Account → (page : ℕ) → (before after : ShelfView) → Cause → Type 0
IsCause rules a page before after Failed = Rose before.faults after.faults
IsCause rules a page before after (Other kept found) =
    ((part : ShelfPart) × (kept ≡ sha256 (true_text rules a page part))) × (found ≡ kept → ⊥) × (AreTold rules a page before → ⊥)
IsCause rules a page before after Absent =
    ((part : ShelfPart) × (before.tells ≡ true → before.contents (name_of a.router page part) ≡ None)) × (AreTold rules a page before → ⊥)
IsCause rules a page before after Broken =
    ((part : ShelfPart) × (bytes : List ℕ) × AreBytes bytes × (sha256 bytes ≡ sha256 (true_text rules a page part)) × (bytes ≡ true_text rules a page part → ⊥))
    × (AreTold rules a page before → ⊥)
