-- For which ledger an agent stands. No public clause looks into it.
use Rattle.std.specs.Prelude.{ℕ, ◌≡◌, ◌≤◌, ◌<◌, ◌+◌, ◌-◌, ◌^◌, ◌↔◌, ◌||◌, List, [], All, Bool, true, false, length, map, filter, slice_index_or, nat_lt, is_some, Option, Some, None, Vec, if◌then◌else◌}
use Rattle.std.specs.List.{Contains}
use Rattle.std.specs.declared.alloc.Global.{Global}
use Rattle.sha2.specs.Sha256.{sha256}
use Rattle.spie_base.specs.Shapes.{AreInRange, shape_of}
use Rattle.spie_base.specs.declared.Entry.{Entry}
use Rattle.spie_base.specs.declared.PageShape.{PageShape}
use Rattle.spie_base.specs.declared.Rules.{Rules}
use Rattle.bloom_page.specs.Sets.{is_in}
use Rattle.packet_signature.specs.declared.Row.{Row}
use Rattle.archive_record.specs.Spelling.{IsRow, IsPlainRow}
use Rattle.gate_core.specs.declared.view.Role.TheVariants.{Keeper}
use Rattle.gate_core.specs.Invariant.{SlotsFit}
use Rattle.page_gate.specs.Held.{Held}
use Rattle.page_gate.specs.Slots.{HasOpen, IsWaiting}
use Rattle.page_gate.specs.Slots.{open_page as page_open}
use Rattle.page_catalogue.specs.Catalogues.{AreExpired}
use Rattle.page_catalogue.specs.Pages.{AreAscending}
use Rattle.page_shelf.specs.declared.ShelfPart.TheVariants.{Bits, Rows}
use Rattle.shelved_page.specs.declared.shelving.Digests.{Digests}
use Rattle.router_account.specs.Account.{Account, fill, rows_in}
use Rattle.router_account.specs.Barriers.{AreRising, IsCovered, archive_view}
use Rattle.router_account.specs.Records.{true_text}
use Rattle.transform_table.specs.Tables.{rows_of_page}
use Rattle.router_account.specs.Ledger.{Ledger, PutBits, Unfinished}
use Rattle.data_agent.specs.declared.agent.Agent.{Agent}
use Rattle.data_agent.specs.declared.archival.Note.{Note}
use Rattle.data_agent.specs.declared.archival.NotedBits.{NotedBits}
use Rattle.data_agent.specs.declared.archival.NotedBits.TheVariants.{Stored, Refused, Deferred}
use Rattle.data_agent.specs.declared.closed_page.ClosedPage.{ClosedPage}
use Rattle.data_agent.specs.declared.closed_page.Whereabouts.{Whereabouts}
use Rattle.data_agent.specs.declared.closed_page.Whereabouts.TheVariants.{InMemory, OnShelf}
use Rattle.data_agent.specs.Members.{HaveSameMembers}
use Rattle.data_agent.specs.Residents.{IsResident}

-- a clock that is not before the last barrier's and no closing's is not before the agent's
abbrev pub IsClock : Ledger → (clock : ℕ) → Type 0
IsClock l clock =
    (later : ℕ) → l.clock_then ≤ later → ((time : ℕ) → Contains l.account.closings time → time ≤ later) → clock ≤ later

-- times of closings, which a record of a page can spell
pub record AreTimes (closings : List ℕ) : Type 0 where
  pub ascend : AreAscending closings
  pub fit : (time : ℕ) → Contains closings time → time < 2 ^ 48

-- the keeper of an agent, on a plane of this shape: it has these entries in any order, page `last` is open, and the pages from `first` on and before
-- that one are closed and stand in slots, and no others do
pub record IsKeeping (shape : PageShape) (keeper : Held) (entries : List Entry) (first last : ℕ) : Type 0 where
  pub role : keeper.view.role ≡ Keeper
  pub alone : keeper.view.duties.out ≡ 0
  pub has : HaveSameMembers keeper.view.entries entries
  pub fits : SlotsFit shape keeper.view.duties
  pub has_open : HasOpen keeper.view.duties
  pub open_is : page_open keeper.view.duties ≡ last
  pub order : first ≤ last
  pub stand : (page : ℕ) → first ≤ page → page < last → IsWaiting keeper.view.duties page
  pub only : (page : ℕ) → IsWaiting keeper.view.duties page → (first ≤ page) × (page < last)

-- the first page that stands in a slot: those before it have expired or were collected
abbrev pub standing : Agent → ℕ
standing agent = agent.catalogue.gone + length agent.closed.items

-- the agent's pages are those of an account: the open one, and behind the expired ones the closed ones
pub record HasPages (agent : Agent) (rules : Rules) (a : Account) : Type 0 where
  pub ranges : AreInRange rules.k rules.n
  pub router_fits : a.router < 64
  pub rules_are : agent.rules ≡ rules
  pub router : agent.router.number ≡ a.router
  pub by_rules : agent.catalogue.rules ≡ rules
  pub closings : agent.catalogue.closings ≡ a.closings
  pub times : AreTimes a.closings
  pub few : length a.closings < 2 ^ 32 - 1
  pub page : agent.page.number ≡ length a.closings
  pub entered : All (λ entry. entry.page.number ≤ length a.closings) a.entries
  pub marked : fill rules a (length a.closings) ≤ agent.marked
  pub keeping : IsKeeping (shape_of rules a.router) agent.keeper a.entries (standing agent) (length a.closings)

-- ---- closed pages

-- the digests of both true records of a page
pub record AreDigests (rules : Rules) (a : Account) (page : ℕ) (d : Digests) : Type 0 where
  pub bits : d.bits ≡ sha256 (true_text rules a page Bits)
  pub rows : d.rows ≡ sha256 (true_text rules a page Rows)

-- a page that was put is on the shelf, and each other one in memory
abbrev pub IsPlaced : Rules → Account → (page : ℕ) → (put : Bool) → Whereabouts → Type 0
IsPlaced rules a page put (InMemory r) = (put ≡ false) × IsResident rules a page r
IsPlaced rules a page put (OnShelf d) = (put ≡ true) × AreDigests rules a page d

pub record IsClosed (rules : Rules) (l : Ledger) (page : ℕ) (c : ClosedPage) : Type 0 where
  pub covered : c.covered ≡ is_in l.covered_before page
  pub placed : IsPlaced rules l.account page (is_in l.put_before page) c.place

-- these pages, of which the first has this number
abbrev pub AreClosed : Rules → Ledger → (first : ℕ) → List ClosedPage → Type 0
AreClosed rules l first pages =
    (i : ℕ) (d : ClosedPage) → i < length pages → IsClosed rules l (first + i) (slice_index_or pages i d)

-- no archival covered a page that stands in a slot, or one to come
pub record IsToCome (l : Ledger) (page : ℕ) : Type 0 where
  pub unput : is_in l.put_before page ≡ false
  pub uncovered : is_in l.covered_before page ≡ false

-- ---- rows

-- rows of a page that a record can spell
pub record AreSpelled (rows : List Row) : Type 0 where
  pub few : length rows ≤ 1000000
  pub kinds : All (λ row. IsRow row.kind row.old) rows
  pub plain : All IsPlainRow rows

-- a page's rows, where it has not expired and was not put
abbrev pub rows_kept : (gone : ℕ) → Ledger → (page : ℕ) → List Row
rows_kept gone l page = if nat_lt page gone || is_in l.put_before page then [] else rows_in l.account.rows page

-- the table has the rows of the pages in memory, and no others
pub record HasRows (agent : Agent) (l : Ledger) : Type 0 where
  pub table : (page : ℕ) → rows_of_page page agent.table ≡ rows_kept agent.catalogue.gone l page
  pub spelled : (page : ℕ) → agent.catalogue.gone ≤ page → AreSpelled (rows_in l.account.rows page)

-- ---- the segment's archival

-- the digest of a bits record that was put
abbrev pub digest_of : NotedBits → Option (List ℕ)
digest_of (Stored digest) = Some digest
digest_of Refused = None
digest_of Deferred = None

abbrev pub was_refused : NotedBits → Bool
was_refused (Stored digest) = false
was_refused Refused = true
was_refused Deferred = false

-- nothing was put of it yet
abbrev pub was_deferred : NotedBits → Bool
was_deferred (Stored digest) = false
was_deferred Refused = false
was_deferred Deferred = true

abbrev pub is_stored : Note → Bool
is_stored note = is_some (digest_of note.bits)

abbrev pub is_refused : Note → Bool
is_refused note = was_refused note.bits

abbrev pub is_deferred : Note → Bool
is_deferred note = was_deferred note.bits

abbrev pub noted_page : Note → ℕ
noted_page note = note.page.number

abbrev pub put_page : PutBits → ℕ
put_page x = x.page

abbrev pub IsBitsDigest : Rules → Account → (page : ℕ) → Option (List ℕ) → Type 0
IsBitsDigest rules a page None = Unit {0}
IsBitsDigest rules a page (Some digest) = digest ≡ sha256 (true_text rules a page Bits)

-- a note of a page whose bits record was put has its digest
pub record IsNote (rules : Rules) (a : Account) (u : Unfinished) (note : Note) : Type 0 where
  pub digest : IsBitsDigest rules a note.page.number (digest_of note.bits)
  pub put : is_stored note ≡ true → Contains (map put_page u.bits_put) note.page.number

-- the notes of an archival that came when these pages had closed
pub record AreNotes (rules : Rules) (l : Ledger) (u : Unfinished) (closings : List ℕ) (notes : List Note) : Type 0 where
  pub closed : length closings ≤ length l.account.closings
  pub covers : (page : ℕ) → Contains (map noted_page notes) page ↔ IsCovered rules (archive_view l closings) page
  pub rising : AreRising (map noted_page notes)
  pub each : (note : Note) → Contains notes note → IsNote rules l.account u note
  pub refused : u.refused ≡ length (filter is_refused notes)

-- the agent has notes where an archival came in this segment
abbrev pub HasNotes : Rules → Ledger → Unfinished → Option (List ℕ) → Option (Vec Note Global) → Type 0
HasNotes rules l u None None = u.refused ≡ 0
HasNotes rules l u None (Some notes) = ⊥
HasNotes rules l u (Some closings) None = ⊥
HasNotes rules l u (Some closings) (Some notes) = AreNotes rules l u closings notes.items

-- ---- the whole

-- all but the segment's archival, amid a segment: closed pages may stand in slots
pub record StandsAmid (agent : Agent) (rules : Rules) (l : Ledger) : Type 0 where
  pub pages : HasPages agent rules l.account
  pub closed : AreClosed rules l agent.catalogue.gone agent.closed.items
  pub to_come : (page : ℕ) → standing agent ≤ page → IsToCome l page
  pub rows : HasRows agent l
  pub expired : AreExpired rules l.closings_then l.clock_then agent.catalogue.gone
  pub clock : IsClock l agent.catalogue.clock

pub record StandsFor (agent : Agent) (rules : Rules) (l : Ledger) (u : Unfinished) : Type 0 where
  pub amid : StandsAmid agent rules l
  pub noted : HasNotes rules l u l.closed_at_archive agent.noted

-- the same where every closed page has left its slot
pub record Stands (agent : Agent) (rules : Rules) (l : Ledger) : Type 0 where
  pub pages : HasPages agent rules l.account
  pub count : standing agent ≡ length l.account.closings
  pub closed : AreClosed rules l agent.catalogue.gone agent.closed.items
  pub to_come : (page : ℕ) → length l.account.closings ≤ page → IsToCome l page
  pub rows : HasRows agent l
  pub expired : AreExpired rules l.closings_then l.clock_then agent.catalogue.gone
  pub clock : IsClock l agent.catalogue.clock

pub record StandsWhole (agent : Agent) (rules : Rules) (l : Ledger) (u : Unfinished) : Type 0 where
  pub stands : Stands agent rules l
  pub noted : HasNotes rules l u l.closed_at_archive agent.noted

-- whatever ledger one agent stands for, another does
abbrev pub StillStands : (old new : Agent) → Type 0
StillStands old new = (rules : Rules) (l : Ledger) (u : Unfinished) → StandsFor old rules l u → StandsFor new rules l u

abbrev pub StillWhole : (old new : Agent) → Type 0
StillWhole old new =
    (rules : Rules) (l : Ledger) (u : Unfinished) → StandsWhole old rules l u → StandsWhole new rules l u
