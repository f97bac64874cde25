-- An agent while passes are out. It stands for a ledger that has the gathered entries alone, and what passes record shows in the
-- words of its pages, which the keeper collects and reads. Public clauses cite `Away`, `StandsBeside`, `meaning_beside`, `AreClosedBits`,
-- `IsGathered`, `AreRead`, `KeepsReads`, `fresh_pass` and `out_of`; none looks into `StandsBeside`.
use Rattle.std.specs.Prelude.{ℕ, ◌≡◌, ◌≤◌, ◌<◌, ◌+◌, ◌-◌, ◌^◌, ◌++◌, ◌↔◌, ◌⊎◌, Bool, true, false, All, List, [], length, map, filter, slice_index_or, Option, Some, None, Vec}
use Rattle.std.specs.List.{Contains}
use Rattle.std.specs.declared.alloc.Global.{Global}
use Rattle.sha2.specs.Sha256.{sha256}
use Rattle.spie_base.specs.Shapes.{AreInRange, shape_of}
use Rattle.spie_base.specs.declared.Entry.{Entry}
use Rattle.spie_base.specs.declared.PageShape.{PageShape}
use Rattle.spie_base.specs.declared.Rules.{Rules}
use Rattle.spie_base.specs.declared.Sig.{Sig}
use Rattle.bloom_page.specs.Bits.{bit_in}
use Rattle.bloom_page.specs.Sets.{PageSet, is_in}
use Rattle.hash_family.specs.Entries.{IsMarked}
use Rattle.hash_family.specs.Positions.{family_of, position}
use Rattle.gate_core.specs.declared.view.Duties.{Duties}
use Rattle.gate_core.specs.declared.view.Probed.{Probed}
use Rattle.gate_core.specs.declared.view.Role.TheVariants.{Keeper}
use Rattle.gate_core.specs.Invariant.{IsCollected, SlotsFit}
use Rattle.gate_core.specs.Views.{collected_of}
use Rattle.page_gate.specs.Held.{Held, PassHeld, PlaneId}
use Rattle.page_gate.specs.Pages.{collected_page}
use Rattle.page_gate.specs.Slots.{HasOpen, IsWaiting}
use Rattle.page_gate.specs.Slots.{open_page as page_open}
use Rattle.page_catalogue.specs.Catalogues.{AreExpired}
use Rattle.router_account.specs.Account.{Account, bits, fill, page_set}
use Rattle.router_account.specs.Barriers.{AreRising, IsCovered, archive_view}
use Rattle.router_account.specs.Ledger.{Ledger, PutBits, Unfinished}
use Rattle.router_account.specs.Records.{bits_text}
use Rattle.data_agent.specs.declared.agent.Agent.{Agent}
use Rattle.data_agent.specs.declared.archival.Note.{Note}
use Rattle.data_agent.specs.declared.closed_page.ClosedPage.{ClosedPage}
use Rattle.data_agent.specs.declared.closed_page.Whereabouts.{Whereabouts}
use Rattle.data_agent.specs.declared.closed_page.Whereabouts.TheVariants.{InMemory, OnShelf}
use Rattle.data_agent.specs.declared.resident.Resident.{Resident}
use Rattle.data_agent.specs.Calls.{Meaning}
use Rattle.data_agent.specs.Members.{HaveSameMembers}
use Rattle.data_agent.specs.Standing.{AreDigests, AreTimes, HasRows, IsClock, IsToCome, digest_of, is_refused, noted_page, standing}

-- passes that are out: how many, and the page that was open when they were dealt
pub record Away : Type 0 where
  pub out : ℕ
  pub since : ℕ

-- ---- the keeper

-- the keeper of an agent, on a plane of this shape: page `last` is open, and the pages from `first` on and before that one are closed and
-- stand in slots, and no others do
pub record IsMinding (shape : PageShape) (keeper : Held) (first last : ℕ) : Type 0 where
  pub role : keeper.view.role ≡ Keeper
  pub fits : SlotsFit shape keeper.view.duties
  pub has_open : HasOpen keeper.view.duties
  pub open_is : page_open keeper.view.duties ≡ last
  pub order : first ≤ last
  pub stand : (page : ℕ) → first ≤ page → page < last → IsWaiting keeper.view.duties page
  pub only : (page : ℕ) → IsWaiting keeper.view.duties page → (first ≤ page) × (page < last)

-- the keeper minds the agent's pages: closed ones that were not collected stand in slots. No more is said of whose they are
pub record MindsPages (agent : Agent) : Type 0 where
  pub ranges : AreInRange agent.rules.k agent.rules.n
  pub minding : IsMinding (shape_of agent.rules agent.router.number) agent.keeper (standing agent) agent.page.number
  pub few : agent.page.number < 2 ^ 32 - 1

-- the keeper knows what it knew: it has the same entries and reads, as many passes are out, and collected pages have their words
pub record KeepsWords (shape : PageShape) (old new : Held) : Type 0 where
  pub table : new.table ≡ old.table
  pub entries : new.view.entries ≡ old.view.entries
  pub out : new.view.duties.out ≡ old.view.duties.out
  pub probes : new.view.duties.probes ≡ old.view.duties.probes
  pub collected : (page : ℕ) → IsCollected shape old.view.duties page
      → collected_of new.view.duties page ≡ collected_of old.view.duties page

-- ---- the agent's pages

-- as `HasPages`, where so many passes are out
pub record HasPagesBeside (agent : Agent) (rules : Rules) (a : Account) (out : ℕ) : Type 0 where
  pub ranges : AreInRange rules.k rules.n
  pub router_fits : a.router < 64
  pub rules_are : agent.rules ≡ rules
  pub router : agent.router.number ≡ a.router
  pub by_rules : agent.catalogue.rules ≡ rules
  pub closings : agent.catalogue.closings ≡ a.closings
  pub times : AreTimes a.closings
  pub few : length a.closings < 2 ^ 32 - 1
  pub page : agent.page.number ≡ length a.closings
  pub entered : All (λ entry. entry.page.number ≤ length a.closings) a.entries
  pub marked : fill rules a (length a.closings) ≤ agent.marked
  pub minding : IsMinding (shape_of rules a.router) agent.keeper (standing agent) (length a.closings)
  pub has : HaveSameMembers agent.keeper.view.entries a.entries
  pub out_is : agent.keeper.view.duties.out ≡ out

-- all bits of a closed page, as they are known: those that the account gives, of a page that was closed when the passes were dealt;
-- or those that the keeper collected
abbrev pub AreBitsBeside : Rules → Account → Duties → (since page : ℕ) → PageSet → Type 0
AreBitsBeside rules a d since page set =
    ((page < since) × (set ≡ page_set rules a page))
    ⊎ (IsCollected (shape_of rules a.router) d page × (set ≡ collected_page (shape_of rules a.router) d page))

pub record IsResidentBeside (rules : Rules) (a : Account) (d : Duties) (since page : ℕ) (r : Resident) : Type 0 where
  pub family : r.family.value ≡ family_of (shape_of rules a.router) page
  pub bits : AreBitsBeside rules a d since page r.page
  -- the marks of the page's gathered entries are among them
  pub gathered : (at : ℕ) → IsMarked (shape_of rules a.router) a.entries page at → Contains r.page.members at

-- a page that was put is on the shelf, and each other one in memory; none is put while passes are out
abbrev pub IsPlacedBeside : Rules → Account → Duties → (since page : ℕ) → (put : Bool) → Whereabouts → Type 0
IsPlacedBeside rules a d since page put (InMemory r) = (put ≡ false) × IsResidentBeside rules a d since page r
IsPlacedBeside rules a d since page put (OnShelf g) = (put ≡ true) × (page < since) × AreDigests rules a page g

pub record IsClosedBeside (rules : Rules) (l : Ledger) (d : Duties) (since page : ℕ) (c : ClosedPage) : Type 0 where
  pub covered : c.covered ≡ is_in l.covered_before page
  pub placed : IsPlacedBeside rules l.account d since page (is_in l.put_before page) c.place

-- these pages, of which the first has this number
abbrev pub AreClosedBeside : Rules → Ledger → Duties → (since first : ℕ) → List ClosedPage → Type 0
AreClosedBeside rules l d since first pages =
    (i : ℕ) (c : ClosedPage) → i < length pages → IsClosedBeside rules l d since (first + i) (slice_index_or pages i c)

-- ---- the segment's archival

-- the bits that a record had when it was put are all bits of its page, as they are known
abbrev pub ArePutBeside : Rules → Account → Duties → (since : ℕ) → Unfinished → Type 0
ArePutBeside rules a d since u =
    (x : PutBits) → Contains u.bits_put x
    → AreBitsBeside rules a d since x.page (record { n = rules.n; members = x.bits })

-- the digest of a record that was put with these bits of the page
abbrev pub IsPutDigest : Rules → Account → Unfinished → (page : ℕ) → Option (List ℕ) → Type 0
IsPutDigest rules a u page None = Unit {0}
IsPutDigest rules a u page (Some digest) =
    (x : PutBits) × Contains u.bits_put x × (x.page ≡ page) × (digest ≡ sha256 (bits_text rules a page x.bits))

-- the notes of an archival that came when these pages had closed. Each has the digest of what was put, where it was put
pub record AreNotesBeside (rules : Rules) (l : Ledger) (u : Unfinished) (closings : List ℕ) (notes : List Note)
    : Type 0 where
  pub closed : length closings ≤ length l.account.closings
  pub covers : (page : ℕ) → Contains (map noted_page notes) page ↔ IsCovered rules (archive_view l closings) page
  pub rising : AreRising (map noted_page notes)
  pub each : (note : Note) → Contains notes note → IsPutDigest rules l.account u note.page.number (digest_of note.bits)
  pub refused : u.refused ≡ length (filter is_refused notes)

-- the agent has notes where an archival came in this segment
abbrev pub HasNotesBeside : Rules → Ledger → Unfinished → Option (List ℕ) → Option (Vec Note Global) → Type 0
HasNotesBeside rules l u None None = u.refused ≡ 0
HasNotesBeside rules l u None (Some notes) = ⊥
HasNotesBeside rules l u (Some closings) None = ⊥
HasNotesBeside rules l u (Some closings) (Some notes) = AreNotesBeside rules l u closings notes.items

-- ---- the whole

-- the agent, while these passes are out, stands for a ledger that has the gathered entries alone
pub record StandsBeside (agent : Agent) (rules : Rules) (l : Ledger) (u : Unfinished) (away : Away) : Type 0 where
  pub since : away.since ≤ length l.account.closings
  pub pages : HasPagesBeside agent rules l.account away.out
  pub closed : AreClosedBeside rules l agent.keeper.view.duties away.since agent.catalogue.gone agent.closed.items
  pub to_come : (page : ℕ) → standing agent ≤ page → IsToCome l page
  pub rows : HasRows agent l
  pub expired : AreExpired rules l.closings_then l.clock_then agent.catalogue.gone
  pub clock : IsClock l agent.catalogue.clock
  pub noted : HasNotesBeside rules l u l.closed_at_archive agent.noted
  pub put : ArePutBeside rules l.account agent.keeper.view.duties away.since u

-- what an agent stands for while these passes are out
abbrev pub meaning_beside : Agent → Away → Meaning
meaning_beside agent away rules l u = StandsBeside agent rules l u away

-- the bits records that the segment's archival put are of closed pages, and have their bits. Where no archival came there are none
abbrev pub AreClosedBits : Rules → Ledger → Unfinished → Type 0
AreClosedBits rules l u =
    (x : PutBits) → Contains u.bits_put x
    → (x.page < length l.account.closings) × (x.bits ≡ bits rules l.account x.page)

-- ---- passes

-- how many passes of the agent's keeper are out
abbrev pub out_of : Agent → ℕ
out_of agent = agent.keeper.view.duties.out

-- a new pass: of the plane, with no entry and no visit, and the open page as its floor
abbrev pub fresh_pass : PlaneId → Agent → PassHeld
fresh_pass plane agent = record { table = plane.table; floor = agent.page.number; entries = []; visits = [] }

-- no page of these passes' entries is below this one
abbrev pub AreFrom : (since : ℕ) → List PassHeld → Type 0
AreFrom since passes = All (λ (p : PassHeld). since ≤ p.floor) passes

-- these entries are of pages before this one
abbrev pub AreBelow : (page : ℕ) → List Entry → Type 0
AreBelow page entries = (entry : Entry) → Contains entries entry → entry.page.number < page

-- a ledger whose account has these entries too, in any order, and is the same in all else
pub record IsGathered (l : Ledger) (more : List Entry) (after : Ledger) : Type 0 where
  pub rest : after ≡ record l { account = record l.account { entries = after.account.entries } }
  pub members : HaveSameMembers after.account.entries (l.account.entries ++ more)

-- ---- what was read of marks

-- the keeper collected the page, with this bit set, or it has read the bit as set
abbrev pub IsBitRead : PageShape → Duties → (page at : ℕ) → Type 0
IsBitRead shape d page at =
    (IsCollected shape d page × (bit_in (collected_of d page) at ≡ 1))
    ⊎ ((x : Probed) × Contains d.probes x × (x.page ≡ page) × (x.at ≡ at) × (x.bit ≡ true))

-- the same of each mark of a signature
abbrev pub AreRead : Agent → (page : ℕ) → Sig → Type 0
AreRead agent page sig =
    let shape = shape_of agent.rules agent.router.number in
    (i : ℕ) → i < shape.k → IsBitRead shape agent.keeper.view.duties page (position shape page sig i)

-- what was read stays read
abbrev pub KeepsReads : (old new : Agent) → Type 0
KeepsReads old new = (page : ℕ) (sig : Sig) → AreRead old page sig → AreRead new page sig
