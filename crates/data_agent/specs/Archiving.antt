-- What an archival does, page by page. No public clause cites this module.
use Rattle.std.specs.Prelude.{ℕ, ◌≡◌, ◌≤◌, ◌<◌, ◌-◌, ◌^◌, ◌↔◌, [], true, false, Bool, List, length, map, filter, slice_index_or, Option, None, Some}
use Rattle.std.specs.Borrow.{Bor}
use Rattle.std.specs.List.{Contains}
use Rattle.sha2.specs.Sha256.{sha256}
use Rattle.spie_base.specs.Causes.{RoseBy}
use Rattle.spie_base.specs.Shapes.{AreInRange}
use Rattle.spie_base.specs.declared.Rules.{Rules}
use Rattle.bloom_page.specs.Sets.{is_in}
use Rattle.page_shelf.specs.Shelves.{IsSame}
use Rattle.page_shelf.specs.declared.ShelfName.{ShelfName}
use Rattle.page_shelf.specs.declared.ShelfPart.TheVariants.{Bits}
use Rattle.router_account.specs.Account.{Account}
use Rattle.router_account.specs.Barriers.{AreRising}
use Rattle.router_account.specs.Ledger.{Ledger, Unfinished}
use Rattle.router_account.specs.Records.{bits_text, name_of}
use Rattle.router_account.specs.Shelves.{ShelfView}
use Rattle.shelved_page.specs.Shelving.{count_if}
use Rattle.data_agent.specs.declared.agent.Agent.{Agent}
use Rattle.data_agent.specs.declared.archival.Note.{Note}
use Rattle.data_agent.specs.declared.closed_page.ClosedPage.{ClosedPage}
use Rattle.data_agent.specs.declared.closed_page.Whereabouts.{Whereabouts}
use Rattle.data_agent.specs.declared.closed_page.Whereabouts.TheVariants.{InMemory, OnShelf}
use Rattle.data_agent.specs.declared.resident.Resident.{Resident}
use Rattle.data_agent.specs.Beside.{Away, KeepsReads, StandsBeside}
use Rattle.data_agent.specs.Planes.{IsRestSame}
use Rattle.data_agent.specs.Standing.{AreTimes, Stands, StandsAmid, digest_of, noted_page, is_deferred, is_refused, is_stored, standing}

-- the agent has a closed page of this number that has not expired
abbrev pub HasClosed : Agent → (page : ℕ) → Type 0
HasClosed agent page =
    (rules : Rules) × (l : Ledger) × Stands agent rules l × (agent.catalogue.gone ≤ page) × (page < agent.page.number)

-- what stays of an agent while its keeper settles and collects pages, with passes out or not
pub record KeepsStanding (old new : Agent) : Type 0 where
  pub rest : IsRestSame old new
  pub amid : (rules : Rules) (l : Ledger) → StandsAmid old rules l → StandsAmid new rules l
  pub beside : (rules : Rules) (l : Ledger) (u : Unfinished) (away : Away) → StandsBeside old rules l u away
      → StandsBeside new rules l u away
  pub reads : KeepsReads old new

-- ---- what is in memory

abbrev pub some_page : Agent → ClosedPage
some_page agent = record { place = OnShelf (record { bits = []; rows = [] }); covered = false }

-- where a page is that was collected and has not expired
abbrev pub place_at : Agent → (page : ℕ) → Whereabouts
place_at agent page = (slice_index_or agent.closed.items (page - agent.catalogue.gone) (some_page agent)).place

abbrev pub members_at : Whereabouts → List ℕ
members_at (InMemory r) = r.page.members
members_at (OnShelf d) = []

-- the bits of a page that is in memory
abbrev pub held_bits : Agent → (page : ℕ) → List ℕ
held_bits agent page = members_at (place_at agent page)

-- a page is given where it is in memory
abbrev pub IsHeld : Whereabouts → Option (Bor Resident) → Type 0
IsHeld (InMemory r) None = ⊥
IsHeld (InMemory r) (Some held) = held.now ≡ r
IsHeld (OnShelf d) None = Unit {0}
IsHeld (OnShelf d) (Some held) = ⊥

-- ---- what an archival needs to know

-- the agent knows the account's router, and when its pages closed
pub record KnowsTimes (agent : Agent) (rules : Rules) (a : Account) : Type 0 where
  pub rules_are : agent.rules ≡ rules
  pub router : agent.router.number ≡ a.router
  pub closings : agent.catalogue.closings ≡ a.closings
  pub page : agent.page.number ≡ length a.closings
  pub few : length a.closings < 2 ^ 32 - 1

-- a page that was put is on the shelf, and each other one in memory, of the size that the rules give
abbrev pub IsSized : Rules → (put : Bool) → Whereabouts → Type 0
IsSized rules put (InMemory r) = (put ≡ false) × (r.page.n ≡ rules.n)
IsSized rules put (OnShelf d) = put ≡ true

-- the agent knows which pages the ledger has, and where they are; whose marks they have is not said
pub record KnowsPages (agent : Agent) (rules : Rules) (l : Ledger) : Type 0 where
  pub ranges : AreInRange rules.k rules.n
  pub router_fits : l.account.router < 64
  pub ascend : AreTimes l.account.closings
  pub times : KnowsTimes agent rules l.account
  pub within : standing agent ≤ length l.account.closings
  pub sized : (page : ℕ) → agent.catalogue.gone ≤ page → page < standing agent
      → IsSized rules (is_in l.put_before page) (place_at agent page)
  pub to_come : (page : ℕ) → standing agent ≤ page → is_in l.put_before page ≡ false

-- ---- the puts

-- a bits record of a page that is in memory
abbrev pub held_text : Agent → Rules → Account → (page : ℕ) → List ℕ
held_text agent rules a page = bits_text rules a page (held_bits agent page)

abbrev pub IsDigest : (text : List ℕ) → Option (List ℕ) → Type 0
IsDigest text None = Unit {0}
IsDigest text (Some digest) = digest ≡ sha256 text

-- a closed page was noted, and where it is in memory its bits record was put; where it stands in a slot, that is deferred
pub record IsNotedOnce (agent : Agent) (rules : Rules) (a : Account) (page : ℕ) (note : Note) (before after : ShelfView)
    : Type 0 where
  pub page_is : note.page.number ≡ page
  pub digest : IsDigest (held_text agent rules a page) (digest_of note.bits)
  pub stored : is_stored note ≡ true → page < standing agent
  pub known : page < standing agent → is_deferred note ≡ false
  pub still : after.tells ≡ before.tells
  pub rose : RoseBy (count_if (is_refused note)) before.faults after.faults
  pub stands : before.tells ≡ true → is_stored note ≡ true
      → after.contents (name_of a.router page Bits) ≡ Some (held_text agent rules a page)
  pub same : before.tells ≡ true → is_stored note ≡ false → IsSame before.contents after.contents
  pub others : before.tells ≡ true → (name : ShelfName) → (name ≡ name_of a.router page Bits → ⊥)
      → after.contents name ≡ before.contents name

-- a closed page is noted where it is not on the shelf
abbrev pub NotesOne : Agent → Rules → Ledger → (page : ℕ) → Option Note → (before after : ShelfView) → Type 0
NotesOne agent rules l page None before after = (is_in l.put_before page ≡ true) × (after ≡ before)
NotesOne agent rules l page (Some note) before after =
    (is_in l.put_before page ≡ false) × IsNotedOnce agent rules l.account page note before after

-- the pages from the first one on, and before another, are noted where they are not on the shelf
pub record NotesTo (agent : Agent) (rules : Rules) (l : Ledger) (first bound : ℕ) (notes : List Note)
    (before after : ShelfView) : Type 0 where
  pub covers : (page : ℕ) → Contains (map noted_page notes) page
      ↔ ((first ≤ page) × (page < bound) × (is_in l.put_before page ≡ false))
  pub rising : AreRising (map noted_page notes)
  pub digests : (note : Note) → Contains notes note
      → IsDigest (held_text agent rules l.account note.page.number) (digest_of note.bits)
  pub stored : (note : Note) → Contains notes note → is_stored note ≡ true → note.page.number < standing agent
  pub known : (note : Note) → Contains notes note → is_deferred note ≡ true → standing agent ≤ note.page.number
  pub still : after.tells ≡ before.tells
  pub rose : RoseBy (length (filter is_refused notes)) before.faults after.faults
  pub stand : before.tells ≡ true → (note : Note) → Contains notes note → is_stored note ≡ true
      → after.contents (name_of l.account.router note.page.number Bits)
      ≡ Some (held_text agent rules l.account note.page.number)
  pub others : before.tells ≡ true → (name : ShelfName)
      → ((page : ℕ) → Contains (map noted_page notes) page → name ≡ name_of l.account.router page Bits → ⊥)
      → after.contents name ≡ before.contents name
