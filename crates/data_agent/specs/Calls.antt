-- What an agent's calls need and do, by the ledger that the agent stands for.
use Rattle.std.specs.Prelude.{ℕ, ◌≡◌, ◌≤◌, ◌<◌, ◌+◌, ◌-◌, ◌^◌, ◌++◌, ◌↔◌, ◌⊎◌, Bool, true, false, List, length, map, option_map, is_some, Option, None, Some}
use Rattle.std.specs.List.{Contains}
use Rattle.spie_base.specs.Shown.{Shown}
use Rattle.spie_base.specs.declared.PageNo.{PageNo}
use Rattle.spie_base.specs.declared.PageRange.{PageRange}
use Rattle.spie_base.specs.declared.Rules.{Rules}
use Rattle.spie_base.specs.declared.Sig.{Sig}
use Rattle.packet_signature.specs.declared.Row.{Row}
use Rattle.archive_record.specs.Spelling.{IsRow}
use Rattle.page_catalogue.specs.Pages.{open_page}
use Rattle.page_shelf.specs.Shelves.{ChangesOnly, Contents}
use Rattle.page_shelf.specs.declared.ShelfName.{ShelfName}
use Rattle.page_shelf.specs.declared.ShelfPart.TheVariants.{Bits}
use Rattle.router_account.specs.declared.Unreadable.{Unreadable}
use Rattle.router_account.specs.Account.{hit, origins, rows_in, window}
use Rattle.router_account.specs.Barriers.{IsCovered, IsSplitOf, AreLeft, Closing, archive_view, closing_at}
use Rattle.router_account.specs.Ledger.{Ledger, PutBits, Split, Unfinished, no_split, at_archive, behind_barrier, was_expired}
use Rattle.router_account.specs.Records.{Holds, HoldsBits, ArePageBits, HaveDigests, KeepsOthers}
use Rattle.router_account.specs.Sights.{Reading, IsRead, sight_by, used_by, expired_by, page_no, range_of, unreadable_of}
use Rattle.data_agent.specs.declared.outcome.Archived.{Archived}
use Rattle.data_agent.specs.declared.outcome.Barrier.{Barrier}
use Rattle.data_agent.specs.declared.outcome.Closed.{Closed}

-- what one agent stands for: its rules, a ledger, and what is unfinished of its segment's archival
abbrev pub Meaning : Type 1
Meaning = Rules → Ledger → Unfinished → Type 0

-- ---- when calls may be made

-- a clock is not before the last barrier's, nor before the time at which a page closed
pub record IsLate (l : Ledger) (clock : ℕ) : Type 0 where
  pub then : l.clock_then ≤ clock
  pub closings : (time : ℕ) → Contains l.account.closings time → time ≤ clock
  pub fits : clock < 2 ^ 48

-- one page more has a number
abbrev pub HasRoom : Ledger → Type 0
HasRoom l = length l.account.closings + 1 < 2 ^ 32 - 1

-- a page exists and is in memory, it has room for a row, and only a fragment's row is direct
pub record IsNear (rules : Rules) (l : Ledger) (page : ℕ) (row : Row) : Type 0 where
  pub exists : page ≤ open_page l.account.closings
  pub live : was_expired rules l page ≡ false
  pub unput : Contains l.put_before page → ⊥
  pub few : length (rows_in l.account.rows page) < 1000000
  pub kind : IsRow row.kind row.old

-- the open page may be closed at this clock
abbrev pub MayTurn : Meaning → (clock : ℕ) → Type 0
MayTurn stands clock = (rules : Rules) × (l : Ledger) × (u : Unfinished) × stands rules l u × IsLate l clock × HasRoom l

-- a barrier may come at this clock
abbrev pub MayPass : Meaning → (clock : ℕ) → (tick : Bool) → Type 0
MayPass stands clock tick =
    (rules : Rules) × (l : Ledger) × (u : Unfinished) × stands rules l u × IsLate l clock × (tick ≡ true → HasRoom l)

-- a query may be asked for this time
abbrev pub MayAsk : Meaning → (time : ℕ) → Type 0
MayAsk stands time = (rules : Rules) × (l : Ledger) × (u : Unfinished) × stands rules l u × (time ≤ l.clock_then)

-- no archival came in this segment
abbrev pub MayNote : Meaning → Type 0
MayNote stands = (rules : Rules) × (l : Ledger) × (u : Unfinished) × stands rules l u × (l.closed_at_archive ≡ None)

-- ---- an archival

abbrev pub with_more : (u more : Unfinished) → Unfinished
with_more u more = record { refused = u.refused + more.refused; bits_put = u.bits_put ++ more.bits_put }

-- the name of a bits record of a page that an archival covers now
pub record IsNotedName (rules : Rules) (l : Ledger) (name : ShelfName) : Type 0 where
  pub router : name.router.number ≡ l.account.router
  pub part : name.part ≡ Bits
  pub covered : IsCovered rules (archive_view l l.account.closings) name.page.number

-- an archival was noted, and this came of its first puts
pub record IsNoted (before after : Meaning) (more : Unfinished) (tells : Bool) (old new : Contents) : Type 0 where
  pub noted : (rules : Rules) (l : Ledger) (u : Unfinished) → before rules l u
      → after rules (at_archive l) (with_more u more)
  pub closed : (rules : Rules) (l : Ledger) (u : Unfinished) → before rules l u → (x : PutBits)
      → Contains more.bits_put x → x.page < length l.account.closings
  pub bits : (rules : Rules) (l : Ledger) (u : Unfinished) → before rules l u → ArePageBits rules l.account more
  pub holds : (rules : Rules) (l : Ledger) (u : Unfinished) → before rules l u → tells ≡ true → Holds rules old l
      → Holds rules new l
  pub holds_bits : (rules : Rules) (l : Ledger) (u : Unfinished) → before rules l u → tells ≡ true → Holds rules old l
      → HoldsBits rules new l.account more
  pub others : (rules : Rules) (l : Ledger) (u : Unfinished) → before rules l u → tells ≡ true
      → KeepsOthers l.account.router old new
  pub untouched : (rules : Rules) (l : Ledger) (u : Unfinished) → before rules l u → tells ≡ true
      → ChangesOnly (IsNotedName rules l) old new

-- the same while passes are out. That what was put are the pages' bits is known once the passes are gathered
pub record IsNotedBeside (before after : Meaning) (more : Unfinished) (tells : Bool) (old new : Contents) : Type 0 where
  pub noted : (rules : Rules) (l : Ledger) (u : Unfinished) → before rules l u
      → after rules (at_archive l) (with_more u more)
  pub closed : (rules : Rules) (l : Ledger) (u : Unfinished) → before rules l u → (x : PutBits)
      → Contains more.bits_put x → x.page < length l.account.closings
  pub holds : (rules : Rules) (l : Ledger) (u : Unfinished) → before rules l u → tells ≡ true → Holds rules old l
      → Holds rules new l
  pub holds_bits : (rules : Rules) (l : Ledger) (u : Unfinished) → before rules l u → tells ≡ true → Holds rules old l
      → HoldsBits rules new l.account more
  pub others : (rules : Rules) (l : Ledger) (u : Unfinished) → before rules l u → tells ≡ true
      → KeepsOthers l.account.router old new
  pub untouched : (rules : Rules) (l : Ledger) (u : Unfinished) → before rules l u → tells ≡ true
      → ChangesOnly (IsNotedName rules l) old new

-- ---- a barrier

abbrev pub number_of : PageNo → ℕ
number_of page = page.number

abbrev pub split_by : Option Archived → Split
split_by None = no_split
split_by (Some a) = record { put = map number_of a.put; kept = map number_of a.kept }

abbrev pub split_of : Barrier → Split
split_of b = split_by b.archived

abbrev pub left_of : Barrier → List ℕ
left_of b = map number_of b.left

abbrev pub closing_of : Closed → Closing
closing_of x = record { page = x.page.number; bits = x.bits }

-- the pages of a barrier for which a call of the shelf failed
abbrev pub marks_of : Barrier → ℕ
marks_of b = length (split_of b).kept + length (left_of b)

-- a page expires at a barrier, and an archival covered it
pub record IsExpiring (rules : Rules) (before after : Ledger) (page : ℕ) : Type 0 where
  pub covered : Contains after.covered_before page
  pub first : was_expired rules before page ≡ false
  pub expired : was_expired rules after page ≡ true

-- the name of a record that a barrier may put or discard: of a page of the segment's archival, or of one that expires
pub record IsPassedName (rules : Rules) (before after : Ledger) (split : Split) (name : ShelfName) : Type 0 where
  pub router : name.router.number ≡ before.account.router
  pub page : Contains (split.put ++ split.kept) name.page.number ⊎ IsExpiring rules before after name.page.number

-- what a barrier tells of a ledger
pub record IsPassed (rules : Rules) (l : Ledger) (clock : ℕ) (tick : Bool) (b : Barrier) : Type 0 where
  pub archived : is_some b.archived ≡ is_some l.closed_at_archive
  pub split : IsSplitOf rules l (split_of b)
  pub closed : option_map closing_of b.closed ≡ closing_at rules l clock tick
  pub left : AreLeft rules l (behind_barrier rules l clock tick (split_of b) (left_of b)) (left_of b)

-- ---- a query

-- what is told of a sight, and what was read of the shelf for it
pub record Told : Type 0 where
  pub expired : Option PageRange
  pub unreadable : List Unreadable
  pub used : List PageNo
  pub reading : Reading

-- what a query for a time sees of a router
pub record IsSeen (rules : Rules) (l : Ledger) (time : ℕ) (shown : Shown) (told : Told) : Type 0 where
  pub read : IsRead rules l (window rules l.account time) told.reading
  pub digests : HaveDigests rules l.account told.reading
  pub hit : (sig : Sig) → shown.hit sig ≡ hit rules (sight_by rules l (window rules l.account time) told.reading) sig
  pub origins : (sig old : Sig) → Contains (shown.origins sig) old
      ↔ Contains (origins (sight_by rules l (window rules l.account time) told.reading) sig) old
  pub missing : shown.missing ≡ (sight_by rules l (window rules l.account time) told.reading).missing
  pub expired_is : told.expired ≡ range_of (expired_by rules l (window rules l.account time))
  pub unreadable_is : told.unreadable ≡ map unreadable_of told.reading.unread
  pub used_is : told.used ≡ map page_no (used_by rules l (window rules l.account time) told.reading)
