-- What the end of a segment's archival does. No public clause cites this module.
use Rattle.std.specs.Prelude.{ℕ, ◌≡◌, ◌≤◌, ◌-◌, ◌∷◌, ◌++◌, [], Bool, true, false, not, List, length, map, filter, is_some, Option, None, Some}
use Rattle.std.specs.List.{Contains}
use Rattle.spie_base.specs.Causes.{RoseBy}
use Rattle.spie_base.specs.declared.PageNo.{PageNo}
use Rattle.spie_base.specs.declared.Rules.{Rules}
use Rattle.page_shelf.specs.Shelves.{ChangesOnly, Contents, IsSame}
use Rattle.page_shelf.specs.declared.ShelfName.{ShelfName}
use Rattle.page_shelf.specs.declared.ShelfPart.TheVariants.{Bits, Rows}
use Rattle.shelved_page.specs.declared.shelving.Digests.{Digests}
use Rattle.shelved_page.specs.Shelving.{count_if}
use Rattle.router_account.specs.Account.{Account}
use Rattle.router_account.specs.Barriers.{IsSplitOf}
use Rattle.router_account.specs.Ledger.{Ledger, Split, Unfinished, nothing_unfinished}
use Rattle.router_account.specs.Records.{Holds, HoldsBits, ArePageBits, KeepsOthers, name_of, true_text}
use Rattle.router_account.specs.Shelves.{ShelfView}
use Rattle.data_agent.specs.declared.agent.Agent.{Agent}
use Rattle.data_agent.specs.declared.archival.Note.{Note}
use Rattle.data_agent.specs.declared.finishing.Settled.{Settled}
use Rattle.data_agent.specs.declared.outcome.Archived.{Archived}
use Rattle.data_agent.specs.Calls.{split_by}
use Rattle.data_agent.specs.Standing.{AreDigests, IsBitsDigest, StandsWhole, digest_of, noted_page, is_deferred, is_refused, is_stored}

abbrev pub was_put : Settled → Bool
was_put one = is_some one.digests

abbrev pub was_kept : Settled → Bool
was_kept one = not (is_some one.digests)

abbrev pub settled_page : Settled → PageNo
settled_page one = one.page

abbrev pub settled_number : Settled → ℕ
settled_number one = one.page.number

abbrev pub pages_put : List Settled → List PageNo
pages_put settled = map settled_page (filter was_put settled)

abbrev pub pages_kept : List Settled → List PageNo
pages_kept settled = map settled_page (filter was_kept settled)

abbrev pub numbers_put : List Settled → List ℕ
numbers_put settled = map settled_number (filter was_put settled)

abbrev pub numbers_kept : List Settled → List ℕ
numbers_kept settled = map settled_number (filter was_kept settled)

-- the pages whose bits record was put
abbrev pub numbers_done : List Note → List ℕ
numbers_done notes = map noted_page (filter is_stored notes)

-- ---- the bits records that were deferred

-- what the true bits record of a page has under its name
abbrev pub HasBits : Rules → Account → Contents → (page : ℕ) → Type 0
HasBits rules a contents page = contents (name_of a.router page Bits) ≡ Some (true_text rules a page Bits)

-- a noted page's bits record was put, where it was deferred
pub record PutsDeferred (rules : Rules) (a : Account) (note new : Note) (before after : ShelfView) : Type 0 where
  pub page : new.page.number ≡ note.page.number
  pub digest : IsBitsDigest rules a new.page.number (digest_of new.bits)
  pub known : is_deferred new ≡ false
  pub still : after.tells ≡ before.tells
  pub few : count_if (is_refused note) ≤ count_if (is_refused new)
  pub rose : RoseBy (count_if (is_refused new) - count_if (is_refused note)) before.faults after.faults
  pub keeps : before.tells ≡ true → (page : ℕ) → HasBits rules a before.contents page
      → HasBits rules a after.contents page
  pub stands : before.tells ≡ true → (is_stored note ≡ true → HasBits rules a before.contents note.page.number)
      → is_stored new ≡ true
      → HasBits rules a after.contents new.page.number
  pub others : before.tells ≡ true → (name : ShelfName) → (name ≡ name_of a.router note.page.number Bits → ⊥)
      → after.contents name ≡ before.contents name

-- and those of several
pub record PutsAllDeferred (rules : Rules) (a : Account) (notes new : List Note) (before after : ShelfView)
    : Type 0 where
  pub pages : map noted_page new ≡ map noted_page notes
  pub digests : (note : Note) → Contains new note → IsBitsDigest rules a note.page.number (digest_of note.bits)
  pub known : (note : Note) → Contains new note → is_deferred note ≡ false
  pub still : after.tells ≡ before.tells
  pub few : length (filter is_refused notes) ≤ length (filter is_refused new)
  pub rose : RoseBy (length (filter is_refused new) - length (filter is_refused notes)) before.faults after.faults
  pub keeps : before.tells ≡ true → (page : ℕ) → HasBits rules a before.contents page
      → HasBits rules a after.contents page
  pub stand : before.tells ≡ true
      → ((note : Note) → Contains notes note → is_stored note ≡ true → HasBits rules a before.contents note.page.number)
      → (note : Note) → Contains new note → is_stored note ≡ true → HasBits rules a after.contents note.page.number
  pub others : before.tells ≡ true → (name : ShelfName)
      → ((page : ℕ) → Contains (map noted_page notes) page → name ≡ name_of a.router page Bits → ⊥)
      → after.contents name ≡ before.contents name

-- ---- the rows records

-- the digests are those of the true records
abbrev pub HaveTrue : Rules → Account → (page : ℕ) → Option Digests → Type 0
HaveTrue rules a page None = Unit {0}
HaveTrue rules a page (Some d) = AreDigests rules a page d

abbrev pub IsSettled : Rules → Account → Settled → Type 0
IsSettled rules a one = HaveTrue rules a one.page.number one.digests

abbrev pub digests_with : (bits : List ℕ) → (rows : Option (List ℕ)) → Option Digests
digests_with bits None = None
digests_with bits (Some rows) = Some (record { bits = bits; rows = rows })

-- what came of the rows record of one noted page
pub record FinishesOne (rules : Rules) (a : Account) (note : Note) (one : Settled) (before after : ShelfView)
    : Type 0 where
  pub page : one.page ≡ note.page
  pub settled : IsSettled rules a one
  pub done : was_put one ≡ true → is_stored note ≡ true
  pub still : after.tells ≡ before.tells
  pub rose : RoseBy (count_if (was_kept one) - count_if (is_refused note)) before.faults after.faults
  pub stands : before.tells ≡ true → was_put one ≡ true
      → after.contents (name_of a.router note.page.number Rows) ≡ Some (true_text rules a note.page.number Rows)
  pub same : before.tells ≡ true → was_put one ≡ false → IsSame before.contents after.contents
  pub others : before.tells ≡ true → (name : ShelfName) → (name ≡ name_of a.router note.page.number Rows → ⊥)
      → after.contents name ≡ before.contents name

-- and of several
pub record FinishesTo (rules : Rules) (a : Account) (notes : List Note) (settled : List Settled)
    (before after : ShelfView) : Type 0 where
  pub pages : map settled_number settled ≡ map noted_page notes
  pub each : (one : Settled) → Contains settled one → IsSettled rules a one
  pub done : (page : ℕ) → Contains (numbers_put settled) page → Contains (numbers_done notes) page
  pub few : length (filter is_refused notes) ≤ length (filter was_kept settled)
  pub still : after.tells ≡ before.tells
  pub rose : RoseBy (length (filter was_kept settled) - length (filter is_refused notes)) before.faults after.faults
  pub stand : before.tells ≡ true → (page : ℕ) → Contains (numbers_put settled) page
      → after.contents (name_of a.router page Rows) ≡ Some (true_text rules a page Rows)
  pub others : before.tells ≡ true → (name : ShelfName)
      → ((page : ℕ) → Contains (map noted_page notes) page → name ≡ name_of a.router page Rows → ⊥)
      → after.contents name ≡ before.contents name

-- ---- the ledger behind them

abbrev pub shelved_in : Ledger → (page : ℕ) → Ledger
shelved_in l page = record l { put_before = page ∷ l.put_before; covered_before = page ∷ l.covered_before }

abbrev pub covered_in : Ledger → (page : ℕ) → Ledger
covered_in l page = record l { covered_before = page ∷ l.covered_before }

-- with a page more, where it was put
abbrev pub put_where : Option Digests → (page : ℕ) → List ℕ → List ℕ
put_where None page pages = pages
put_where (Some d) page pages = page ∷ pages

abbrev pub settled_by : Ledger → Settled → Ledger
settled_by l one =
    record l {
      put_before = put_where one.digests one.page.number l.put_before;
      covered_before = one.page.number ∷ l.covered_before;
    }

-- and with all of them
abbrev pub put_all : List ℕ → List Settled → List ℕ
put_all pages [] = pages
put_all pages (one ∷ settled) = put_all (put_where one.digests one.page.number pages) settled

abbrev pub covered_all : List ℕ → List Settled → List ℕ
covered_all pages [] = pages
covered_all pages (one ∷ settled) = covered_all (one.page.number ∷ pages) settled

abbrev pub settled_all : Ledger → List Settled → Ledger
settled_all l settled =
    record l { put_before = put_all l.put_before settled; covered_before = covered_all l.covered_before settled }

abbrev pub finished_at : Ledger → Split → Ledger
finished_at l split = record l {
  put_before = split.put ++ l.put_before;
  covered_before = (split.put ++ split.kept) ++ l.covered_before;
  closed_at_archive = None;
}

-- the name of a record of a page of the segment's archival
pub record IsSplitName (router : ℕ) (split : Split) (name : ShelfName) : Type 0 where
  pub router_is : name.router.number ≡ router
  pub page : Contains (split.put ++ split.kept) name.page.number

-- the segment's archival is finished, where one came
pub record IsFinished (rules : Rules) (l : Ledger) (u : Unfinished) (archived : Option Archived) (agent : Agent)
    (before after : ShelfView) : Type 0 where
  pub told : is_some archived ≡ is_some l.closed_at_archive
  pub split : IsSplitOf rules l (split_by archived)
  pub stands : StandsWhole agent rules (finished_at l (split_by archived)) nothing_unfinished
  pub rose : RoseBy (length (split_by archived).kept - u.refused) before.faults after.faults
  pub holds : before.tells ≡ true → Holds rules before.contents l → HoldsBits rules before.contents l.account u
      → ArePageBits rules l.account u
      → Holds rules after.contents (finished_at l (split_by archived))
  pub others : before.tells ≡ true → KeepsOthers l.account.router before.contents after.contents
  pub untouched : before.tells ≡ true
      → ChangesOnly (IsSplitName l.account.router (split_by archived)) before.contents after.contents
