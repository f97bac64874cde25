-- How a query sees the pages of its window, one by one. No public clause cites this module.
use Rattle.std.specs.Prelude.{ℕ, ◌≡◌, ◌+◌, ◌↔◌, [], ◌∷◌, Bool, true, false, not, List, length, map, filter, filter_map, Option, None, Some}
use Rattle.std.specs.List.{Contains}
use Rattle.spie_base.specs.Causes.{RoseBy}
use Rattle.spie_base.specs.declared.PageNo.{PageNo}
use Rattle.spie_base.specs.declared.Rules.{Rules}
use Rattle.spie_base.specs.declared.Sig.{Sig}
use Rattle.bloom_page.specs.Sets.{is_in}
use Rattle.packet_signature.specs.declared.Row.{Row}
use Rattle.used_pages.specs.UsedPages.{Held, rows_undone}
use Rattle.hash_family.specs.Positions.{family_of}
use Rattle.spie_base.specs.Shapes.{shape_of}
use Rattle.router_account.specs.declared.words.Cause.TheVariants.{Failed}
use Rattle.router_account.specs.declared.words.Unreadable.{Unreadable}
use Rattle.router_account.specs.Account.{Account, held}
use Rattle.router_account.specs.Ledger.{Ledger}
use Rattle.router_account.specs.Records.{IsCause, HasDigests, AreTold}
use Rattle.router_account.specs.Shelves.{ShelfView}
use Rattle.router_account.specs.Sights.{GotPage, UnreadPage, Reading, failures}
use Rattle.data_agent.specs.declared.looking.Look.{Look}
use Rattle.data_agent.specs.declared.looking.Looked.{Looked}
use Rattle.data_agent.specs.declared.looking.Looked.TheVariants.{Borrowed, ReadBack, Unread}
use Rattle.data_agent.specs.declared.looking.ReadPage.{ReadPage}
use Rattle.data_agent.specs.Residents.{IsResident, shows}

-- ---- what a page shows

abbrev pub looked_unread : Looked → Bool
looked_unread (Borrowed r) = false
looked_unread (ReadBack p) = false
looked_unread (Unread cause) = true

abbrev pub is_unread : Look → Bool
is_unread look = looked_unread look.looked

abbrev pub looked_shows : Looked → Sig → Bool
looked_shows (Borrowed r) sig = shows r.now sig
looked_shows (ReadBack p) sig = shows p.resident sig
looked_shows (Unread cause) sig = false

abbrev pub look_shows : Look → Sig → Bool
look_shows look sig = looked_shows look.looked sig

-- what the rows of a page that was read back say that a signature was before
abbrev pub looked_undone : Sig → Looked → List Sig
looked_undone sig (Borrowed r) = []
looked_undone sig (ReadBack p) = rows_undone sig p.rows
looked_undone sig (Unread cause) = []

abbrev pub undone_by : Sig → Look → List Sig
undone_by sig look = looked_undone sig look.looked

-- ---- what is told of the pages

abbrev pub look_page : Look → PageNo
look_page look = look.page

abbrev pub used_of : List Look → List PageNo
used_of looks = map look_page (filter (λ look. not (is_unread look)) looks)

abbrev pub unread_where : PageNo → Looked → Option Unreadable
unread_where page (Borrowed r) = None
unread_where page (ReadBack p) = None
unread_where page (Unread cause) = Some (record { page = page; cause = cause })

abbrev pub unread_of : List Look → List Unreadable
unread_of looks = filter_map (λ look. unread_where look.page look.looked) looks

-- the same, and what was read, as a reading
abbrev pub unread_in : (page : ℕ) → Looked → Option UnreadPage
unread_in page (Borrowed r) = None
unread_in page (ReadBack p) = None
unread_in page (Unread cause) = Some (record { page = page; cause = cause })

abbrev pub got_in : (page : ℕ) → Looked → Option GotPage
got_in page (Borrowed r) = None
got_in page (ReadBack p) =
    Some (record { page = page; held = record { bits = p.resident.page.members; rows = p.read.value } })
got_in page (Unread cause) = None

abbrev pub reading_of : List Look → Reading
reading_of looks = record {
  unread = filter_map (λ look. unread_in look.page.number look.looked) looks;
  got = filter_map (λ look. got_in look.page.number look.looked) looks;
}

-- ---- what the agent promises of it

-- a page was read back with the digests that were kept
pub record IsReadPage (rules : Rules) (a : Account) (page : ℕ) (p : ReadPage) : Type 0 where
  pub family : p.resident.family.value ≡ family_of (shape_of rules a.router) page
  pub same : (row : Row) → Contains p.rows row ↔ Contains p.read.value row
  pub digests : HasDigests rules a
      (record { page = page; held = record { bits = p.resident.page.members; rows = p.read.value } })

-- and is what was recorded
abbrev pub IsTruePage : Rules → Account → (page : ℕ) → ReadPage → Type 0
IsTruePage rules a page p =
    (let h : Held = record { bits = p.resident.page.members; rows = p.read.value } in h) ≡ held rules a page

-- a page was read from the shelf, or could not be
abbrev pub IsReadBack : Rules → Account → (page : ℕ) → (before after : ShelfView) → Looked → Type 0
IsReadBack rules a page before after (Borrowed r) = ⊥
IsReadBack rules a page before after (ReadBack p) =
    IsReadPage rules a page p × (AreTold rules a page before → IsTruePage rules a page p)
IsReadBack rules a page before after (Unread cause) = IsCause rules a page before after cause

-- a page that was not put is borrowed, and each other one was read from the shelf
abbrev pub IsLooked : Rules → Ledger → (page : ℕ) → (before after : ShelfView) → Looked → Type 0
IsLooked rules l page before after (Borrowed r) =
    (is_in l.put_before page ≡ false) × IsResident rules l.account page r.now
IsLooked rules l page before after (ReadBack p) =
    (is_in l.put_before page ≡ true) × IsReadBack rules l.account page before after (ReadBack p)
IsLooked rules l page before after (Unread cause) =
    (is_in l.put_before page ≡ true) × IsReadBack rules l.account page before after (Unread cause)

-- what stays of that when the shelf is asked further: where it tells the true records, only faults make pages unreadable
abbrev pub IsKnown : Rules → Ledger → (page : ℕ) → (before : ShelfView) → Looked → Type 0
IsKnown rules l page before (Borrowed r) = (is_in l.put_before page ≡ false) × IsResident rules l.account page r.now
IsKnown rules l page before (ReadBack p) =
    (is_in l.put_before page ≡ true) × IsReadPage rules l.account page p
    × (AreTold rules l.account page before → IsTruePage rules l.account page p)
IsKnown rules l page before (Unread cause) =
    (is_in l.put_before page ≡ true) × (AreTold rules l.account page before → cause ≡ Failed)

pub record IsLook (rules : Rules) (l : Ledger) (page : ℕ) (before : ShelfView) (look : Look) : Type 0 where
  pub page_is : look.page.number ≡ page
  pub known : IsKnown rules l page before look.looked

-- pages one behind the other, from a first one on
abbrev pub AreLooks : Rules → Ledger → (before : ShelfView) → (first : ℕ) → List Look → Type 0
AreLooks rules l before first [] = Unit {0}
AreLooks rules l before first (look ∷ looks) =
    IsLook rules l first before look × AreLooks rules l before (first + 1) looks

-- so many of them
pub record LooksTo (rules : Rules) (l : Ledger) (first count : ℕ) (looks : List Look) (before after : ShelfView)
    : Type 0 where
  pub count_is : length looks ≡ count
  pub each : AreLooks rules l before first looks
  pub causes : (x : UnreadPage) → Contains (reading_of looks).unread x → IsCause rules l.account x.page before after x.cause
  pub rose : RoseBy (failures (reading_of looks)) before.faults after.faults
