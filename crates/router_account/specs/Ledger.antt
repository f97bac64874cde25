-- What one router's agent stands for: what is known of the router, and what barriers and archivals made of its pages.
--
-- A barrier is where expiry is decided and a segment's archival is finished. So a ledger has the closings and the clock
-- of the last barrier, and what the archivals of earlier segments did; how a segment's archival splits its pages into
-- those that are put and those that are kept shows in the ledger behind the next barrier.
use Rattle.std.specs.Prelude.{ℕ, [], ◌++◌, Bool, List, if◌then◌else◌, Option, None, Some}
use Rattle.spie_base.specs.declared.Rules.{Rules}
use Rattle.spie_base.specs.declared.Sig.{Sig}
use Rattle.packet_signature.specs.declared.Row.{Row}
use Rattle.page_catalogue.specs.Pages.{is_expired}
use Rattle.router_account.specs.Account.{Account, first_account, with_entry, with_row, with_closing, after_tick}

-- the pages of an archival that are on the shelf, and those that stayed in memory
pub record Split : Type 0 where
  pub put : List ℕ
  pub kept : List ℕ

abbrev pub no_split : Split
no_split = record { put = []; kept = [] }

-- an account; when pages were closed at the last barrier, and its clock; the pages that archivals of earlier segments
-- put, and those that they covered; the pages that barriers left on the shelf; and, where an archival came in this
-- segment, which pages were closed then
pub record Ledger : Type 0 where
  pub account : Account
  pub closings_then : List ℕ
  pub clock_then : ℕ
  pub put_before : List ℕ
  pub covered_before : List ℕ
  pub left_before : List ℕ
  pub closed_at_archive : Option (List ℕ)

abbrev pub first_ledger : (router : ℕ) → Ledger
first_ledger router = record {
  account = first_account router;
  closings_then = [];
  clock_then = 0;
  put_before = [];
  covered_before = [];
  left_before = [];
  closed_at_archive = None;
}

-- the bits that a page had when its bits record was put
pub record PutBits : Type 0 where
  pub page : ℕ
  pub bits : List ℕ

-- what an agent knows beside its ledger while a segment's archival is not finished: how many of its puts failed, and the
-- bits records that it put
pub record Unfinished : Type 0 where
  pub refused : ℕ
  pub bits_put : List PutBits

abbrev pub nothing_unfinished : Unfinished
nothing_unfinished = record { refused = 0; bits_put = [] }

-- whether a page was expired at the last barrier
abbrev pub was_expired : Rules → Ledger → (page : ℕ) → Bool
was_expired rules l page = is_expired rules l.closings_then l.clock_then page

-- ---- a ledger after one thing more

-- a signature was recorded in a page
abbrev pub recorded_in : Ledger → (page : ℕ) → Sig → Ledger
recorded_in l page sig = record l { account = with_entry l.account page sig }

-- a transform was made of a packet that was recorded in a page
abbrev pub changed_in : Ledger → (page : ℕ) → Row → Ledger
changed_in l page row = record l { account = with_row l.account page row }

-- the next page was opened
abbrev pub turned_at : Ledger → (clock : ℕ) → Ledger
turned_at l clock = record l { account = with_closing l.account clock }

-- an archival noted which pages are closed
abbrev pub at_archive : Ledger → Ledger
at_archive l = record l { closed_at_archive = Some l.account.closings }

-- a barrier at a clock, which is a tick's time where it is a tick; so the pages of the segment's archival split, and
-- these expired pages were left on the shelf
abbrev pub behind_barrier : Rules → Ledger → (clock : ℕ) → (tick : Bool) → Split → (left : List ℕ) → Ledger
behind_barrier rules l clock tick split left =
    let a = if tick then after_tick rules l.account clock else l.account in
    record {
      account = a;
      closings_then = a.closings;
      clock_then = clock;
      put_before = split.put ++ l.put_before;
      covered_before = (split.put ++ split.kept) ++ l.covered_before;
      left_before = left ++ l.left_before;
      closed_at_archive = None;
    }
