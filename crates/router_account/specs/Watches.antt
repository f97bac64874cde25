-- What a watch is answered.
use Rattle.std.specs.Prelude.{ℕ, ◌≡◌, Bool, true, false, not, ◌&&◌, ◌||◌, if◌then◌else◌}
use Rattle.std.specs.List.{list_any}
use Rattle.spie_base.specs.declared.Rules.{Rules}
use Rattle.spie_base.specs.declared.Sig.{Sig}
use Rattle.bloom_page.specs.Sets.{is_in, are_in}
use Rattle.router_account.specs.declared.words.Watch.{Watch}
use Rattle.router_account.specs.declared.words.Watch.TheVariants.{Seen, NotSeen, Unknown}
use Rattle.router_account.specs.Account.{Account, bits, marks, window}
use Rattle.router_account.specs.Ledger.{Ledger, was_expired}

-- whether a page is missing for a watch: expired at the last barrier, or put by an archival of an earlier segment
abbrev pub is_missing_now : Rules → Ledger → (page : ℕ) → Bool
is_missing_now rules l page = was_expired rules l page || is_in l.put_before page

-- whether a page of the window at this clock is missing
abbrev pub misses : Rules → Ledger → (clock : ℕ) → Bool
misses rules l clock = list_any (is_missing_now rules l) (window rules l.account clock)

-- whether a page has all marks of a signature by what an account says
abbrev pub shows : Rules → Account → Sig → (page : ℕ) → Bool
shows rules a sig page = are_in (bits rules a page) (marks rules a.router page sig)

-- whether a page that is consulted, one of the window that is not missing, shows a signature by what the account `at` says
abbrev pub is_shown : Rules → Ledger → (at : Account) → (clock : ℕ) → Sig → Bool
is_shown rules l at clock sig = list_any (λ page. not (is_missing_now rules l page) && shows rules at sig page) (window rules l.account clock)

abbrev pub watch_word : (shown missing : Bool) → Watch
watch_word shown missing = if shown then Seen else (if missing then Unknown else NotSeen)

-- with one worker: by all records of earlier lines, and no others
abbrev pub watch_of : Rules → Ledger → (clock : ℕ) → Sig → Watch
watch_of rules l clock sig = watch_word (is_shown rules l l.account clock sig) (misses rules l clock)

-- with several: seen only by what was there at the segment's end, and else only where it was not there at its start
abbrev pub IsBetween : Rules → Ledger → (start end : Account) → (clock : ℕ) → Sig → Watch → Type 0
IsBetween rules l start end clock sig Seen = is_shown rules l end clock sig ≡ true
IsBetween rules l start end clock sig Unknown = (misses rules l clock ≡ true) × (is_shown rules l start clock sig ≡ false)
IsBetween rules l start end clock sig NotSeen = (misses rules l clock ≡ false) × (is_shown rules l start clock sig ≡ false)
