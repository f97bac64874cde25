-- Clocks of rotations one behind the other, and ledgers beside passes.
use Rattle.std.proofs.Common.{ℕ, Bool, ◌≡◌, ◌≤◌, ◌<◌, ◌+◌, ◌^◌, ◌∷◌, [], ◌++◌, List, refl, arith, lit<, Result, Ok, Err, OnOk, ⊎_elim}
use Rattle.std.specs.List.{Contains}
use Rattle.std.proofs.lemmas.List.Elements.{Contains-append_cases}
use Rattle.spie_base.proofs.Membership.{has_none, has_one}
use Rattle.spie_base.specs.declared.Entry.{Entry}
use Rattle.spie_base.specs.declared.Rules.{Rules}
use Rattle.page_gate.specs.Held.{PassHeld}
use Rattle.page_shelf.specs.Shelves.{Contents}
use Rattle.router_account.specs.Ledger.{Ledger, Unfinished, at_archive, first_ledger, nothing_unfinished, turned_at}
use Rattle.data_agent.specs.Beside.{AreClosedBits, AreFrom, Away, IsGathered, StandsBeside, meaning_beside}
use Rattle.data_agent.specs.Calls.{IsLate, IsNotedBeside, with_more}
use Rattle.data_agent.specs.declared.agent.Agent.{Agent}
use Rattle.agent_tests.specs.TwoPasses.{IsArchived, IsAt, after_four, after_one, the_rules}

pub late_first : (router clock : ℕ) → clock < 2 ^ 48 → IsLate (first_ledger router) clock
late_first router clock fits = record { then = omega arith; closings = λ time has. absurd (has_none time has); fits = fits }

pub late_turned : (l : Ledger) (before clock : ℕ) → IsLate l before → before ≤ clock → clock < 2 ^ 48 → IsLate (turned_at l before) clock
late_turned l before clock late le fits = record {
  then = let a = late.then in omega arith;
  closings = λ time has. ⊎_elim
      (λ old. let b = late.closings time old in omega arith)
      (λ new. let e : before ≡ time = has_one before time new in omega arith)
      (Contains-append_cases l.account.closings (before ∷ []) time has);
  fits = fits;
}

-- the ledger that has these entries too, after an archival
abbrev pub with_entries : Ledger → List Entry → Ledger
with_entries l more = record l { account = record l.account { entries = l.account.entries ++ more } }

pub gathered_in : (l : Ledger) (more : List Entry) → IsGathered l more (with_entries l more)
gathered_in l more = record { rest = refl; members = λ entry. (λ has. has, λ has. has) }

pub late_gathered : (l : Ledger) (more : List Entry) (clock : ℕ) → IsLate l clock → IsLate (with_entries (at_archive l) more) clock
late_gathered l more clock late = record { then = late.then; closings = late.closings; fits = late.fits }

pub none_put : (rules : Rules) (l : Ledger) → AreClosedBits rules l nothing_unfinished
none_put rules l x has = absurd (has_none x has)

pub from_first : (passes : List PassHeld) → AreFrom 0 passes
from_first passes i d lt = omega arith

-- four rotations

pub late_one : IsLate (first_ledger 2) 5
late_one = late_first 2 5 (lit< tt)

pub late_two : IsLate after_one 5
late_two = late_turned (first_ledger 2) 5 5 late_one (omega arith) (lit< tt)

pub late_three : IsLate (turned_at after_one 5) 6
late_three = late_turned after_one 5 6 late_two (omega arith) (lit< tt)

pub late_four : IsLate (turned_at (turned_at after_one 5) 6) 7
late_four = late_turned (turned_at after_one 5) 6 7 late_three (omega arith) (lit< tt)

pub late_tick : IsLate after_four 8
late_tick = late_turned (turned_at (turned_at after_one 5) 6) 7 8 late_four (omega arith) (lit< tt)

-- ---- the calls

pub turned_on : {T E : Type 0} (result : Result T E) (old new : Agent) (l : Ledger) (clock : ℕ) → IsAt old l
    → OnOk result ((rules : Rules) (l : Ledger) (u : Unfinished) (away : Away) → StandsBeside old rules l u away → StandsBeside new rules (turned_at l clock) u away) → OnOk result (IsAt new (turned_at l clock))
turned_on (Ok x) old new l clock s told = record { stands = told the_rules l nothing_unfinished (record { out = 2; since = 0 }) s.stands }
turned_on (Err e) old new l clock s told = tt

pub archived_on : {T E : Type 0} (Q R : Unfinished → Type 0) (tells : Bool) (before after : Contents) (result : Result T E) (old new : Agent) → IsAt old after_four
    → OnOk result ((more : Unfinished) × Q more × ((away : Away) → IsNotedBeside (meaning_beside old away) (meaning_beside new away) more tells before after) × R more) → OnOk result (IsArchived new)
archived_on Q R tells before after (Ok x) old new s (more, alone, told, rose) = record {
  unfinished = with_more nothing_unfinished more;
  stands = (told (record { out = 2; since = 0 })).noted the_rules after_four nothing_unfinished s.stands;
}
archived_on Q R tells before after (Err e) old new s told = tt
