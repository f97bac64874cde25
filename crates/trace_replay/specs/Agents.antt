-- What the agents of all routers do at a barrier and at a query, each with the shelf in turn.
use Rattle.std.specs.Prelude.{ℕ, ◌-◌, ◌≡◌, ◌≤◌, ◌<◌, Bool, true, List, [], length, None, slice_index_or, slice_get, unwrap_or, option_map}
use Rattle.std.specs.List.{Contains}
use Rattle.spie_base.specs.Causes.{RoseBy}
use Rattle.spie_base.specs.Shown.{Shown}
use Rattle.spie_base.specs.declared.Rules.{Rules}
use Rattle.page_shelf.specs.Shelves.{ChangesOnly, Contents, IsSame}
use Rattle.page_shelf.specs.declared.ShelfName.{ShelfName}
use Rattle.router_account.specs.Ledger.{Ledger, Unfinished, nothing_unfinished, behind_barrier}
use Rattle.router_account.specs.Readings.{IsReadFrom}
use Rattle.router_account.specs.Records.{Holds, HoldsBits, ArePageBits, AreTrue, AllFailed}
use Rattle.router_account.specs.Shelves.{ShelfView, view_of}
use Rattle.router_account.specs.Sights.{Reading, failures, no_reading}
use Rattle.data_agent.specs.declared.Barrier.{Barrier}
use Rattle.data_agent.specs.Calls.{Meaning, MayPass, MayAsk, IsPassed, IsSeen, Told, split_of, left_of, marks_of}
use Rattle.trace_history.specs.Replay.{ReplayViews}
use Rattle.trace_history.specs.Routers.{RouterRules, sum_over}

-- what each agent stands for
abbrev pub Standing : Type 0 → Type 1
Standing A = A → Meaning

-- each agent stands for the ledger of its router, with what is unfinished there
pub record AllStand {A : Type 0} (stands : Standing A) (rules : RouterRules) (ls : ℕ → Ledger) (us : ℕ → Unfinished) (agents : List A) : Type 0 where
  pub each : (r : ℕ) (d : A) → r < length agents → stands (slice_index_or agents r d) (rules r) (ls r) (us r)
  pub numbered : (r : ℕ) → (ls r).account.router ≡ r

-- a shelf holds the records of a ledger, and those that an archival put so far
pub record IsHeld (rules : Rules) (contents : Contents) (l : Ledger) (u : Unfinished) : Type 0 where
  pub records : Holds rules contents l
  pub bits : HoldsBits rules contents l.account u
  pub true_bits : ArePageBits rules l.account u

abbrev pub AreHeld : (routers : ℕ) → RouterRules → Contents → (ls : ℕ → Ledger) → (us : ℕ → Unfinished) → Type 0
AreHeld routers rules contents ls us = (r : ℕ) → r < routers → IsHeld (rules r) contents (ls r) (us r)

-- ---- a barrier

abbrev pub IsReady : {A : Type 0} → Standing A → (clock : ℕ) → (tick : Bool) → A → Type 0
IsReady stands clock tick agent = MayPass (stands agent) clock tick

abbrev pub no_barrier : Barrier
no_barrier = record { archived = None; closed = None; left = [] }

abbrev pub barrier_at : List Barrier → (router : ℕ) → Barrier
barrier_at barriers r = slice_index_or barriers r no_barrier

-- the ledger behind a barrier that did this
abbrev pub passed : Rules → Ledger → (clock : ℕ) → (tick : Bool) → Barrier → Ledger
passed rules l clock tick b = behind_barrier rules l clock tick (split_of b) (left_of b)

-- the ledgers behind a barrier
abbrev pub passed_by : RouterRules → (clock : ℕ) → (tick : Bool) → List Barrier → (ls : ℕ → Ledger) → (router : ℕ) → Ledger
passed_by rules clock tick barriers ls r = passed (rules r) (ls r) clock tick (barrier_at barriers r)

-- what a barrier made of a router
pub record IsPassedAt {A : Type 0} (stands : Standing A) (rules : Rules) (clock : ℕ) (tick : Bool) (l : Ledger) (b : Barrier) (new : A) : Type 0 where
  pub told : IsPassed rules l clock tick b
  pub stands_now : stands new rules (passed rules l clock tick b) nothing_unfinished

-- the name of a record of a page that archivals covered up to a barrier, at one of the routers below i
pub record IsCoveredBehind (rules : RouterRules) (clock : ℕ) (tick : Bool) (i : ℕ) (barriers : List Barrier) (ls : ℕ → Ledger) (name : ShelfName) : Type 0 where
  pub router : name.router.number < i
  pub page : Contains (passed_by rules clock tick barriers ls name.router.number).covered_before name.page.number

-- the routers below i have passed, and the others are as before
pub record PassesUpTo {A : Type 0} (stands : Standing A) (clock : ℕ) (tick : Bool) (i : ℕ) (old new : List A) (barriers : List Barrier) (before after : ShelfView) : Type 0 where
  pub count : length barriers ≡ i
  pub same : length new ≡ length old
  pub rest : (r : ℕ) (d : A) → i ≤ r → slice_index_or new r d ≡ slice_index_or old r d
  pub later : before.faults ≤ after.faults
  pub still : after.tells ≡ before.tells
  pub done : (rules : RouterRules) (ls : ℕ → Ledger) (us : ℕ → Unfinished) → AllStand stands rules ls us old → (r : ℕ) (d : A) → r < i
      → IsPassedAt stands (rules r) clock tick (ls r) (barrier_at barriers r) (slice_index_or new r d)
  pub paid : (rules : RouterRules) (ls : ℕ → Ledger) (us : ℕ → Unfinished) → AllStand stands rules ls us old
      → RoseBy (sum_over i (λ r. marks_of (barrier_at barriers r) - (us r).refused)) before.faults after.faults
  pub holds : before.tells ≡ true → (rules : RouterRules) (ls : ℕ → Ledger) (us : ℕ → Unfinished) → AllStand stands rules ls us old
      → AreHeld (length old) rules before.contents ls us → (r : ℕ) → r < i → Holds (rules r) after.contents (passed_by rules clock tick barriers ls r)
  pub others : before.tells ≡ true → (rules : RouterRules) (ls : ℕ → Ledger) (us : ℕ → Unfinished) → AllStand stands rules ls us old
      → AreHeld (length old) rules before.contents ls us → (r : ℕ) → i ≤ r → r < length old → IsHeld (rules r) after.contents (ls r) (us r)
  pub untouched : before.tells ≡ true → (rules : RouterRules) (ls : ℕ → Ledger) (us : ℕ → Unfinished) → AllStand stands rules ls us old
      → ChangesOnly (IsCoveredBehind rules clock tick i barriers ls) before.contents after.contents

abbrev pub PassesAll : {A : Type 0} → Standing A → (clock : ℕ) → (tick : Bool) → (old new : List A) → List Barrier → (before after : ShelfView) → Type 0
PassesAll stands clock tick old new barriers before after = PassesUpTo stands clock tick (length old) old new barriers before after

-- ---- a query

abbrev pub IsPast : {A : Type 0} → Standing A → (time : ℕ) → A → Type 0
IsPast stands time agent = MayAsk (stands agent) time

abbrev pub IsSeenBy : {S : Type 0} → (S → Shown) → (S → Told) → Rules → Ledger → (time : ℕ) → S → Type 0
IsSeenBy shown told rules l time s = IsSeen rules l time (shown s) (told s)

-- what was read of a router
abbrev pub reading_at : {S : Type 0} → (S → Told) → List S → (router : ℕ) → Reading
reading_at told sights r = unwrap_or (option_map (λ s. (told s).reading) (slice_get sights r)) no_reading

-- a shelf holds the records of the ledgers
abbrev pub AllHold : (routers : ℕ) → RouterRules → Contents → (ls : ℕ → Ledger) → Type 0
AllHold routers rules contents ls = (r : ℕ) → r < routers → Holds (rules r) contents (ls r)

-- the routers below i are seen
pub record SeesUpTo {A S : Type 0} (stands : Standing A) (shown : S → Shown) (told : S → Told) (time i : ℕ) (agents : List A) (sights : List S) (before after : ShelfView) : Type 0 where
  pub count : length sights ≡ i
  pub later : before.faults ≤ after.faults
  pub still : after.tells ≡ before.tells
  pub seen : (rules : RouterRules) (ls : ℕ → Ledger) (us : ℕ → Unfinished) → AllStand stands rules ls us agents → (r : ℕ) (d : S) → r < i
      → IsSeenBy shown told (rules r) (ls r) time (slice_index_or sights r d)
  pub paid : RoseBy (sum_over i (λ r. failures (reading_at told sights r))) before.faults after.faults
  pub all_true : before.tells ≡ true → (rules : RouterRules) (ls : ℕ → Ledger) (us : ℕ → Unfinished) → AllStand stands rules ls us agents
      → AllHold (length agents) rules before.contents ls → (r : ℕ) (d : S) → r < i → AreTrue (rules r) (ls r).account (told (slice_index_or sights r d)).reading
  pub only_faults : before.tells ≡ true → (rules : RouterRules) (ls : ℕ → Ledger) (us : ℕ → Unfinished) → AllStand stands rules ls us agents
      → AllHold (length agents) rules before.contents ls → (r : ℕ) (d : S) → r < i → AllFailed (told (slice_index_or sights r d)).reading
  pub read : (rules : RouterRules) (ls : ℕ → Ledger) (us : ℕ → Unfinished) → AllStand stands rules ls us agents → (r : ℕ) (d : S) → r < i
      → IsReadFrom (rules r) (ls r).account before after (told (slice_index_or sights r d)).reading
  pub unchanged : before.tells ≡ true → IsSame before.contents after.contents

abbrev pub SeesAll : {A S : Type 0} → Standing A → (S → Shown) → (S → Told) → (time : ℕ) → List A → List S → (before after : ShelfView) → Type 0
SeesAll stands shown told time agents sights before after = SeesUpTo stands shown told time (length agents) agents sights before after

-- ---- the shelf of a replay, before it and after it

abbrev pub views_of : {H : Type 0} → (H → Bool) → (H → Contents) → (H → ℕ) → (before after : H) → ReplayViews
views_of tells contents faults before after =
    record { shelf_before = view_of tells contents faults before; shelf_after = view_of tells contents faults after }
