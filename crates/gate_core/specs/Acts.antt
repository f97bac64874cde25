-- The acts: which word each is done on, when it is enabled, and what it does to the word and to the actor's view.
--
-- An act is one atomic operation on one word: n is the number that it reads, `word_after` the one that it leaves, and
-- `view_after` what the actor knows then. `Enabled` speaks of the view alone, so an actor knows by itself what it may do.
-- Read `Acts`, the relation, and then the four definitions that it cites, `Enabled`, `word_of`, `word_after` and `view_after`;
-- their equations stand in the order of the acts.
use Rattle.std.specs.Prelude.{◌≡◌, ℕ, ◌+◌, ◌-◌, ◌*◌, ◌/◌, ◌%◌, ◌^◌, ◌<◌, ◌==◌, true, cond, List, [], ◌∷◌, ◌++◌, length, slice_set, bit_or}
use Rattle.std.specs.Int.{bit_at}
use Rattle.spie_base.specs.declared.Sig.{Sig}
use Rattle.spie_base.specs.declared.PageNo.{PageNo}
use Rattle.spie_base.specs.declared.PageShape.{PageShape}
use Rattle.gate_core.specs.declared.steps.Act.{Act}
use Rattle.gate_core.specs.declared.steps.Act.TheVariants.{Look, Enter, Set, Leave, Seal, Settle, Drain, Point, Probe}
use Rattle.gate_core.specs.declared.steps.Act.TheVariants as act
use Rattle.gate_core.specs.declared.states.PassState.{PassState}
use Rattle.gate_core.specs.declared.states.PassState.TheVariants.{Idle, Looked, Inside, Visiting}
use Rattle.gate_core.specs.declared.states.SlotPhase.{SlotPhase}
use Rattle.gate_core.specs.declared.states.SlotPhase.TheVariants.{Free, Open, Sealed, Quiet}
use Rattle.hash_family.specs.Positions.{position}
use Rattle.gate_core.specs.Marks.{width, size}
use Rattle.gate_core.specs.Views.{Slot, Pass, Keeper, Duties, no_duties, View, slot_at, collected_of}
use Rattle.gate_core.specs.declared.limits.TheConstants.{NO_SLOT, SLOTS}

-- ---- a gate word: bits 0 to 15 are the number inside, bit 16 says that the slot is sealed, bits 32 to 63 are the page

-- how many are inside, visitors counted
abbrev pub inside_of : ℕ → ℕ
inside_of gate = gate % 65536

-- 1 where the slot is sealed
abbrev pub seal_of : ℕ → ℕ
seal_of gate = gate / 65536 % 2

-- the page
abbrev pub page_of : ℕ → ℕ
page_of gate = gate / 4294967296

-- ---- which word: word 0 is the current slot, words 1 to 4 are the gates, and then come the bit words, slot by slot

-- the gate of the slot
abbrev pub gate_place : ℕ → ℕ
gate_place slot = 1 + slot

-- bit word i of the slot
abbrev pub bit_place : PageShape → ℕ → ℕ → ℕ
bit_place shape slot i = 5 + slot * width shape + i

-- how many words they are
abbrev pub word_count : PageShape → ℕ
word_count shape = 5 + 4 * width shape

abbrev pub numbered : ℕ → PageNo
numbered page = record { number = page }

-- the first of two numbers for an open slot, else the second
abbrev pub if_open : SlotPhase → ℕ → ℕ → ℕ
if_open Free a b = b
if_open Open a b = a
if_open Sealed a b = b
if_open (Quiet next) a b = b

-- the slot that is open, or as many as there are
abbrev pub open_among : List Slot → ℕ → ℕ
open_among [] s = s
open_among (x ∷ xs) s = if_open x.phase s (open_among xs (s + 1))

-- the slot that is open, or `NO_SLOT`
abbrev pub open_slot : Duties → ℕ
open_slot d = open_among d.slots 0

-- the word that the next drain of a Quiet slot takes
abbrev pub next_word : SlotPhase → ℕ
next_word (Quiet next) = next
next_word _ = 0

-- the word of the next mark, where the actor is Inside
abbrev pub record_word : PageShape → PassState → ℕ
record_word shape Idle = 0
record_word shape (Looked s) = gate_place s
record_word shape (Inside s page sig m) = bit_place shape s (position shape page.number sig m / 64)
record_word shape (Visiting s gate) = gate_place s

-- the slot of the state, `NO_SLOT` where it has none
abbrev pub slot_of : PassState → ℕ
slot_of Idle = NO_SLOT
slot_of (Looked s) = s
slot_of (Inside s page sig m) = s
slot_of (Visiting s gate) = s

-- the word on which an actor with this view does the act
abbrev pub word_of : PageShape → Act → View → ℕ
-- the current-slot word
word_of shape Look v = 0
-- the gate of the slot that was looked up
word_of shape (Enter sig) v = gate_place (slot_of v.state)
-- the bit word of the record's next mark
word_of shape Set v = record_word shape v.state
-- the gate of the slot in which the actor is Inside or Visiting
word_of shape Leave v = gate_place (slot_of v.state)
-- the gate of the open slot
word_of shape Seal v = gate_place (open_slot v.duties)
-- the gate of s
word_of shape (Settle s) v = gate_place s
-- the bit word `next` of s
word_of shape (Drain s) v = bit_place shape s (next_word (slot_at v.duties s).phase)
-- the gate of s
word_of shape (act.Open s) v = gate_place s
-- the current-slot word
word_of shape Point v = 0
-- the bit word of position p in s
word_of shape (Probe s p) v = bit_place shape s (p / 64)

-- ---- what the word becomes

-- the bit of the record's next mark in its word
abbrev pub mask_of : PageShape → PassState → ℕ
mask_of shape (Inside s page sig m) = 2 ^ (position shape page.number sig m % 64)
mask_of shape _ = 0

-- what is added to the gate of a slot whose page is old, so that it is new and unsealed: (new - old) * 2^32 - 2^16, of 64 bits
abbrev pub reopening : (old new : ℕ) → ℕ
reopening old new = (new * 4294967296 + 2 ^ 64 - old * 4294967296 - 65536) % 2 ^ 64

-- a gate whose slot had one page and gets another: those inside stay counted, and the seal goes
abbrev pub reopened : (gate old new : ℕ) → ℕ
reopened gate old new = (gate + reopening old new) % 2 ^ 64

-- the word after the act, n being the number that it read
abbrev pub word_after : PageShape → Act → View → ℕ → ℕ
-- a load
word_after shape Look v n = n
-- fetch-add of 1: one more is inside
word_after shape (Enter sig) v n = (n + 1) % 2 ^ 64
-- fetch-or of the mark's bit
word_after shape Set v n = bit_or n (mask_of shape v.state)
-- fetch-sub of 1: one less is inside
word_after shape Leave v n = (n + (2 ^ 64 - 1)) % 2 ^ 64
-- fetch-or of bit 16
word_after shape Seal v n = bit_or n 65536
-- a load
word_after shape (Settle s) v n = n
-- a swap with 0
word_after shape (Drain s) v n = 0
-- fetch-add: the next page, unsealed, with as many inside as before
word_after shape (act.Open s) v n = reopened n (slot_at v.duties s).page v.duties.next
-- a store of the open slot
word_after shape Point v n = open_slot v.duties
-- a load
word_after shape (Probe s p) v n = n

-- ---- what the actor's view becomes, n being the number that was read

-- the actor is in the state st
abbrev pub moved_to : View → PassState → View
moved_to v st = record v { state = st }

-- Inside the gate's page where the gate is unsealed, else Visiting, and the visit is noted
abbrev pub after_enter : View → ℕ → Sig → ℕ → View
after_enter v s sig n = cond (seal_of n == 0) (moved_to v (Inside s (numbered (page_of n)) sig 0))
    (record v { state = Visiting s n; visits = v.visits ++ record { slot = s; gate = n } ∷ [] })

-- one mark more is set
abbrev pub after_set : View → PassState → View
after_set v (Inside s page sig m) = moved_to v (Inside s page sig (m + 1))
after_set v _ = v

-- the record is finished, or the visit over
abbrev pub after_leave : View → PassState → View
after_leave v (Inside s page sig m) = record v { state = Idle; entries = v.entries ++ record { page = page; sig = sig } ∷ [] }
after_leave v _ = moved_to v Idle

-- the keeper knows d
abbrev pub with_duties : View → Duties → View
with_duties v d = record v { duties = d }

-- the slot s becomes x
abbrev pub with_slot : Duties → ℕ → Slot → Duties
with_slot d s x = record d { slots = slice_set d.slots s x }

-- the slot s in the phase ph, with the page that it has
abbrev pub phased_slot : Duties → ℕ → SlotPhase → Slot
phased_slot d s ph = record { phase = ph; page = (slot_at d s).page; used = (slot_at d s).used }

-- the slot s goes into the phase ph
abbrev pub in_phase : Duties → ℕ → SlotPhase → Duties
in_phase d s ph = with_slot d s (phased_slot d s ph)

-- 1 where the keeper has begun a record of its own
abbrev pub busy : PassState → ℕ
busy Idle = 0
busy _ = 1

-- the gate is noted, and with it how many can be inside; the slot is Quiet where nobody is
abbrev pub after_settle : View → ℕ → ℕ → View
after_settle v s n = let d = record v.duties { noted = n; noted_with = v.duties.out + busy v.state } in with_duties v (cond (inside_of n == 0) (in_phase d s (Quiet 0)) d)

-- Quiet, with so many words taken, or Free after the last one
abbrev pub phase_taken : PageShape → (taken : ℕ) → SlotPhase
phase_taken shape taken = cond (taken == width shape) Free (Quiet taken)

-- the word joins the collected ones of the slot's page; after the last word the slot is Free
abbrev pub after_drain : PageShape → View → ℕ → ℕ → View
after_drain shape v s n = let j = next_word (slot_at v.duties s).phase in let page = (slot_at v.duties s).page in
    let d = record v.duties { collected = slice_set v.duties.collected page (collected_of v.duties page ++ n ∷ []) } in
    with_duties v (in_phase d s (phase_taken shape (j + 1)))

-- after all its drains so far: the slot is in this phase, and its page has these collected words
abbrev pub drained_to : View → (slot : ℕ) → SlotPhase → List ℕ → View
drained_to v s ph words = let d = v.duties in with_duties v (record d { slots = slice_set d.slots s (phased_slot d s ph); collected = slice_set d.collected (slot_at d s).page words })

-- the next page is open in the slot, and none of its words is collected
abbrev pub after_open : View → ℕ → View
after_open v s = let d = record v.duties { next = v.duties.next + 1; collected = v.duties.collected ++ [] ∷ [] } in with_duties v (with_slot d s (record { phase = Open; page = v.duties.next; used = true }))

-- the bit is noted, and with it how many entries the keeper has
abbrev pub after_probe : View → ℕ → ℕ → ℕ → View
after_probe v s p n = with_duties v (record v.duties { probes = v.duties.probes ++ record { page = (slot_at v.duties s).page; at = p; bit = bit_at n (p % 64) == 1; known = length v.entries } ∷ [] })

-- the actor's view after the act
abbrev pub view_after : PageShape → Act → View → ℕ → View
-- Looked at the slot that was read
view_after shape Look v n = moved_to v (Looked n)
-- Inside with no mark set, or Visiting
view_after shape (Enter sig) v n = after_enter v (slot_of v.state) sig n
-- Inside with one mark more
view_after shape Set v n = after_set v v.state
-- Idle; from Inside with the entry as the last one
view_after shape Leave v n = after_leave v v.state
-- the open slot is Sealed
view_after shape Seal v n = with_duties v (in_phase v.duties (open_slot v.duties) Sealed)
-- the slot is Quiet with `next` 0 where nobody was inside, else Sealed as before
view_after shape (Settle s) v n = after_settle v s n
-- the slot is Quiet with the next `next`, or Free after the last word
view_after shape (Drain s) v n = after_drain shape v s n
-- the slot is Open with the next page
view_after shape (act.Open s) v n = after_open v s
-- the keeper pointed at the open slot
view_after shape Point v n = with_duties v (record v.duties { pointed = open_slot v.duties })
-- one probe more
view_after shape (Probe s p) v n = after_probe v s p n

-- ---- when an act is enabled

-- Idle or Looked
abbrev pub CanLook : PassState → Type 0
CanLook Idle = Unit {0}
CanLook (Looked s) = Unit {0}
CanLook (Inside s page sig m) = ⊥
CanLook (Visiting s gate) = ⊥

-- Looked
abbrev pub HasLooked : PassState → Type 0
HasLooked Idle = ⊥
HasLooked (Looked s) = Unit {0}
HasLooked (Inside s page sig m) = ⊥
HasLooked (Visiting s gate) = ⊥

-- Inside, with a mark left to set
abbrev pub CanSet : PageShape → PassState → Type 0
CanSet shape Idle = ⊥
CanSet shape (Looked s) = ⊥
CanSet shape (Inside s page sig m) = m < shape.k
CanSet shape (Visiting s gate) = ⊥

-- Inside with all k marks set, or Visiting
abbrev pub CanLeave : PageShape → PassState → Type 0
CanLeave shape Idle = ⊥
CanLeave shape (Looked s) = ⊥
CanLeave shape (Inside s page sig m) = m ≡ shape.k
CanLeave shape (Visiting s gate) = Unit {0}

abbrev pub IsSealed : SlotPhase → Type 0
IsSealed Free = ⊥
IsSealed Open = ⊥
IsSealed Sealed = Unit {0}
IsSealed (Quiet next) = ⊥

abbrev pub IsQuiet : SlotPhase → Type 0
IsQuiet Free = ⊥
IsQuiet Open = ⊥
IsQuiet Sealed = ⊥
IsQuiet (Quiet next) = Unit {0}

-- the live words are all the words of the slot's page
abbrev pub CanProbe : SlotPhase → Type 0
CanProbe Free = ⊥
CanProbe Open = Unit {0}
CanProbe Sealed = Unit {0}
CanProbe (Quiet next) = next ≡ 0

-- an actor with this view may do the act
abbrev pub Enabled : PageShape → Act → View → Type 0
-- Idle or Looked
Enabled shape Look v = CanLook v.state
-- Looked
Enabled shape (Enter sig) v = HasLooked v.state
-- Inside with fewer than k marks set
Enabled shape Set v = CanSet shape v.state
-- Inside with all k marks set, or Visiting
Enabled shape Leave v = CanLeave shape v.state
-- the keeper, and a slot is Open
Enabled shape Seal v = (v.role ≡ Keeper) × (open_slot v.duties < SLOTS)
-- the keeper, and s is Sealed
Enabled shape (Settle s) v = (v.role ≡ Keeper) × (s < SLOTS) × IsSealed (slot_at v.duties s).phase
-- the keeper, and s is Quiet
Enabled shape (Drain s) v = (v.role ≡ Keeper) × (s < SLOTS) × IsQuiet (slot_at v.duties s).phase
-- the keeper, s is Free, no slot is Open, and the page after the next one is below 2^32
Enabled shape (act.Open s) v = (v.role ≡ Keeper) × (s < SLOTS) × ((slot_at v.duties s).phase ≡ Free) × (open_slot v.duties ≡ NO_SLOT) × (v.duties.next < 4294967295)
-- the keeper, and a slot is Open
Enabled shape Point v = (v.role ≡ Keeper) × (open_slot v.duties < SLOTS)
-- the keeper, s is Open, Sealed, or Quiet with `next` 0, and p is one of a page's positions
Enabled shape (Probe s p) v = (v.role ≡ Keeper) × (s < SLOTS) × (p < size shape) × CanProbe (slot_at v.duties s).phase

-- ---- the relation

-- The act a on word i, which it finds at n and leaves at n', by an actor whose view is v before and w after
pub record Acts (shape : PageShape) (a : Act) (i n n' : ℕ) (v w : View) : Type 0 where
  -- the actor may do it
  pub enabled : Enabled shape a v
  -- it is done on that word
  pub place : i ≡ word_of shape a v
  -- it leaves that number there
  pub word : n' ≡ word_after shape a v n
  -- it changes the actor's own view, and no other
  pub view : w ≡ view_after shape a v n

-- ---- the two moves of actors, which change no word

-- the keeper has dealt one pass more, which is out
abbrev pub dealer_view : View → View
dealer_view v = with_duties v (record v.duties { dealt = v.duties.dealt + 1; out = v.duties.out + 1 })

-- the new pass: its floor is the page of the slot that the keeper last pointed at
abbrev pub dealt_view : View → View
dealt_view v = record { role = Pass; number = v.duties.dealt; state = Idle; entries = []; visits = []; floor = (slot_at v.duties v.duties.pointed).page; duties = no_duties }

-- the keeper has the entries of the pass behind its own, and one pass less is out
abbrev pub gathered_view : View → View → View
gathered_view v p = record v { entries = v.entries ++ p.entries; duties = record v.duties { out = v.duties.out - 1 } }
