-- The slots as the keeper sees them: which page is open, which are closed and still stand in a slot, and how many are free.
use Rattle.std.specs.Prelude.{◌≡◌, ℕ, ◌<◌, Bool, true, false, List, [], ◌∷◌, count_by, Option, Some, None, if◌then◌else◌, nat_lt}
use Rattle.gate_core.specs.declared.limits.TheConstants.{SLOTS}
use Rattle.gate_core.specs.declared.states.SlotPhase.{SlotPhase}
use Rattle.gate_core.specs.declared.states.SlotPhase.TheVariants.{Free, Open, Sealed, Quiet}
use Rattle.gate_core.specs.declared.view.Slot.{Slot}
use Rattle.gate_core.specs.declared.view.Duties.{Duties}
use Rattle.gate_core.specs.Views.{slot_at}
use Rattle.gate_core.specs.Acts.{open_slot}

-- a slot is open
abbrev pub HasOpen : Duties → Type 0
HasOpen d = open_slot d < SLOTS

-- the page that is open
abbrev pub open_page : Duties → ℕ
open_page d = (slot_at d (open_slot d)).page

-- where a page was open, the same one still is
abbrev pub StaysOpen : (before after : Duties) → Type 0
StaysOpen d e = HasOpen d → HasOpen e × (open_page e ≡ open_page d)

abbrev pub is_free : SlotPhase → Bool
is_free Free = true
is_free Open = false
is_free Sealed = false
is_free (Quiet next) = false

-- how many slots are free
abbrev pub free_count : Duties → ℕ
free_count d = count_by (λ (x : Slot). is_free x.phase) d.slots

-- the slot's page is closed, and not all of its words are collected
abbrev pub is_waiting : SlotPhase → Bool
is_waiting Free = false
is_waiting Open = false
is_waiting Sealed = true
is_waiting (Quiet next) = true

-- a page that is closed and not collected
abbrev pub IsWaiting : Duties → (page : ℕ) → Type 0
IsWaiting d page = (s : ℕ) × (s < SLOTS) × (is_waiting (slot_at d s).phase ≡ true) × ((slot_at d s).page ≡ page)

-- the lesser of a page and another, if there is another
abbrev pub least_with : ℕ → Option ℕ → ℕ
least_with page None = page
least_with page (Some other) = if nat_lt other page then other else page

-- the same where the slot's page is waiting
abbrev pub older : Slot → Option ℕ → Option ℕ
older x least = if is_waiting x.phase then Some (least_with x.page least) else least

-- the least waiting page of these slots
abbrev pub oldest_among : List Slot → Option ℕ
oldest_among [] = None
oldest_among (x ∷ xs) = older x (oldest_among xs)
