-- Where a page is, as the keeper sees it, and the keeper once it has settled or collected one.
use Rattle.std.specs.Prelude.{◌≡◌, ◌↔◌, ℕ, ◌<◌, List, [], length}
use Rattle.std.specs.List.{Contains, position_or_len}
use Rattle.spie_base.specs.declared.PageShape.{PageShape}
use Rattle.bloom_page.specs.Bits.{members_of}
use Rattle.bloom_page.specs.Sets.{PageSet}
use Rattle.gate_core.specs.declared.limits.TheConstants.{SLOTS}
use Rattle.gate_core.specs.declared.states.PassState.TheVariants.{Idle}
use Rattle.gate_core.specs.declared.states.SlotPhase.{SlotPhase}
use Rattle.gate_core.specs.declared.states.SlotPhase.TheVariants.{Free, Quiet}
use Rattle.gate_core.specs.declared.view.Duties.{Duties}
use Rattle.gate_core.specs.declared.view.View.{View}
use Rattle.gate_core.specs.declared.view.Role.TheVariants.{Keeper}
use Rattle.gate_core.specs.Marks.{size}
use Rattle.gate_core.specs.Views.{slot_at, collected_of}
use Rattle.gate_core.specs.Acts.{after_settle, drained_to}
use Rattle.gate_core.specs.Invariant.{HasPage, SlotsFit, Recorded, taken}
use Rattle.gate_core.specs.Moves.{Plane, MeetsInvariant}
use Rattle.gate_core.specs.PageWords.{stands_with}
use Rattle.page_gate.specs.Held.{Held}

-- ---- where a page is

-- the slot in which a page stands, or as many as there are
abbrev pub slot_with : Duties → (page : ℕ) → ℕ
slot_with d page = position_or_len (stands_with page) d.slots

-- where the page is in its life, and Free where it stands in no slot
abbrev pub phase_with : Duties → (page : ℕ) → SlotPhase
phase_with d page = (slot_at d (slot_with d page)).phase

-- What is so of the slots between any two calls. No public clause cites it
pub record AreKept (d : Duties) : Type 0 where
  pub shape : PageShape
  -- the slots, their pages and the collected words fit each other
  pub fit : SlotsFit shape d
  -- no slot is left half drained
  pub whole : (s : ℕ) → s < SLOTS → taken (slot_at d s).phase ≡ 0

-- What is so of a slot that is quiet and not drained yet. No public clause cites it
pub record IsUntaken (v : View) (slot : ℕ) : Type 0 where
  pub role : v.role ≡ Keeper
  pub near : slot < SLOTS
  pub phase : (slot_at v.duties slot).phase ≡ Quiet 0
  pub four : length v.duties.slots ≡ SLOTS
  pub page : (slot_at v.duties slot).page < length v.duties.collected
  pub none : collected_of v.duties (slot_at v.duties slot).page ≡ []

-- What is so of the slot of a page whose bits are all live. No public clause cites it
pub record CanRead (v : View) (page slot : ℕ) : Type 0 where
  pub role : v.role ≡ Keeper
  pub idle : v.state ≡ Idle
  pub near : slot < SLOTS
  pub stands : HasPage (slot_at v.duties slot).phase
  pub whole : taken (slot_at v.duties slot).phase ≡ 0
  pub here : (slot_at v.duties slot).page ≡ page

-- ---- the keeper afterwards

-- a keeper that has read this gate of the page's slot: the page is quiet where it counts nobody
abbrev pub settled_held : Held → (page gate : ℕ) → Held
settled_held keeper page gate = record keeper { view = after_settle keeper.view (slot_with keeper.view.duties page) gate }

-- a keeper that has collected these words of the page, whose slot is free then
abbrev pub collected_held : Held → (page : ℕ) → (words : List ℕ) → Held
collected_held keeper page words = record keeper { view = drained_to keeper.view (slot_with keeper.view.duties page) Free words }

-- ---- a page that is handed out

-- the page as its collected words have it
abbrev pub collected_page : PageShape → Duties → (page : ℕ) → PageSet
collected_page shape d page = record { n = shape.n; members = members_of (collected_of d page) }

-- at some moment the invariant held with the keeper's view v, and the members were exactly the marks of the entries of the page, of
-- the keeper's and of the passes'
pub record AreAllMarks (shape : PageShape) (v : View) (page : ℕ) (members : List ℕ) : Type 0 where
  pub plane : Plane
  pub rule : MeetsInvariant shape plane
  pub keeper : rule.head ≡ v
  pub marks : (p : ℕ) → p < size shape → Contains members p ↔ Recorded shape plane.views page p
