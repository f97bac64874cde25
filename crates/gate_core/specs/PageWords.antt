-- The words of a page, wherever they are, and what their bits are.
use Rattle.std.specs.Prelude.{◌≡◌, ℕ, ◌==◌, Bool, ◌&&◌, List, [], ◌++◌, length, Option, Some, None, option_map, position, Any}
use Rattle.spie_base.specs.declared.PageShape.{PageShape}
use Rattle.gate_core.specs.declared.states.PassState.{PassState}
use Rattle.gate_core.specs.declared.states.PassState.TheVariants.{Idle, Looked, Inside, Visiting}
use Rattle.gate_core.specs.declared.states.SlotPhase.{SlotPhase}
use Rattle.hash_family.specs.Entries.{IsAmong}
use Rattle.gate_core.specs.Views.{Slot, View, slot_at, collected_of}
use Rattle.gate_core.specs.Invariant.{has_page}
use Rattle.gate_core.specs.Core.{Core, duties_of, live_words}

-- ---- the words

-- the page stands in the slot
abbrev pub stands_with : (page : ℕ) → Slot → Bool
stands_with page slot = has_page slot.phase && (slot.page == page)

-- the slot in which a page stands
abbrev pub slot_with : Core → (page : ℕ) → Option ℕ
slot_with c page = position (stands_with page) (duties_of c).slots

-- where the page is in its life, while it stands in a slot
abbrev pub phase_with : Core → (page : ℕ) → Option SlotPhase
phase_with c page = option_map (λ s. (slot_at (duties_of c) s).phase) (slot_with c page)

-- the slot's live words from one on
abbrev pub live_from : Core → (slot : Option ℕ) → (from : ℕ) → List ℕ
live_from c None from = []
live_from c (Some s) from = live_words c.shape c.words s from

-- the page's words that are collected, and behind them the live ones of the slot in which it stands
abbrev pub page_words : Core → (page : ℕ) → List ℕ
page_words c page = let got = collected_of (duties_of c) page in got ++ live_from c (slot_with c page) (length got)

-- ---- the bits

-- p is a mark that a record inside the page has set
abbrev pub HasSetOf : PageShape → (page : ℕ) → PassState → (p : ℕ) → Type 0
HasSetOf shape page Idle p = ⊥
HasSetOf shape page (Looked s) p = ⊥
HasSetOf shape page (Inside s inside sig m) p = (inside.number ≡ page) × IsAmong shape page sig m p
HasSetOf shape page (Visiting s gate) p = ⊥

-- p is a mark that some record inside the page has set
abbrev pub IsSetInside : PageShape → (page : ℕ) → List View → (p : ℕ) → Type 0
IsSetInside shape page views p = Any (λ (v : View). HasSetOf shape page v.state p) views
